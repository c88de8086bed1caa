-- Lists behind shared pointers, in three levels.
use Rattle.std.proofs.Common.{◌≡◌, ℕ, ◌/◌, ◌%◌, ◌<◌, ◌≢◌, ◌==◌, ◌++◌, ◌∷◌, [], cond, List, length, get_or, map, refl, sym, ap, ◌∙◌, arith, Option, None, inl, inr, zero, suc, get_or-set_same, get_or-set_other}
use Rattle.std.proofs.Math.ListN.{set, length-set, get_or-map as map_at}
use Rattle.std.proofs.lemmas.Bool.{cases_eq, eq-eqb, ne_eqb, cond-true, cond-false}
use Rattle.std.specs.declared.alloc.Global.{Global}
use Rattle.std.specs.declared.sync.Arc.{Arc}
use Rattle.page_table.specs.Table.{Table, page_at, page_in, shared_list}

-- a list where one entry is another one
pub record OneEntry {X : Type 0} (old new : List (List X)) (place : ℕ) (entry : List X) : Type 0 where
  pub here : get_or new place [] ≡ entry
  pub others : (k : ℕ) → k ≢ place → get_or new k [] ≡ get_or old k []

-- the leaf's one new page, in the branch
pub page_in-set : (old new : List (List (List ℕ))) (leaf : List (List ℕ)) (index q : ℕ) (page : List ℕ) → index % 32 < length leaf
    → OneEntry old new (index / 32) (set leaf (index % 32) page)
    → ((i : ℕ) → get_or leaf i [] ≡ get_or (get_or old (index / 32) []) i [])
    → page_in new q ≡ cond (q == index) page (page_in old q)
page_in-set old new leaf index q page in_leaf one same =
    elim (cases_eq (q / 32) (index / 32)) [
      | inl e ↦
          let at_leaf : get_or new (q / 32) [] ≡ set leaf (index % 32) page = ap (λ k. get_or new k []) e ∙ one.here in
          elim (cases_eq (q % 32) (index % 32)) [
            | inl f ↦
                ap (λ l. get_or l (q % 32) []) at_leaf ∙ ap (λ k. get_or (set leaf (index % 32) page) k []) f ∙ get_or-set_same leaf (index % 32) page [] in_leaf
                ∙ sym (cond-true (q == index) page (page_in old q) (eq-eqb q index (omega arith)))
            | inr ne ↦
                ap (λ l. get_or l (q % 32) []) at_leaf ∙ get_or-set_other leaf (index % 32) (q % 32) page [] ne
                ∙ same (q % 32) ∙ ap (λ k. get_or (get_or old k []) (q % 32) []) (sym e)
                ∙ sym (cond-false (q == index) page (page_in old q) (ne_eqb q index (λ is. ne (ap (λ k. k % 32) is))))
          ]
      | inr ne ↦
          ap (λ l. get_or l (q % 32) []) (one.others (q / 32) ne)
          ∙ sym (cond-false (q == index) page (page_in old q) (ne_eqb q index (λ is. ne (ap (λ k. k / 32) is))))
    ]

-- the branch's one new page, in the whole table
pub page_at-set : (old new : Table) (branch changed : List (List (List ℕ))) (page q : ℕ) (bytes : List ℕ)
    → OneEntry old new (page / 4096) changed
    → ((i : ℕ) → page_in changed i ≡ cond (i == page % 4096) bytes (page_in branch i))
    → ((i : ℕ) → page_in branch i ≡ page_in (get_or old (page / 4096) []) i)
    → page_at new q ≡ cond (q == page) bytes (page_at old q)
page_at-set old new branch changed page q bytes one is same =
    elim (cases_eq (q / 4096) (page / 4096)) [
      | inl e ↦
          ap (λ b. page_in b (q % 4096)) (ap (λ k. get_or new k []) e ∙ one.here) ∙ is (q % 4096)
          ∙ elim (cases_eq (q % 4096) (page % 4096)) [
            | inl f ↦ cond-true _ _ _ (eq-eqb (q % 4096) (page % 4096) f) ∙ sym (cond-true (q == page) bytes (page_at old q) (eq-eqb q page (omega arith)))
            | inr ne ↦
                cond-false _ _ _ (ne_eqb (q % 4096) (page % 4096) ne) ∙ same (q % 4096) ∙ ap (λ k. page_in (get_or old k []) (q % 4096)) (sym e)
                ∙ sym (cond-false (q == page) bytes (page_at old q) (ne_eqb q page (λ same. ne (ap (λ k. k % 4096) same))))
          ]
      | inr ne ↦
          ap (λ b. page_in b (q % 4096)) (one.others (q / 4096) ne)
          ∙ sym (cond-false (q == page) bytes (page_at old q) (ne_eqb q page (λ same. ne (ap (λ k. k / 4096) same))))
    ]

-- an entry that was taken out, and another one that was put in
pub replaced : {X : Type 0} (items : List (Option (Arc (List X) Global))) (place : ℕ) (a b : Option (Arc (List X) Global)) (entry : List X) → place < length items → shared_list b ≡ entry
    → OneEntry (map shared_list items) (map shared_list (set (set items place a) place b)) place entry
replaced items place a b entry lt is = record {
  here = map_at shared_list (set (set items place a) place b) place None ∙ ap shared_list (get_or-set_same (set items place a) place b None (rw length-set lt)) ∙ is;
  others = λ k ne. map_at shared_list (set (set items place a) place b) k None ∙ ap shared_list (get_or-set_other (set items place a) place k b None ne ∙ get_or-set_other items place k a None ne) ∙ sym (map_at shared_list items k None);
}

pub push_default : {X : Type 0} (xs : List X) (d : X) → ((k : ℕ) → get_or xs k d ≡ d) → (k : ℕ) → get_or (xs ++ d ∷ []) k d ≡ d
push_default [] d h zero = refl
push_default [] d h (suc k) = refl
push_default (x ∷ xs) d h zero = h zero
push_default (x ∷ xs) d h (suc k) = push_default xs d (λ j. h (suc j)) k

-- where no entry is there, there is none behind the pointers either
pub none_at : {X : Type 0} (items : List (Option (Arc (List X) Global))) → ((k : ℕ) → get_or items k None ≡ None) → (k : ℕ) → get_or (map shared_list items) k [] ≡ []
none_at items none k = map_at shared_list items k None ∙ ap shared_list (none k)
