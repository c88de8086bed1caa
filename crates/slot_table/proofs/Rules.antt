-- The list of all slots behind two levels.
use Rattle.std.proofs.Common.{◌≡◌, ℕ, ◌+◌, ◌-◌, ◌*◌, ◌/◌, ◌%◌, ◌^◌, ◌<◌, ◌≤◌, ◌≢◌, ◌==◌, ◌++◌, Bool, true, cond, refl, List, length, get_or, replicate, ap, sym, ◌∙◌, arith, length-append, get_or-set_same, get_or-set_other, inl, inr}
use Rattle.std.proofs.Math.ListN.{set, length-set}
use Rattle.std.specs.Prelude.{nat_le}
use Rattle.std.proofs.lemmas.Bool.{cases_eq, cases_lt, cond-true, cond-false, eq-eqb, ne_eqb}
use Rattle.std.proofs.lemmas.Bool.Decides.{nat_tests}
use Rattle.std.proofs.lemmas.List.{get_or_append_left, get_or-append_right, get_or-replicate, get_or_past, length-replicate, ext_get_or}
use Rattle.std.proofs.lemmas.List.Sums.{sum_by-set, count_by-le-length}
use Rattle.std.proofs.lemmas.List.Folds.{sum_by-replicate}
use Rattle.slot_table.specs.declared.slot.Slot.{Slot}
use Rattle.slot_table.specs.declared.slot.Slot.TheVariants.{Unchanged}
use Rattle.slot_table.specs.Slots.{all_unchanged, sheet, slot_at}
use Rattle.slot_table.specs.Sparse.{entry, leaf_count, IsSparse}
use Rattle.slot_table.proofs.Sheets.{get_or-sheet, length-sheet, sheet-same}

-- a list of one thing has it at each index, and it is the default behind the end
pub same_at : {X : Type 0} (n : ℕ) (x : X) (k : ℕ) → get_or (replicate n x) k x ≡ x
same_at n x k = elim (cases_lt k n) [
  | inl lt ↦ get_or-replicate n k x x lt
  | inr ge ↦ get_or_past (replicate n x) k x (omega (arith, length-replicate n x))
]

leaf_count-zeros : (n : ℕ) → leaf_count (replicate n 0) ≡ 0
unfolding leaf_count
leaf_count-zeros n = omega (arith, sum_by-replicate (λ (d : ℕ). cond (nat_le 1 d) 1 0) n 0)

leaf_count-none : (directory : List ℕ) → ((c : ℕ) → get_or directory c 0 ≡ 0) → leaf_count directory ≡ 0
leaf_count-none directory none =
    let is : directory ≡ replicate (length directory) 0 = ext_get_or 0 directory (replicate (length directory) 0) (sym (length-replicate {A = ℕ} (length directory) 0)) (λ k lt. none k ∙ sym (same_at {X = ℕ} (length directory) 0 k)) in
    ap leaf_count is ∙ leaf_count-zeros (length directory)

leaf_count-le : (directory : List ℕ) → leaf_count directory ≤ length directory
unfolding leaf_count
leaf_count-le directory = count_by-le-length (nat_le 1) directory

positive : (n : ℕ) → 0 < n → nat_le 1 n ≡ true
positive n lt = grind (arith, nat_tests)

leaf_count-set : (directory : List ℕ) (c n : ℕ) → c < length directory → get_or directory c 0 ≡ 0 → 0 < n → leaf_count (set directory c n) ≡ leaf_count directory + 1
unfolding leaf_count
leaf_count-set directory c n lt zero_is some =
    let here = sum_by-set (λ (d : ℕ). cond (nat_le 1 d) 1 0) directory c n 0 lt in
    let none : cond {A = ℕ} (nat_le 1 (get_or directory c 0)) 1 0 ≡ 0 = ap (λ d. cond {A = ℕ} (nat_le 1 d) 1 0) zero_is in
    let one : cond {A = ℕ} (nat_le 1 n) 1 0 ≡ 1 = ap (λ (b : Bool). cond {A = ℕ} b 1 0) (positive n some) in
    omega (arith, here, none, one)

-- each chunk has leaf 0
pub sparse_blank : (directory : List ℕ) (leaves : List Slot) → length directory ≡ 1024 → ((c : ℕ) → get_or directory c 0 ≡ 0) → length leaves ≡ 1024 → ((i : ℕ) → i < 1024 → get_or leaves i Unchanged ≡ Unchanged) → IsSparse directory leaves
sparse_blank directory leaves len none leaf_len blank =
    let count = leaf_count-none directory none in
    record {
      directory_len = len;
      leaves_len = omega arith;
      inside = λ c. omega (arith, none c);
      apart = λ c e ne _. absurd (ne (none c));
      blank = blank;
    }

pub sheet-blank : (directory : List ℕ) (leaves : List Slot) → ((c : ℕ) → get_or directory c 0 ≡ 0) → ((i : ℕ) → i < 1024 → get_or leaves i Unchanged ≡ Unchanged) → sheet (entry directory leaves) ≡ all_unchanged
unfolding entry all_unchanged
sheet-blank directory leaves none blank = sheet-same (λ _. Unchanged) (λ page. get_or leaves (1024 * get_or directory (page / 1024) 0 + page % 1024) Unchanged)
    (λ q lt. ap (λ k. get_or leaves (1024 * k + q % 1024) Unchanged) (none (q / 1024)) ∙ blank (1024 * 0 + q % 1024) (omega arith))

-- one leaf of slots over whose pages nothing stands
pub sparse_new : (directory : List ℕ) (leaves : List Slot) → directory ≡ replicate 1024 0 → leaves ≡ replicate 1024 Unchanged → IsSparse directory leaves
sparse_new directory leaves d l = sparse_blank directory leaves
    (ap length d ∙ length-replicate {A = ℕ} 1024 0) (λ c. ap (λ xs. get_or xs c 0) d ∙ same_at {X = ℕ} 1024 0 c)
    (ap length l ∙ length-replicate {A = Slot} 1024 Unchanged) (λ i _. ap (λ xs. get_or xs i Unchanged) l ∙ same_at 1024 Unchanged i)

pub sheet-new : (directory : List ℕ) (leaves : List Slot) → directory ≡ replicate 1024 0 → leaves ≡ replicate 1024 Unchanged → sheet (entry directory leaves) ≡ all_unchanged
sheet-new directory leaves d l = sheet-blank directory leaves (λ c. ap (λ xs. get_or xs c 0) d ∙ same_at {X = ℕ} 1024 0 c) (λ i _. ap (λ xs. get_or xs i Unchanged) l ∙ same_at 1024 Unchanged i)

-- a leaf more, for a chunk that has none of its own
pub sparse_more : (directory : List ℕ) (leaves : List Slot) (chunk n : ℕ) → chunk < 1024 → get_or directory chunk 0 ≡ 0 → n ≡ leaf_count directory + 1 → IsSparse directory leaves → IsSparse (set directory chunk n) (leaves ++ replicate 1024 Unchanged)
sparse_more directory leaves chunk n lt none is s =
    let count = leaf_count-set directory chunk n (omega (arith, lt, s.directory_len)) none (omega arith) in
    let len = length-set directory chunk n in
    let here = get_or-set_same directory chunk n 0 (omega (arith, lt, s.directory_len)) in
    let other : (c : ℕ) → c ≢ chunk → get_or (set directory chunk n) c 0 ≡ get_or directory c 0 = λ c ne. get_or-set_other directory chunk c n 0 ne in
    record {
      directory_len = omega (arith, len, s.directory_len);
      leaves_len = omega (arith, length-append leaves (replicate 1024 Unchanged), length-replicate {A = Slot} 1024 Unchanged, s.leaves_len, count);
      inside = λ c. elim (cases_eq c chunk) [
        | inl e ↦ let at_c = ap (λ k. get_or (set directory chunk n) k 0) e ∙ here in omega arith
        | inr ne ↦ let at_c = other c ne in let below = s.inside c in omega arith
      ];
      apart = λ c d some e. elim (cases_eq c chunk) [
        | inl ce ↦ elim (cases_eq d chunk) [
          | inl de ↦ ce ∙ sym de
          | inr dne ↦
              let at_c = ap (λ k. get_or (set directory chunk n) k 0) ce ∙ here in
              let at_d = other d dne in let below = s.inside d in absurd (omega arith)
        ]
        | inr cne ↦ elim (cases_eq d chunk) [
          | inl de ↦
              let at_d = ap (λ k. get_or (set directory chunk n) k 0) de ∙ here in
              let at_c = other c cne in let below = s.inside c in absurd (omega arith)
          | inr dne ↦ s.apart c d (λ z. some (other c cne ∙ z)) (sym (other c cne) ∙ e ∙ other d dne)
        ]
      ];
      blank = λ i less. get_or_append_left leaves (replicate 1024 Unchanged) Unchanged i (omega (arith, s.leaves_len)) ∙ s.blank i less;
    }

-- the slots stay
pub entry_more : (directory : List ℕ) (leaves : List Slot) (chunk n : ℕ) → chunk < 1024 → get_or directory chunk 0 ≡ 0 → n ≡ leaf_count directory + 1 → IsSparse directory leaves
    → (q : ℕ) → entry (set directory chunk n) (leaves ++ replicate 1024 Unchanged) q ≡ entry directory leaves q
unfolding entry
entry_more directory leaves chunk n lt none is s q =
    elim (cases_eq (q / 1024) chunk) [
      | inl e ↦
          let here : get_or (set directory chunk n) (q / 1024) 0 ≡ n = ap (λ k. get_or (set directory chunk n) k 0) e ∙ get_or-set_same directory chunk n 0 (omega (arith, lt, s.directory_len)) in
          let was : get_or directory (q / 1024) 0 ≡ 0 = ap (λ k. get_or directory k 0) e ∙ none in
          let len : length leaves ≡ 1024 * n = omega (arith, s.leaves_len, is) in
          ap (λ k. get_or (leaves ++ replicate 1024 Unchanged) (1024 * k + q % 1024) Unchanged) here
          ∙ get_or-append_right leaves (replicate 1024 Unchanged) (1024 * n) (1024 * n + q % 1024) Unchanged len (omega arith)
          ∙ same_at 1024 Unchanged (1024 * n + q % 1024 - 1024 * n)
          ∙ sym (ap (λ k. get_or leaves (1024 * k + q % 1024) Unchanged) was ∙ s.blank (1024 * 0 + q % 1024) (omega arith))
      | inr ne ↦
          let same = get_or-set_other directory chunk (q / 1024) n 0 ne in
          let below = s.inside (q / 1024) in
          let len = s.leaves_len in
          ap (λ k. get_or (leaves ++ replicate 1024 Unchanged) (1024 * k + q % 1024) Unchanged) same
          ∙ get_or_append_left leaves (replicate 1024 Unchanged) Unchanged (1024 * get_or directory (q / 1024) 0 + q % 1024) (omega arith)
    ]

pub cell_in : (directory : List ℕ) (leaves : List Slot) (page : ℕ) → IsSparse directory leaves → 1024 * get_or directory (page / 1024) 0 + page % 1024 < length leaves
cell_in directory leaves page s = let below = s.inside (page / 1024) in let len = s.leaves_len in omega arith

-- one slot is another one, in a leaf that its chunk has for itself
pub sparse_set : (directory : List ℕ) (leaves : List Slot) (page : ℕ) (slot : Slot) → get_or directory (page / 1024) 0 ≢ 0 → IsSparse directory leaves → IsSparse directory (set leaves (1024 * get_or directory (page / 1024) 0 + page % 1024) slot)
sparse_set directory leaves page slot own s = record {
  directory_len = s.directory_len;
  leaves_len = length-set leaves _ slot ∙ s.leaves_len;
  inside = s.inside;
  apart = s.apart;
  blank = λ i less. get_or-set_other leaves (1024 * get_or directory (page / 1024) 0 + page % 1024) i slot Unchanged (λ e. absurd (omega (arith, own))) ∙ s.blank i less;
}

two_cells : (a b i j : ℕ) → i < 1024 → j < 1024 → 1024 * a + i ≡ 1024 * b + j → (a ≡ b) × (i ≡ j)
two_cells a b i j lt lt' e = (omega arith, omega arith)

pub entry_set : (directory : List ℕ) (leaves : List Slot) (page : ℕ) (slot : Slot) → get_or directory (page / 1024) 0 ≢ 0 → IsSparse directory leaves
    → (q : ℕ) → entry directory (set leaves (1024 * get_or directory (page / 1024) 0 + page % 1024) slot) q ≡ cond (q == page) slot (entry directory leaves q)
unfolding entry
entry_set directory leaves page slot own s q =
    elim (cases_eq q page) [
      | inl e ↦
          ap (λ p. get_or (set leaves (1024 * get_or directory (page / 1024) 0 + page % 1024) slot) (1024 * get_or directory (p / 1024) 0 + p % 1024) Unchanged) e
          ∙ get_or-set_same leaves (1024 * get_or directory (page / 1024) 0 + page % 1024) slot Unchanged (cell_in directory leaves page s)
          ∙ sym (cond-true (q == page) slot _ (eq-eqb q page e))
      | inr ne ↦
          get_or-set_other leaves (1024 * get_or directory (page / 1024) 0 + page % 1024) (1024 * get_or directory (q / 1024) 0 + q % 1024) slot Unchanged
          (λ e. ne (let two = two_cells (get_or directory (q / 1024) 0) (get_or directory (page / 1024) 0) (q % 1024) (page % 1024) (omega arith) (omega arith) e in
          let chunk : page / 1024 ≡ q / 1024 = s.apart (page / 1024) (q / 1024) own (sym two.0) in
          let rest = two.1 in
          omega arith))
          ∙ sym (cond-false (q == page) slot _ (ne_eqb q page ne))
    ]

pub entry_is : (directory : List ℕ) (leaves : List Slot) (page : ℕ) → entry directory leaves page ≡ get_or leaves (1024 * get_or directory (page / 1024) 0 + page % 1024) Unchanged
unfolding entry
entry_is directory leaves page = refl

-- the slot that is found is that of the list of all slots
pub found_slot : (directory : List ℕ) (leaves slots : List Slot) (page : ℕ) → page < 2 ^ 20 → sheet (entry directory leaves) ≡ slots → get_or leaves (1024 * get_or directory (page / 1024) 0 + page % 1024) Unchanged ≡ slot_at slots page
found_slot directory leaves slots page lt e = sym (entry_is directory leaves page) ∙ sym (get_or-sheet (entry directory leaves) page lt) ∙ ap (λ l. get_or l page Unchanged) e

-- nothing stands over the pages of a chunk that has leaf 0
pub no_leaf : (directory : List ℕ) (leaves slots : List Slot) (page q : ℕ) → get_or directory (page / 1024) 0 ≡ 0 → IsSparse directory leaves → sheet (entry directory leaves) ≡ slots → q < 2 ^ 20 → q / 1024 ≡ page / 1024 → slot_at slots q ≡ Unchanged
no_leaf directory leaves slots page q none s e lt same =
    sym (found_slot directory leaves slots q lt e)
    ∙ ap (λ c. get_or leaves (1024 * get_or directory c 0 + q % 1024) Unchanged) same
    ∙ ap (λ k. get_or leaves (1024 * k + q % 1024) Unchanged) none
    ∙ s.blank (1024 * 0 + q % 1024) (omega arith)

pub leaf_left : (directory : List ℕ) (leaves : List Slot) → IsSparse directory leaves → 1024 ≤ length leaves
leaf_left directory leaves s = let len = s.leaves_len in omega arith

-- a chunk has no leaf of its own, so there are fewer leaves than there can be
pub few_leaves : (directory : List ℕ) (leaves : List Slot) (c n : ℕ) → c < 1024 → get_or directory c 0 ≡ 0 → IsSparse directory leaves → n ≡ length leaves / 1024 → (n ≡ leaf_count directory + 1) × (n ≤ 1024)
few_leaves directory leaves c n lt none s is =
    let more = leaf_count-set directory c 1 (omega (arith, lt, s.directory_len)) none (omega arith) in
    let le = leaf_count-le (set directory c 1) in
    let len = length-set directory c 1 in
    let leaves_len = s.leaves_len in
    let all = s.directory_len in
    (omega arith, omega arith)

pub ruleset table_rules = (get_or-sheet, sheet-same, length-sheet, cell_in, sparse_new, sheet-new, found_slot)
