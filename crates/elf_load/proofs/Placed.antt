-- What `by_address` keeps of its entries.
use Rattle.std.proofs.Common.{◌≡◌, ◌<◌, ◌≤◌, ◌+◌, ℕ, zero, suc, List, [], ◌∷◌, length, get_or, true, false, refl, sym, ap, subst, ◌∙◌, arith, inl, inr}
use Rattle.std.specs.Prelude.{Bool, ◌&&◌, ◌||◌, ◌==◌, sum_by}
use Rattle.std.specs.declared.cmp.Ordering.TheVariants.{Less, Equal, Greater}
use Rattle.std.specs.Cmp.{ranks}
use Rattle.std.specs.List.{list_any}
use Rattle.std.specs.Map.{values_of}
use Rattle.std.specs.Ordering.{nat_cmp, match_ordering, MatchOrdering}
use Rattle.std.specs.BTreeMap.{insert_entry}
use Rattle.std.proofs.lemmas.Bool.{cases_Bool, eqb-true}
use Rattle.std.proofs.lemmas.List.Sums.{sum_by-cons}
use Rattle.elf_load.specs.Symbols.{by_address}

or_first : (a b : Bool) → a ≡ true → (a || b) ≡ true
or_first a b is = ap (λ (x : Bool). x || b) is

or_last : (a b : Bool) → b ≡ true → (a || b) ≡ true
or_last true b is = refl
or_last false b is = is

pub or_kept : (a b c d : Bool) → (a ≡ true → c ≡ true) → (b ≡ true → d ≡ true) → (a || b) ≡ true → (c || d) ≡ true
or_kept true b c d f g h = or_first c d (f refl)
or_kept false b c d f g h = or_last c d (g h)

module _ {X : Type 0} where
  -- one step of an insertion, by how the addresses compare
  insert_by : (P : List (ℕ × X) → Type 0) (e : ℕ × X) (es : List (ℕ × X)) (k : ℕ) (v : X) → (k < e.0 → P ((k, v) ∷ e ∷ es)) → (k ≡ e.0 → P ((e.0, v) ∷ es)) → (e.0 < k → P (e ∷ insert_entry nat_cmp es k v)) → P (insert_entry nat_cmp (e ∷ es) k v)
  insert_by P e es k v less equal greater =
      (elim (nat_cmp k e.0) as (λ o. MatchOrdering o (k < e.0) (k ≡ e.0) (e.0 < k) → P (match_ordering o ((k, v) ∷ e ∷ es) ((e.0, v) ∷ es) (e ∷ insert_entry nat_cmp es k v))) [
        | Less ↦ λ h. less h
        | Equal ↦ λ h. equal h
        | Greater ↦ λ h. greater h
      ]) (ranks k e.0)

  -- the addresses rise, from x on
  unfoldable pub Rises : ℕ → List (ℕ × X) → Type 0
  Rises x [] = Unit {0}
  Rises x (e ∷ es) = (x ≤ e.0) × Rises (e.0 + 1) es

  rises_insert : (x : ℕ) (es : List (ℕ × X)) (k : ℕ) (v : X) → Rises x es → x ≤ k → Rises x (insert_entry nat_cmp es k v)
  unfolding Rises
  rises_insert x [] k v all le = (le, tt)
  rises_insert x (e ∷ es) k v all le =
      insert_by (Rises x) e es k v
      (λ less. (le, (omega arith, all.1)))
      (λ equal. all)
      (λ greater. (all.0, rises_insert (e.0 + 1) es k v all.1 (omega arith)))

  pub by_address_rises : (es : List (ℕ × X)) → Rises 0 (by_address es)
  unfolding by_address Rises
  by_address_rises [] = tt
  by_address_rises (e ∷ es) = rises_insert 0 (by_address es) e.0 e.1 (by_address_rises es) (omega arith)

  rises_at : (x : ℕ) (es : List (ℕ × X)) (j : ℕ) (d : ℕ × X) → Rises x es → j < length es → x ≤ (get_or es j d).0
  unfolding Rises
  rises_at x [] j d all lt = absurd (omega arith)
  rises_at x (e ∷ es) zero d all lt = all.0
  rises_at x (e ∷ es) (suc j) d all lt =
      let later = rises_at (e.0 + 1) es j d all.1 (omega arith) in
      let first = all.0 in
      omega arith

  pub rises_apart : (x : ℕ) (es : List (ℕ × X)) (i j : ℕ) (d : ℕ × X) → Rises x es → i < j → j < length es → (get_or es i d).0 < (get_or es j d).0
  unfolding Rises
  rises_apart x [] i j d all before lt = absurd (omega arith)
  rises_apart x (e ∷ es) i zero d all before lt = absurd (omega arith)
  rises_apart x (e ∷ es) zero (suc j) d all before lt =
      let later = rises_at (e.0 + 1) es j d all.1 (omega arith) in
      omega arith
  rises_apart x (e ∷ es) (suc i) (suc j) d all before lt = rises_apart (e.0 + 1) es i j d all.1 (omega arith) (omega arith)

  -- what holds of each entry
  unfoldable pub Each : (ℕ × X → Type 0) → List (ℕ × X) → Type 0
  Each P [] = Unit {0}
  Each P (e ∷ es) = P e × Each P es

  each_insert : (P : ℕ × X → Type 0) (es : List (ℕ × X)) (k : ℕ) (v : X) → Each P es → P (k, v) → Each P (insert_entry nat_cmp es k v)
  unfolding Each
  each_insert P [] k v all new = (new, tt)
  each_insert P (e ∷ es) k v all new =
      insert_by (Each P) e es k v
      (λ less. (new, all))
      (λ equal. (subst (λ n. P (n, v)) equal new, all.1))
      (λ greater. (all.0, each_insert P es k v all.1 new))

  pub each_by_address : (P : ℕ × X → Type 0) (es : List (ℕ × X)) → Each P es → Each P (by_address es)
  unfolding by_address Each
  each_by_address P [] all = tt
  each_by_address P (e ∷ es) all = each_insert P (by_address es) e.0 e.1 (each_by_address P es all.1) all.0

  pub each_at : (P : ℕ × X → Type 0) (es : List (ℕ × X)) (j : ℕ) (d : ℕ × X) → Each P es → j < length es → P (get_or es j d)
  unfolding Each
  each_at P [] j d all lt = absurd (omega arith)
  each_at P (e ∷ es) zero d all lt = all.0
  each_at P (e ∷ es) (suc j) d all lt = each_at P es j d all.1 (omega arith)

  -- a sum over the values does not grow
  sum_insert : (f : X → ℕ) (es : List (ℕ × X)) (k : ℕ) (v : X) → sum_by f (values_of (insert_entry nat_cmp es k v)) ≤ f v + sum_by f (values_of es)
  sum_insert f [] k v = omega (arith, sum_by-cons f v [])
  sum_insert f (e ∷ es) k v =
      let rest = sum_insert f es k v in
      let here = sum_by-cons f e.1 (values_of es) in
      insert_by (λ new. sum_by f (values_of new) ≤ f v + sum_by f (values_of (e ∷ es))) e es k v
      (λ less. omega (arith, sum_by-cons f v (values_of (e ∷ es))))
      (λ equal. omega (arith, sum_by-cons f v (values_of es)))
      (λ greater. omega (arith, sum_by-cons f e.1 (values_of (insert_entry nat_cmp es k v))))

  pub sum_by_address : (f : X → ℕ) (es : List (ℕ × X)) → sum_by f (values_of (by_address es)) ≤ sum_by f (values_of es)
  unfolding by_address
  sum_by_address f [] = omega arith
  sum_by_address f (e ∷ es) = omega (arith, sum_insert f (by_address es) e.0 e.1, sum_by_address f es, sum_by-cons f e.1 (values_of es))

  length_insert : (es : List (ℕ × X)) (k : ℕ) (v : X) → length (insert_entry nat_cmp es k v) ≤ length es + 1
  length_insert [] k v = omega arith
  length_insert (e ∷ es) k v =
      let rest = length_insert es k v in
      insert_by (λ new. length new ≤ length (e ∷ es) + 1) e es k v
      (λ less. omega arith) (λ equal. omega arith) (λ greater. omega arith)

  pub length_by_address : (es : List (ℕ × X)) → length (by_address es) ≤ length es
  unfolding by_address
  length_by_address [] = omega arith
  length_by_address (e ∷ es) = omega (arith, length_insert (by_address es) e.0 e.1, length_by_address es)

  -- an entry of this address passes
  abbrev pub passes_at : ℕ → (X → Bool) → ℕ × X → Bool
  passes_at q t e = (e.0 == q) && t e.1

  insert_passes : (q : ℕ) (t : X → Bool) (es : List (ℕ × X)) (k : ℕ) (v : X) → passes_at q t (k, v) ≡ true → list_any (passes_at q t) (insert_entry nat_cmp es k v) ≡ true
  insert_passes q t [] k v is = or_first (passes_at q t (k, v)) false is
  insert_passes q t (e ∷ es) k v is =
      let rest = insert_passes q t es k v is in
      insert_by (λ new. list_any (passes_at q t) new ≡ true) e es k v
      (λ less. or_first (passes_at q t (k, v)) (list_any (passes_at q t) (e ∷ es)) is)
      (λ equal. or_first (passes_at q t (e.0, v)) (list_any (passes_at q t) es) (ap (λ n. passes_at q t (n, v)) (sym equal) ∙ is))
      (λ greater. or_last (passes_at q t e) (list_any (passes_at q t) (insert_entry nat_cmp es k v)) rest)

  insert_keeps : (q : ℕ) (t : X → Bool) (es : List (ℕ × X)) (k : ℕ) (v : X) → (k == q) ≡ false → list_any (passes_at q t) es ≡ true → list_any (passes_at q t) (insert_entry nat_cmp es k v) ≡ true
  insert_keeps q t [] k v other is = cc
  insert_keeps q t (e ∷ es) k v other is =
      let rest = insert_keeps q t es k v other in
      insert_by (λ new. list_any (passes_at q t) new ≡ true) e es k v
      (λ less. or_last (passes_at q t (k, v)) (list_any (passes_at q t) (e ∷ es)) is)
      (λ equal. or_last (passes_at q t (e.0, v)) (list_any (passes_at q t) es) (ap (λ (b : Bool). (b && t e.1) || list_any (passes_at q t) es) (sym (ap (λ n. n == q) (sym equal) ∙ other)) ∙ is))
      (λ greater. or_kept (passes_at q t e) (list_any (passes_at q t) es) (passes_at q t e) (list_any (passes_at q t) (insert_entry nat_cmp es k v)) (λ h. h) rest is)

  -- where each entry of an address passes, and there is one, one stays
  pub by_address_keeps : (q : ℕ) (t : X → Bool) (es : List (ℕ × X)) → Each (λ e. e.0 ≡ q → t e.1 ≡ true) es → list_any (λ e. e.0 == q) es ≡ true → list_any (passes_at q t) (by_address es) ≡ true
  unfolding by_address Each
  by_address_keeps q t [] all is = cc
  by_address_keeps q t (e ∷ es) all is =
      elim (cases_Bool (e.0 == q)) [
        | inl same ↦ insert_passes q t (by_address es) e.0 e.1 (ap (λ (b : Bool). b && t e.1) same ∙ all.0 (eqb-true e.0 q same))
        | inr other ↦ insert_keeps q t (by_address es) e.0 e.1 other (by_address_keeps q t es all.1 (ap (λ (b : Bool). b || list_any (λ f. f.0 == q) es) (sym other) ∙ is))
      ]
