-- A search of a table, from its first entry on.
use Rattle.std.proofs.Common.{◌≡◌, ◌<◌, ◌+◌, ℕ, zero, suc, true, false, cond, map, refl, ap, subst, ◌∙◌, arith}
use Rattle.std.specs.Prelude.{Bool, Some, None, find}
use Rattle.std.specs.List.{range_with_len, list_any}
use Rattle.std.proofs.lemmas.List.Elements.{All-from_get_or}
use Rattle.std.proofs.lemmas.List.Folds.{list_any_at, list_any_none}
use Rattle.std.proofs.lemmas.List.FromFn.{get_or-map-range_with_len, length-map-range_with_len}

module _ {X : Type 0} (p : X → Bool) (f : ℕ → X) where
  first_from : (a n k : ℕ) → k < n → ((j : ℕ) → j < k → p (f (a + j)) ≡ false) → p (f (a + k)) ≡ true → find p (map f (range_with_len a n)) ≡ Some (f (a + k))
  first_from a zero k lt before at = absurd (omega arith)
  first_from a (suc n) zero lt before at =
      let e : a + 0 ≡ a = omega arith in
      ap (λ b. cond b (Some (f a)) (find p (map f (range_with_len (a + 1) n)))) (subst (λ i. p (f i) ≡ true) e at)
      ∙ subst (λ i. Some (f a) ≡ Some (f i)) (omega arith) refl
  first_from a (suc n) (suc k) lt before at =
      let e : a + 0 ≡ a = omega arith in
      let next : (j : ℕ) → a + suc j ≡ a + 1 + j = λ j. omega arith in
      ap (λ b. cond b (Some (f a)) (find p (map f (range_with_len (a + 1) n)))) (subst (λ i. p (f i) ≡ false) e (before 0 (omega arith)))
      ∙ (first_from (a + 1) n k (omega arith) (λ j below. subst (λ i. p (f i) ≡ false) (next j) (before (suc j) (omega arith))) (subst (λ i. p (f i) ≡ true) (next k) at)
      ∙ subst (λ i. Some (f (a + 1 + k)) ≡ Some (f i)) (omega arith) refl)

  none_from : (a n : ℕ) → ((j : ℕ) → j < n → p (f (a + j)) ≡ false) → find p (map f (range_with_len a n)) ≡ None
  none_from a zero before = refl
  none_from a (suc n) before =
      let e : a + 0 ≡ a = omega arith in
      let next : (j : ℕ) → a + suc j ≡ a + 1 + j = λ j. omega arith in
      ap (λ b. cond b (Some (f a)) (find p (map f (range_with_len (a + 1) n)))) (subst (λ i. p (f i) ≡ false) e (before 0 (omega arith)))
      ∙ none_from (a + 1) n (λ j below. subst (λ i. p (f i) ≡ false) (next j) (before (suc j) (omega arith)))

  -- the first entry that passes
  pub first_is : (n k : ℕ) → k < n → ((j : ℕ) → j < k → p (f j) ≡ false) → p (f k) ≡ true → find p (map f (range_with_len 0 n)) ≡ Some (f k)
  first_is n k lt before at =
      let zeroth : (j : ℕ) → j ≡ 0 + j = λ j. omega arith in
      first_from 0 n k lt (λ j below. subst (λ i. p (f i) ≡ false) (zeroth j) (before j below)) (subst (λ i. p (f i) ≡ true) (zeroth k) at)
      ∙ subst (λ i. Some (f (0 + k)) ≡ Some (f i)) (omega arith) refl

  -- no entry passes
  pub none_is : (n : ℕ) → ((j : ℕ) → j < n → p (f j) ≡ false) → find p (map f (range_with_len 0 n)) ≡ None
  none_is n before =
      let zeroth : (j : ℕ) → j ≡ 0 + j = λ j. omega arith in
      none_from 0 n (λ j below. subst (λ i. p (f i) ≡ false) (zeroth j) (before j below))

  -- some entry passes
  pub any_is : (n k : ℕ) → k < n → p (f k) ≡ true → list_any p (map f (range_with_len 0 n)) ≡ true
  any_is n k lt at =
      let len = length-map-range_with_len f 0 n in
      list_any_at p (map f (range_with_len 0 n)) k (f 0) (omega arith)
      (ap p (get_or-map-range_with_len f 0 n k k (f 0) lt (omega arith)) ∙ at)

  -- no entry does
  pub not_any_is : (n : ℕ) → ((j : ℕ) → j < n → p (f j) ≡ false) → list_any p (map f (range_with_len 0 n)) ≡ false
  not_any_is n before =
      let len = length-map-range_with_len f 0 n in
      list_any_none p (map f (range_with_len 0 n))
      (All-from_get_or (λ x. p x ≡ false) (map f (range_with_len 0 n)) (f 0)
      (λ j lt. ap p (get_or-map-range_with_len f 0 n j j (f 0) (omega arith) (omega arith)) ∙ before j (omega arith)))
