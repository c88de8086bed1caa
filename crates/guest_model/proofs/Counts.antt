-- Counts of the members of a list that are such.
use Rattle.std.proofs.Common.{◌≡◌, ℕ, ◌+◌, inl, inr, List, [], ◌∷◌, ◌++◌, refl, sym, ap, ◌∙◌, arith}
use Rattle.guest_model.specs.Play.{Spot}
use Rattle.guest_model.specs.Tests.{AreHits, HitCounts, IsCount, PassesQuick, PassesRegisters, PassesStack, PassesWhole}

pub count_none : {A : Type 0} (P : A → Type 0) → IsCount P [] 0
unfolding IsCount
count_none P = refl

-- one member more at the end, which is such, and which is not
pub count_yes : {A : Type 0} (P : A → Type 0) (xs : List A) (x : A) (n : ℕ) → P x → IsCount P xs n → IsCount P (xs ++ x ∷ []) (n + 1)
unfolding IsCount
count_yes P [] x n passes counted = inl (passes, (0, (omega (arith, counted), refl)))
count_yes P (y ∷ ys) x n passes (inl (such, (k, (more, rest)))) = inl (such, (k + 1, (omega (arith, more), count_yes P ys x k passes rest)))
count_yes P (y ∷ ys) x n passes (inr (other, rest)) = inr (other, count_yes P ys x n passes rest)

pub count_no : {A : Type 0} (P : A → Type 0) (xs : List A) (x : A) (n : ℕ) → (P x → ⊥) → IsCount P xs n → IsCount P (xs ++ x ∷ []) n
unfolding IsCount
count_no P [] x n fails counted = inr (fails, counted)
count_no P (y ∷ ys) x n fails (inl (such, (k, (more, rest)))) = inl (such, (k, (more, count_no P ys x k fails rest)))
count_no P (y ∷ ys) x n fails (inr (other, rest)) = inr (other, count_no P ys x n fails rest)

-- there is one count
pub count_once : {A : Type 0} (P : A → Type 0) (xs : List A) (n k : ℕ) → IsCount P xs n → IsCount P xs k → n ≡ k
unfolding IsCount
count_once P [] n k h g = h ∙ sym g
count_once P (x ∷ xs) n k (inl (a, (i, (more, rest)))) (inl (b, (j, (less, other)))) = more ∙ ap (λ (m : ℕ). m + 1) (count_once P xs i j rest other) ∙ sym less
count_once P (x ∷ xs) n k (inl (a, (i, (more, rest)))) (inr (fails, other)) = absurd (fails a)
count_once P (x ∷ xs) n k (inr (fails, rest)) (inl (b, (j, (less, other)))) = absurd (fails b)
count_once P (x ∷ xs) n k (inr (fails, rest)) (inr (none, other)) = count_once P xs n k rest other

pub hits_once : (target : Spot) (spots : List Spot) (h k : HitCounts) → AreHits target spots h → AreHits target spots k → h ≡ k
hits_once target spots h k a b =
    let quick = count_once (PassesQuick target) spots h.quick k.quick a.quick b.quick in
    let registers = count_once (PassesRegisters target) spots h.registers k.registers a.registers b.registers in
    let stack = count_once (PassesStack target) spots h.stack k.stack a.stack b.stack in
    let whole = count_once (PassesWhole target) spots h.whole k.whole a.whole b.whole in
    λ i. record { quick = quick i; registers = registers i; stack = stack i; whole = whole i }
