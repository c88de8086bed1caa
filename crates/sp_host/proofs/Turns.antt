-- The turns of a pacer that grants each so many asks.
use Rattle.std.proofs.Common.{◌≡◌, ◌≢◌, ℕ, ◌+◌, ◌-◌, ◌<◌, ◌≤◌, ◌%◌, ◌==◌, ap, sym, ◌∙◌, arith}
use Rattle.std.proofs.Math.Nat.{add-mod_left, mod-eq_of_lt}
use Rattle.sp_host.specs.EveryPacer.{answer_in_turn}

-- The turns are counted anew behind the last one.
pub turn_over : (every left : ℕ) → 0 < every → left ≡ 1 → answer_in_turn every (every - every) ≡ (λ k. answer_in_turn every (every - left) (k + 1))
turn_over every left some last =
    let from : (k : ℕ) → every - every + k ≡ k = λ k. omega arith in
    let to : (k : ℕ) → every - left + (k + 1) ≡ every + k = λ k. omega arith in
    let same : (k : ℕ) → answer_in_turn every (every - every) k ≡ answer_in_turn every (every - left) (k + 1) =
    λ k. ap (λ n. n % every == 0) (from k) ∙ sym (ap (λ n. n == 0) (add-mod_left every k)) ∙ sym (ap (λ n. n % every == 0) (to k)) in
    λ i k. same k i

-- Before the last of its turns the next answer is false.
pub turn_stays : (every left : ℕ) → 0 < left → left ≤ every → left ≢ 1 → (left == 1) ≡ answer_in_turn every (every - left) 1
turn_stays every left some within more =
    let small : every - left + 1 < every = omega (arith, some, within, more) in
    let rest : (every - left + 1) % every ≡ every - left + 1 = mod-eq_of_lt small in
    let none : (left == 1) ≡ (every - left + 1 == 0) = grind (arith, more) in
    none ∙ sym (ap (λ n. n == 0) rest)
