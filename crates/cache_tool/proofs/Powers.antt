-- Powers of two: a number with one bit is one, and a mask gives the rest of a division by one.
use Rattle.std.proofs.Common.{◌≡◌, ◌∙◌, ℕ, suc, zero, ◌+◌, ◌-◌, ◌*◌, ◌/◌, ◌%◌, ◌^◌, ◌<◌, ◌≤◌, refl, sym, ap, arith, rules}
use Rattle.std.proofs.Math.Nat.{pow-suc}
use Rattle.std.proofs.Math.Pow.{pow-lt, pow_mono}
use Rattle.std.proofs.lemmas.Nat.{and_mask, ones_cat, ones_le_self, zero_from_ones}
use Rattle.std.proofs.lemmas.Bool.Decides.{nat_tests}
use Rattle.std.specs.Prelude.{IsTrue}
use Rattle.std.specs.Int.{IsPowerOfTwo}
use Rattle.std.specs.Int.Bits.{bit_and}
use Rattle.std.specs.Int.Count.{ones, ones_in}
use Rattle.cache_tool.specs.Sizes.{is_line, is_sets}

-- the exponent of a power of two, found by the powers beside it
pub same_power : (j k : ℕ) → 2 ^ j ≤ 2 ^ k → 2 ^ k < 2 ^ suc j → j ≡ k
same_power j k low high =
    let below : k < j → 2 ^ k < 2 ^ j = pow-lt {i = k} {j = j} in
    let above : suc j ≤ k → 2 ^ suc j ≤ 2 ^ k = pow_mono {i = suc j} {j = k} in
    grind (arith, below, above)

pub masked : (n sets mask : ℕ) → IsPowerOfTwo sets → mask + 1 ≡ sets → bit_and n mask ≡ n % sets
masked n sets mask power is =
    let low : mask ≡ 2 ^ power.0 - 1 = omega (arith, power.1) in
    ap (bit_and n) low ∙ and_mask n power.0 ∙ ap (λ m. n % m) (sym power.1)

one_bit : ones 1 ≡ 1
unfolding ones
one_bit = refl

-- a number with one bit is a power of two: of half the number, where that has the bit, and 1 where it has not
half_power : (n r : ℕ) → n % 2 ≡ r → ones n ≡ 1 → (ones (n / 2) ≡ 1 → IsPowerOfTwo (n / 2)) → IsPowerOfTwo n
half_power n r e one half =
    let parts : n ≡ n / 2 * 2 ^ 1 + n % 2 = omega arith in
    let whole : ones n ≡ ones (n / 2) + ones (n % 2) = ap ones parts ∙ ones_cat 1 (n / 2) (n % 2) (omega arith) in
    by r e whole
  where
    by : (r : ℕ) → n % 2 ≡ r → ones n ≡ ones (n / 2) + ones (n % 2) → IsPowerOfTwo n
    by zero e whole =
        let few = ones_le_self (n % 2) in
        let power = half (omega (arith, whole, few)) in
        (suc power.0, omega (arith, power.1, pow-suc 2 power.0))
    by (suc zero) e whole =
        let odd = ap ones e ∙ one_bit in
        let none = zero_from_ones (n / 2) (omega (arith, whole, odd)) in
        (0, omega (arith, none))
    by (suc (suc r)) e whole = absurd (omega arith)

from_ones : (m n : ℕ) → n ≤ m → ones n ≡ 1 → IsPowerOfTwo n
from_ones zero n h one = absurd (omega (arith, ones_le_self n))
from_ones (suc m) n h one = half_power n (n % 2) refl one (λ half. from_ones m (n / 2) (omega (arith, ones_le_self n)) half)

pub power_from_ones : (n : ℕ) → ones n ≡ 1 → IsPowerOfTwo n
power_from_ones n = from_ones n n (omega arith)

pub sets_power : (n : ℕ) → IsTrue (is_sets n) → IsPowerOfTwo n
sets_power n h = power_from_ones n (grind (arith, nat_tests))

pub line_power : (n : ℕ) → IsTrue (is_line n) → IsPowerOfTwo n
line_power n h = power_from_ones n (grind (arith, nat_tests))

pub usual_sets : IsTrue (is_sets 64)
unfolding ones ones_in
usual_sets = search rules

pub usual_line : IsTrue (is_line 32)
unfolding ones ones_in
usual_line = search rules
