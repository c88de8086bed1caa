-- Hexadecimal digits, the last apart.
use Rattle.std.proofs.Common.{◌≡◌, ◌<◌, ◌≤◌, ◌*◌, ◌/◌, ◌%◌, ◌^◌, ◌++◌, ◌==◌, ◌∙◌, ℕ, zero, suc, Bool, true, false, List, [], ◌∷◌, refl, sym, ap, append_assoc, arith}
use Rattle.std.specs.Prelude.{if◌then◌else◌}
use Rattle.std.specs.Fmt.{digit_glyph, digits, digits_onto}
use Rattle.std.proofs.lemmas.Bool.Decides.{nat_tests}
use Rattle.sp_report.specs.Digits.{hex_digit}

same_zero : (n : ℕ) → (n == 0) ≡ false → 0 < n
same_zero n e = grind (arith, nat_tests)

-- the numbers of at most d + 1 digits are below this
abbrev above : ℕ → ℕ
above zero = 16
above (suc d) = 16 * above d

-- the digits of such a number, in front of others
last_apart : (d k n g : ℕ) (acc : List ℕ) → n < above d → d < k → digits_onto k 16 false n (acc ++ g ∷ []) ≡ digits_onto (suc k) 16 false n acc ++ g ∷ []
last_apart d zero n g acc small within = absurd (omega arith)
last_apart zero (suc j) n g acc small within = by (n / 16 == 0) refl
  where
    by : (t : Bool) → (n / 16 == 0) ≡ t
        → (if t then digit_glyph false (n % 16) ∷ (acc ++ g ∷ []) else digits_onto j 16 false (n / 16) (digit_glyph false (n % 16) ∷ (acc ++ g ∷ [])))
        ≡ (if t then digit_glyph false (n % 16) ∷ acc else digits_onto (suc j) 16 false (n / 16) (digit_glyph false (n % 16) ∷ acc)) ++ g ∷ []
    by true e = refl
    by false e = absurd (omega (arith, same_zero (n / 16) e, small))
last_apart (suc d) (suc j) n g acc small within = by (n / 16 == 0) refl (last_apart d j (n / 16) g (digit_glyph false (n % 16) ∷ acc) (fewer d n small) (omega (arith, within)))
  where
    by : (t : Bool) → (n / 16 == 0) ≡ t
        → digits_onto j 16 false (n / 16) ((digit_glyph false (n % 16) ∷ acc) ++ g ∷ []) ≡ digits_onto (suc j) 16 false (n / 16) (digit_glyph false (n % 16) ∷ acc) ++ g ∷ []
        → (if t then digit_glyph false (n % 16) ∷ (acc ++ g ∷ []) else digits_onto j 16 false (n / 16) (digit_glyph false (n % 16) ∷ (acc ++ g ∷ [])))
        ≡ (if t then digit_glyph false (n % 16) ∷ acc else digits_onto (suc j) 16 false (n / 16) (digit_glyph false (n % 16) ∷ acc)) ++ g ∷ []
    by true e rest = refl
    by false e rest = rest

    fewer : (d n : ℕ) → n < 16 * above d → n / 16 < above d
    fewer d n h = omega (arith, h)

hex_more : (n : ℕ) → 16 ≤ n → n < 2 ^ 20 → digits 16 false (n / 16) ++ hex_digit (n % 16) ∷ [] ≡ digits 16 false n
unfolding digits
hex_more n large small = by (n / 16 == 0) refl
  where
    by : (t : Bool) → (n / 16 == 0) ≡ t
        → digits_onto 64 16 false (n / 16) [] ++ hex_digit (n % 16) ∷ []
        ≡ (if t then digit_glyph false (n % 16) ∷ [] else digits_onto 63 16 false (n / 16) (digit_glyph false (n % 16) ∷ []))
    by true e = absurd (grind (arith, nat_tests, e, large))
    by false e = sym (last_apart 4 63 (n / 16) (digit_glyph false (n % 16)) [] (omega (arith, small)) (omega arith))

pub hex_last : (n : ℕ) → n < 16 → hex_digit n ∷ [] ≡ digits 16 false n
unfolding digits
hex_last n small = by (n / 16 == 0) refl
  where
    same : n % 16 ≡ n
    same = omega (arith, small)

    by : (t : Bool) → (n / 16 == 0) ≡ t → hex_digit n ∷ [] ≡ (if t then digit_glyph false (n % 16) ∷ [] else digits_onto 63 16 false (n / 16) (digit_glyph false (n % 16) ∷ []))
    by true e = ap (λ d. digit_glyph false d ∷ []) (sym same)
    by false e = absurd (omega (arith, same_zero (n / 16) e, small))

pub more_behind : (text : List ℕ) (n : ℕ) → 16 ≤ n → n < 2 ^ 20 → (text ++ digits 16 false (n / 16)) ++ hex_digit (n % 16) ∷ [] ≡ text ++ digits 16 false n
more_behind text n large small = append_assoc text (digits 16 false (n / 16)) (hex_digit (n % 16) ∷ []) ∙ ap (λ xs. text ++ xs) (hex_more n large small)
