-- What `parse` makes of decimal digits without a sign.
use Rattle.std.proofs.Common.{◌≡◌, ◌∙◌, ◌<◌, ◌^◌, ◌==◌, ◌&&◌, ℕ, Bool, not, length, true, false, List, [], ◌∷◌, refl, sym, subst, ap, arith, None, Result, Ok, Err}
use Rattle.std.specs.List.{list_all}
use Rattle.std.specs.Char.{digit_value}
use Rattle.std.specs.Prelude.{nat_le}
use Rattle.std.specs.Str.Parse.{AllDigits, IsNumeral, ParsesUnsigned, digits_value, without_leading_plus}
use Rattle.std.proofs.lemmas.Bool.Decides.{nat_tests}
use Rattle.std.proofs.lemmas.Result.{OkIff-at_ok, OkIff-at_err}
use Rattle.clap.specs.Lexer.{is_digit}
use Rattle.clap.proofs.WalkLemmas.{both}
use Rattle.sp_words.specs.Value.{has_needless_zero, is_decimal, number_in}

below_ten : (d : ℕ) → is_digit d ≡ true → digit_value d < 10
below_ten d h = grind (arith, nat_tests)

all_below_ten : (ds : List ℕ) → list_all is_digit ds ≡ true → AllDigits 10 ds
all_below_ten [] h = tt
all_below_ten (d ∷ ds) h =
    let split = both (is_digit d) (list_all is_digit ds) h in
    (below_ten d split.0, all_below_ten ds split.1)

no_plus_sign : (d : ℕ) → is_digit d ≡ true → (d == 43) ≡ false
no_plus_sign d h = grind (arith, nat_tests)

-- digits have no plus in front
as_they_are : (ds : List ℕ) → list_all is_digit ds ≡ true → without_leading_plus ds ≡ ds
as_they_are [] h = refl
as_they_are (d ∷ ds) h = rw (no_plus_sign d (both (is_digit d) (list_all is_digit ds) h).0) refl

digits_of : (ds : List ℕ) → is_decimal ds ≡ true → list_all is_digit ds ≡ true
digits_of ds h = (both (list_all is_digit ds) (not (has_needless_zero ds)) (both (not (length ds == 0)) (list_all is_digit ds && not (has_needless_zero ds)) h).1).0

some_digit : (ds : List ℕ) → is_decimal ds ≡ true → 0 < length ds
some_digit ds h =
    let filled : not (length ds == 0) ≡ true = (both (not (length ds == 0)) (list_all is_digit ds && not (has_needless_zero ds)) h).0 in
    grind (arith, nat_tests)

is_numeral : (ds : List ℕ) → is_decimal ds ≡ true → IsNumeral 10 (without_leading_plus ds)
is_numeral ds h =
    let P : List ℕ → Type 0 = IsNumeral 10 in
    subst P (sym (as_they_are ds (digits_of ds h))) (some_digit ds h, all_below_ten ds (digits_of ds h))

and_false : (b : Bool) → (b && false) ≡ false
and_false true = refl
and_false false = refl

past_most : (least most : ℕ) (ds : List ℕ) → most < digits_value 10 ds → None ≡ number_in least most ds
past_most least most ds h =
    let over : nat_le (digits_value 10 ds) most ≡ false = grind (arith, nat_tests) in
    rw (over, and_false (nat_le least (digits_value 10 ds)), and_false (is_decimal ds)) refl

-- digits that are not read write a number past each of 64 bits
pub unread : {E : Type 0} (least most : ℕ) (ds : List ℕ) (r : Result ℕ E) (e : E) → is_decimal ds ≡ true → most < 2 ^ 64
    → ParsesUnsigned 64 10 ds r → r ≡ Err e → None ≡ number_in least most ds
unread least most ds r e h fits parses is =
    let not_below : digits_value 10 (without_leading_plus ds) < 2 ^ 64 → ⊥ = λ below. OkIff-at_err r _ _ e parses is (is_numeral ds h, below) in
    let past : most < digits_value 10 (without_leading_plus ds) = omega (arith, not_below) in
    let P : List ℕ → Type 0 = λ t. most < digits_value 10 t in
    past_most least most ds (subst P (as_they_are ds (digits_of ds h)) past)
