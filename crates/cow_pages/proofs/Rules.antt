-- The list of all bytes, once some are others.
use Rattle.std.proofs.Common.{◌≡◌, ℕ, ◌+◌, ◌-◌, ◌/◌, ◌^◌, ◌≤◌, ◌==◌, Bool, true, false, refl, sym, cond, List, length, get_or, ap, ◌∙◌, inl, inr, arith}
use Rattle.std.proofs.lemmas.Bool.{cases_lt, cond-false}
use Rattle.std.proofs.lemmas.Bool.Decides.{nat_tests}
use Rattle.std.proofs.lemmas.List.{get_or_past}
use Rattle.frame_pool.specs.Bytes.{is_among}
use Rattle.cow_pages.specs.Contents.{flat}
use Rattle.cow_pages.proofs.Flat.{get_or-flat, flat-same, length-flat, length-unmarked, get_or-unmarked}
use Rattle.cow_pages.proofs.MarkLists.{count_marked-le, count_marked-set, count_marked-unmarked, count_marked-among, set_marked, set_unmarked}
use Rattle.cow_pages.proofs.SlotMarks.{get_or-marks_by, length-marks_by}

pub flat-still : (f g : ℕ → ℕ) → ((q : ℕ) → g q ≡ f q) → flat g ≡ flat f
flat-still f g is = flat-same f g (λ q _. is q)

past_end : (a n q : ℕ) → a + n ≤ q → is_among a n q ≡ false
past_end a n q le = grind (arith, nat_tests)

-- bytes are put somewhere; behind the last address each list reads as 0
pub flat-put : (f g : ℕ → ℕ) (all source : List ℕ) (a : ℕ) → flat f ≡ all → a + length source ≤ 2 ^ 32
    → ((q : ℕ) → g q ≡ cond (is_among a (length source) q) (get_or source (q - a) 0) (f q))
    → (q : ℕ) → get_or (flat g) q 0 ≡ cond (is_among a (length source) q) (get_or source (q - a) 0) (get_or all q 0)
flat-put f g all source a e within is q =
    elim (cases_lt q (2 ^ 32)) [
      | inl lt ↦ get_or-flat g q lt ∙ is q ∙ ap (cond (is_among a (length source) q) (get_or source (q - a) 0)) (sym (get_or-flat f q lt) ∙ ap (λ l. get_or l q 0) e)
      | inr ge ↦
          get_or_past (flat g) q 0 (omega (arith, length-flat g))
          ∙ sym (get_or_past all q 0 (omega (arith, ap length (sym e), length-flat f)))
          ∙ sym (cond-false (is_among a (length source) q) (get_or source (q - a) 0) (get_or all q 0) (past_end a (length source) q (omega arith)))
    ]

zero_either : (b : Bool) → 0 ≡ cond {A = ℕ} b 0 0
zero_either true = refl
zero_either false = refl

-- the bytes of a page are 0 from now on
pub flat-cleared : (f g : ℕ → ℕ) (all : List ℕ) (page : ℕ) → flat f ≡ all → ((q : ℕ) → g q ≡ cond (q / 4096 == page) 0 (f q)) → (q : ℕ) → get_or (flat g) q 0 ≡ cond (q / 4096 == page) 0 (get_or all q 0)
flat-cleared f g all page e is q =
    elim (cases_lt q (2 ^ 32)) [
      | inl lt ↦ get_or-flat g q lt ∙ is q ∙ ap (cond (q / 4096 == page) 0) (sym (get_or-flat f q lt) ∙ ap (λ l. get_or l q 0) e)
      | inr ge ↦
          get_or_past (flat g) q 0 (omega (arith, length-flat g))
          ∙ zero_either (q / 4096 == page)
          ∙ ap (cond (q / 4096 == page) 0) (sym (get_or_past all q 0 (omega (arith, ap length (sym e), length-flat f))))
    ]

pub ruleset page_rules = (get_or-flat, length-unmarked, get_or-unmarked, length-flat, flat-still, flat-put, flat-cleared, count_marked-le, count_marked-set, count_marked-unmarked, count_marked-among, set_marked, set_unmarked, get_or-marks_by, length-marks_by)
