-- For callers that add areas one behind the other: what the conditions of `add_area` ask stays known.
use Rattle.std.proofs.Common.{◌≡◌, ℕ, ◌+◌, ◌/◌, ◌<◌, ◌≤◌, Bool, true, List, [], ◌∷◌, length, refl, sym, ap, ◌∙◌, inl, inr, arith}
use Rattle.std.specs.List.{position_or_len}
use Rattle.std.proofs.lemmas.Bool.{or_cases, cases_Bool, true≢false, false_from_ne_true}
use Rattle.std.proofs.lemmas.Bool.Decides.{nat_tests}
use Rattle.std.proofs.lemmas.List.Edits.{length-insert}
use Rattle.guest_model.specs.Areas.{is_mapped, holds}
use Rattle.guest_model.specs.Added.{heap_area, empty_space, with_area, insert_area, comes_before, mapped_pages, area_size}
use Rattle.guest_model.specs.Space.{Space}
use Rattle.guest_model.specs.declared.Area.{Area}
use Rattle.guest_mem.specs.Memory.{IsApart}
use Rattle.guest_mem.proofs.Added.{is_mapped-insert, pages_insert}
use Rattle.guest_mem.proofs.Begun.{heap_holds, no_size}

place_within : (p : Area → Bool) (xs : List Area) → position_or_len p xs ≤ length xs
place_within p [] = omega arith
place_within p (x ∷ xs) =
    elim (cases_Bool (p x)) [
      | inl h ↦ grind (arith, h)
      | inr h ↦ let rest = place_within p xs in grind (arith, h, rest)
    ]

-- the areas of a space end by `ends`; how many they are, how many pages they have, and where the heap ends
pub record Ascending (s : Space) (ends areas pages heap : ℕ) : Type 0 where
  pub below : (a : ℕ) → is_mapped s.areas a ≡ true → a < ends
  pub count : length s.areas ≡ areas
  pub mapped : mapped_pages s.areas ≡ pages
  pub heap_is : s.heap_break ≡ heap

pub areas_added : (s : Space) (x : Area) (at : ℕ) (given : List ℕ) → (with_area s x at given).areas ≡ insert_area x s.areas
unfolding with_area
areas_added s x at given = refl

pub heap_added : (s : Space) (x : Area) (at : ℕ) (given : List ℕ) → (with_area s x at given).heap_break ≡ s.heap_break
unfolding with_area
heap_added s x at given = refl

areas_begun : (h : ℕ) → (empty_space h).areas ≡ heap_area h ∷ []
unfolding empty_space
areas_begun h = refl

heap_begun : (h : ℕ) → (empty_space h).heap_break ≡ h
unfolding empty_space
heap_begun h = refl

pub ascending-empty : (s : Space) (h : ℕ) → s ≡ empty_space h → Ascending s 0 1 0 h
ascending-empty s h e =
    let areas = ap (λ (t : Space). t.areas) e ∙ areas_begun h in
    record {
      below = λ a m. absurd (true≢false (sym m ∙ ap (λ l. is_mapped l a) areas ∙ heap_holds h a));
      count = ap length areas;
      mapped = ap mapped_pages areas ∙ no_size h;
      heap_is = ap (λ (t : Space). t.heap_break) e ∙ heap_begun h;
    }

held_below : (x : Area) (a : ℕ) → holds x a ≡ true → a < x.end
held_below x a h = grind (arith, nat_tests)

held_from : (x : Area) (a : ℕ) → holds x a ≡ true → x.start ≤ a
held_from x a h = grind (arith, nat_tests)

pub ascending-added : (s t : Space) (x : Area) (at : ℕ) (given : List ℕ) (ends areas pages heap : ℕ) → t ≡ with_area s x at given → Ascending s ends areas pages heap → ends ≤ x.start → x.start ≤ x.end
    → Ascending t x.end (areas + 1) (pages + area_size x / 4096) heap
ascending-added s t x at given ends areas pages heap e known le order =
    let place = position_or_len (comes_before x) s.areas in
    let now = ap (λ (u : Space). u.areas) e ∙ areas_added s x at given in
    record {
      below = λ a m. elim (or_cases (holds x a) (is_mapped s.areas a) (sym (is_mapped-insert s.areas place x a) ∙ sym (ap (λ l. is_mapped l a) now) ∙ m)) [
        | inl h ↦ held_below x a h
        | inr h ↦ let lt = known.below a h in omega arith
      ];
      count = ap length now ∙ length-insert s.areas place x (place_within (comes_before x) s.areas) ∙ ap (λ n. n + 1) known.count;
      mapped = ap mapped_pages now ∙ pages_insert s.areas place x ∙ ap (λ n. n + area_size x / 4096) known.mapped;
      heap_is = ap (λ (u : Space). u.heap_break) e ∙ heap_added s x at given ∙ known.heap_is;
    }

pub apart_behind : (s : Space) (x : Area) (ends areas pages heap : ℕ) → Ascending s ends areas pages heap → ends ≤ x.start → IsApart x s.areas
apart_behind s x ends areas pages heap known le = λ a h. false_from_ne_true _ (λ m. let lt = known.below a m in let ge = held_from x a h in absurd (omega arith))
