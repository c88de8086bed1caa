-- The list of all slots is read, written and compared at each page.
use Rattle.std.proofs.Common.{◌≡◌, ℕ, ◌^◌, ◌<◌, ◌==◌, cond, length, get_or, map, sym, ap, ◌∙◌, arith, get_or-set_same, get_or-set_other, inl, inr}
use Rattle.std.proofs.Math.ListN.{set, length-set}
use Rattle.std.specs.List.{range_with_len}
use Rattle.std.proofs.lemmas.List.FromFn.{get_or-map-range_with_len, length-map-range_with_len}
use Rattle.std.proofs.lemmas.Bool.{cases_eq, cases_lt, cond-true, cond-false, eq-eqb, ne_eqb}
use Rattle.std.proofs.lemmas.List.{get_or_past, ext_get_or}
use Rattle.slot_table.specs.declared.slot.Slot.{Slot}
use Rattle.slot_table.specs.declared.slot.Slot.TheVariants.{Unchanged}
use Rattle.slot_table.specs.Slots.{all_unchanged, sheet}

same_list : (n : ℕ) (f g : ℕ → Slot) → ((q : ℕ) → q < n → g q ≡ f q) → map g (range_with_len 0 n) ≡ map f (range_with_len 0 n)
same_list n f g is = ext_get_or Unchanged (map g (range_with_len 0 n)) (map f (range_with_len 0 n)) (length-map-range_with_len g 0 n ∙ sym (length-map-range_with_len f 0 n))
    (λ k lt.
    let less : k < n = omega (arith, lt, length-map-range_with_len g 0 n) in
    get_or-map-range_with_len g 0 n k k Unchanged less (omega arith) ∙ is k less ∙ sym (get_or-map-range_with_len f 0 n k k Unchanged less (omega arith)))

pub sheet-same : (f g : ℕ → Slot) → ((q : ℕ) → q < 2 ^ 20 → g q ≡ f q) → sheet g ≡ sheet f
unfolding sheet
sheet-same f g is = same_list (2 ^ 20) f g is

pub get_or-sheet : (f : ℕ → Slot) (a : ℕ) → a < 2 ^ 20 → get_or (sheet f) a Unchanged ≡ f a
unfolding sheet
get_or-sheet f a lt = get_or-map-range_with_len f 0 (2 ^ 20) a a Unchanged lt (omega arith)

pub length-sheet : (f : ℕ → Slot) → length (sheet f) ≡ 2 ^ 20
unfolding sheet
length-sheet f = length-map-range_with_len f 0 (2 ^ 20)

at_index : (n : ℕ) (f g : ℕ → Slot) (a : ℕ) (b : Slot) → a < n → ((q : ℕ) → q < n → g q ≡ cond (q == a) b (f q)) → (k : ℕ) → k < n → get_or (set (map f (range_with_len 0 n)) a b) k Unchanged ≡ g k
at_index n f g a b lt is k kn =
    let len = length-map-range_with_len f 0 n in
    let old = get_or-map-range_with_len f 0 n k k Unchanged kn (omega arith) in
    elim (cases_eq k a) [
      | inl e ↦
          ap (λ j. get_or (set (map f (range_with_len 0 n)) a b) j Unchanged) e ∙ get_or-set_same (map f (range_with_len 0 n)) a b Unchanged (omega arith)
          ∙ sym (is k kn ∙ cond-true (k == a) b (f k) (eq-eqb k a e))
      | inr ne ↦
          get_or-set_other (map f (range_with_len 0 n)) a k b Unchanged ne ∙ old
          ∙ sym (is k kn ∙ cond-false (k == a) b (f k) (ne_eqb k a ne))
    ]

set_list : (n : ℕ) (f g : ℕ → Slot) (a : ℕ) (b : Slot) → a < n → ((q : ℕ) → q < n → g q ≡ cond (q == a) b (f q)) → map g (range_with_len 0 n) ≡ set (map f (range_with_len 0 n)) a b
set_list n f g a b lt is = ext_get_or Unchanged (map g (range_with_len 0 n)) (set (map f (range_with_len 0 n)) a b)
    (length-map-range_with_len g 0 n ∙ sym (length-set (map f (range_with_len 0 n)) a b ∙ length-map-range_with_len f 0 n))
    (λ k in_list.
    let less : k < n = omega (arith, in_list, length-map-range_with_len g 0 n) in
    get_or-map-range_with_len g 0 n k k Unchanged less (omega arith) ∙ sym (at_index n f g a b lt is k less))

pub sheet-set : (f g : ℕ → Slot) (a : ℕ) (b : Slot) → a < 2 ^ 20 → ((q : ℕ) → q < 2 ^ 20 → g q ≡ cond (q == a) b (f q)) → sheet g ≡ set (sheet f) a b
unfolding sheet
sheet-set f g a b lt is = set_list (2 ^ 20) f g a b lt is

pub get_or-all_unchanged : (q : ℕ) → get_or all_unchanged q Unchanged ≡ Unchanged
unfolding all_unchanged
get_or-all_unchanged q = elim (cases_lt q (2 ^ 20)) [
  | inl lt ↦ get_or-sheet (λ _. Unchanged) q lt
  | inr ge ↦ get_or_past (sheet (λ _. Unchanged)) q Unchanged (omega (arith, length-sheet (λ _. Unchanged)))
]

pub length-all_unchanged : length all_unchanged ≡ 2 ^ 20
unfolding all_unchanged
length-all_unchanged = length-sheet (λ _. Unchanged)
