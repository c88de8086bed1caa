-- The heap among the areas: the last that ends at or below where maps start.
use Rattle.std.proofs.Common.{◌≡◌, ℕ, zero, suc, ◌<◌, ◌≤◌, ◌==◌, ◌||◌, true, false, List, [], ◌∷◌, length, get_or, set, sym, ap, ◌∙◌, inl, inr, arith}
use Rattle.std.specs.List.{AllWithin, IsAfterLastMatch, insert, list_any}
use Rattle.std.proofs.lemmas.Bool.{cases_Bool, cond-true, cond-false, or_left, or_right, true≢false}
use Rattle.std.proofs.lemmas.Bool.Decides.{nat_tests}
use Rattle.std.proofs.lemmas.List.Folds.{list_any_none, list_any_at}
use Rattle.guest_model.specs.Areas.{rounded_up}
use Rattle.guest_model.specs.Maps.{ends_low, heap_ended}
use Rattle.guest_model.specs.declared.platform.TheConstants.{MAPS_START}
use Rattle.guest_model.specs.declared.Area.{Area}
use Rattle.guest_mem.specs.Sound.{heap_ends}
use Rattle.guest_mem.proofs.Added.{any_insert}

pub rounded_bound : (a : ℕ) → a ≤ MAPS_START → rounded_up a ≤ MAPS_START
rounded_bound a le = omega arith

pub not_low : (x : Area) → MAPS_START < x.end → ends_low x ≡ false
not_low x lt = grind (arith, nat_tests)

pub low_end : (x : Area) (e : ℕ) → (x.end == e) ≡ true → e ≤ MAPS_START → ends_low x ≡ true
low_end x e h le = grind (arith, nat_tests)

pub heap_low : (e : ℕ) (xs : List Area) → heap_ends e xs ≡ true → e ≤ MAPS_START → list_any ends_low xs ≡ true
heap_low e [] h le = h
heap_low e (x ∷ xs) h le =
    elim (cases_Bool (list_any ends_low xs)) [
      | inl there ↦ or_right (ends_low x) (list_any ends_low xs) there
      | inr none ↦ or_left (ends_low x) (list_any ends_low xs) (low_end x e (sym (cond-false (list_any ends_low xs) (heap_ends e xs) (x.end == e) none) ∙ h) le)
    ]

-- an area that is not low changes nothing, wherever it is put
pub heap_with_high : (e : ℕ) (xs : List Area) (i : ℕ) (x : Area) → ends_low x ≡ false → e ≤ MAPS_START → heap_ends e xs ≡ true → heap_ends e (insert xs i x) ≡ true
heap_with_high e [] i x high le h = absurd (true≢false (sym h))
heap_with_high e (y ∷ ys) zero x high le h = cond-true (list_any ends_low (y ∷ ys)) (heap_ends e (y ∷ ys)) (x.end == e) (heap_low e (y ∷ ys) h le) ∙ h
heap_with_high e (y ∷ ys) (suc i) x high le h =
    let same : list_any ends_low (insert ys i x) ≡ list_any ends_low ys = any_insert ends_low ys i x ∙ ap (λ t. t || list_any ends_low ys) high in
    elim (cases_Bool (list_any ends_low ys)) [
      | inl there ↦
          cond-true (list_any ends_low (insert ys i x)) (heap_ends e (insert ys i x)) (y.end == e) (same ∙ there)
          ∙ heap_with_high e ys i x high le (sym (cond-true (list_any ends_low ys) (heap_ends e ys) (y.end == e) there) ∙ h)
      | inr none ↦ cond-false (list_any ends_low (insert ys i x)) (heap_ends e (insert ys i x)) (y.end == e) (same ∙ none) ∙ sym (cond-false (list_any ends_low ys) (heap_ends e ys) (y.end == e) none) ∙ h
    ]

-- no area from a place on is low
abbrev pub NoneLow : List Area → ℕ → Type 0
NoneLow xs from = AllWithin (λ x. ends_low x ≡ false) xs from (length xs)

none_behind : (x : Area) (xs : List Area) (from : ℕ) → NoneLow (x ∷ xs) (suc from) → NoneLow xs from
none_behind x xs from h = λ k d ge lt. h (suc k) d (omega arith) (omega arith)

none_low : (x : Area) (xs : List Area) → NoneLow (x ∷ xs) 1 → list_any ends_low xs ≡ false
none_low x xs h = list_any_none ends_low xs (λ k d lt. h (suc k) d (omega arith) (omega arith))

-- where the heap ends, by its place
pub heap_at : (e : ℕ) (xs : List Area) (h : ℕ) (d : Area) → h < length xs → ends_low (get_or xs h d) ≡ true → NoneLow xs (suc h) → heap_ends e xs ≡ ((get_or xs h d).end == e)
heap_at e [] h d lt low none = absurd (omega arith)
heap_at e (x ∷ xs) zero d lt low none = cond-false (list_any ends_low xs) (heap_ends e xs) (x.end == e) (none_low x xs none)
heap_at e (x ∷ xs) (suc h) d lt low none =
    cond-true (list_any ends_low xs) (heap_ends e xs) (x.end == e) (list_any_at ends_low xs h d (omega arith) low)
    ∙ heap_at e xs h d (omega arith) low (none_behind x xs (suc h) none)

pub ended_at : (e : ℕ) (xs : List Area) (h : ℕ) (d : Area) → h < length xs → ends_low (get_or xs h d) ≡ true → NoneLow xs (suc h) → set xs h (record (get_or xs h d) { end = e }) ≡ heap_ended e xs
ended_at e [] h d lt low none = absurd (omega arith)
ended_at e (x ∷ xs) zero d lt low none = sym (cond-false (list_any ends_low xs) (x ∷ heap_ended e xs) (record x { end = e } ∷ xs) (none_low x xs none))
ended_at e (x ∷ xs) (suc h) d lt low none =
    ap (λ l. x ∷ l) (ended_at e xs h d (omega arith) low (none_behind x xs (suc h) none))
    ∙ sym (cond-true (list_any ends_low xs) (x ∷ heap_ended e xs) (record x { end = e } ∷ xs) (list_any_at ends_low xs h d (omega arith) low))

-- an area put before the heap, or in its place, changes nothing
pub heap_with_before : (e : ℕ) (xs : List Area) (i h : ℕ) (x d : Area) → h < length xs → ends_low (get_or xs h d) ≡ true → i ≤ h → heap_ends e (insert xs i x) ≡ heap_ends e xs
heap_with_before e [] i h x d lt low le = absurd (omega arith)
heap_with_before e (y ∷ ys) zero h x d lt low le = cond-true (list_any ends_low (y ∷ ys)) (heap_ends e (y ∷ ys)) (x.end == e) (list_any_at ends_low (y ∷ ys) h d lt low)
heap_with_before e (y ∷ ys) (suc i) zero x d lt low le = absurd (omega arith)
heap_with_before e (y ∷ ys) (suc i) (suc h) x d lt low le =
    let there = list_any_at ends_low ys h d (omega arith) low in
    cond-true (list_any ends_low (insert ys i x)) (heap_ends e (insert ys i x)) (y.end == e) (any_insert ends_low ys i x ∙ or_right (ends_low x) (list_any ends_low ys) there)
    ∙ heap_with_before e ys i h x d (omega arith) low (omega arith)
    ∙ sym (cond-true (list_any ends_low ys) (heap_ends e ys) (y.end == e) there)

-- where there is a low area, there is a last one
pub some_behind : (xs : List Area) (n : ℕ) → IsAfterLastMatch ends_low xs n → list_any ends_low xs ≡ true → 0 < n
some_behind xs zero last some = absurd (true≢false (sym some ∙ list_any_none ends_low xs (λ k d lt. last.0 k d (omega arith) lt)))
some_behind xs (suc n) last some = omega arith
