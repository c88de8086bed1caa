-- The segments of an image as areas, one behind the other.
use Rattle.std.proofs.Common.{◌≡◌, ℕ, zero, suc, ◌+◌, ◌*◌, ◌/◌, ◌%◌, ◌<◌, ◌≤◌, ◌⊎◌, max, List, [], ◌∷◌, length, map, take, get_or, refl, sym, ap, subst, ◌∙◌, inl, inr, arith, add-one, true}
use Rattle.std.proofs.lemmas.Bool.{true≢false}
use Rattle.std.specs.Prelude.{All, AllPairs, sum_by}
use Rattle.std.specs.List.{fold}
use Rattle.std.proofs.lemmas.List.{take_all, map_more, get_or-map, length-map, get_or-take, length-take-le}
use Rattle.std.proofs.lemmas.List.Sums.{fold_more, fold_push, sum_by_more, sum_by_more_le, sum_by-take-le}
use Rattle.elf_load.specs.Image.{SegmentFields, ImageFields, IsImage, IsSegment, first_page_of, last_page_of, pages_of, is_in_code}
use Rattle.guest_model.specs.Space.{Space}
use Rattle.guest_model.specs.Added.{empty_space, with_area, mapped_pages, area_size}
use Rattle.guest_model.specs.declared.Area.{Area}
use Rattle.guest_mem.specs.Memory.{IsApart}
use Rattle.guest_mem.proofs.Ascending.{Ascending, ascending-empty, ascending-added, apart_behind}
use Rattle.rv_machine.specs.Load.{area_of, with_segment, first_break, segments_space, stack_area}

-- a segment's area is its pages
record IsAreaOf (s : SegmentFields) : Type 0 where
  pub first : (area_of s).start ≡ 4096 * first_page_of s
  pub last : (area_of s).end ≡ 4096 * (last_page_of s + 1)
  pub pages : area_size (area_of s) / 4096 ≡ pages_of s
  pub order : (area_of s).start ≤ (area_of s).end
  pub high : (area_of s).end ≤ 0x40000000
  pub low : 0x2000 ≤ (area_of s).end
  pub from : (area_of s).start ≤ s.start
  pub within : s.start + length s.bytes ≤ (area_of s).end

area_is : (s : SegmentFields) → IsSegment s → IsAreaOf s
area_is s h =
    let some = h.some in let above = h.above in let below = h.below in let fits = h.fits in
    record {
      first = omega arith;
      last = omega arith;
      pages = omega arith;
      order = omega arith;
      high = omega arith;
      low = omega arith;
      from = omega arith;
      within = omega arith;
    }

no_segment : SegmentFields
no_segment = record { start = 0; size = 0; flags = 0; bytes = [] }

-- the greatest of numbers
fold_max_from : (a : ℕ) (xs : List ℕ) → a ≤ fold max a xs
fold_max_from a [] = omega arith
fold_max_from a (x ∷ xs) = omega (arith, fold_max_from (max a x) xs)

fold_max_at : (a : ℕ) (xs : List ℕ) (i d : ℕ) → i < length xs → get_or xs i d ≤ fold max a xs
fold_max_at a [] i d lt = omega arith
fold_max_at a (x ∷ xs) zero d lt = omega (arith, fold_max_from (max a x) xs)
fold_max_at a (x ∷ xs) (suc i) d lt = fold_max_at (max a x) xs i d (omega arith)

fold_max_below : (a m : ℕ) (xs : List ℕ) → a ≤ m → ((i : ℕ) → i < length xs → get_or xs i 0 ≤ m) → fold max a xs ≤ m
fold_max_below a m [] le each = le
fold_max_below a m (x ∷ xs) le each = fold_max_below (max a x) m xs (omega (arith, each 0 (omega arith))) (λ i lt. each (suc i) (omega arith))

-- the segments before one end where it begins or below
break_before : (xs : List SegmentFields) (i : ℕ) (d : SegmentFields) → All IsSegment xs → AllPairs (λ a b. last_page_of a < first_page_of b) xs → i < length xs
    → first_break (take i xs) ≤ (area_of (get_or xs i d)).start
break_before xs i d each apart lt =
    fold_max_below 0 (area_of (get_or xs i d)).start (map (λ s. (area_of s).end) (take i xs)) (omega arith) (λ k kl.
    let within : k < i = omega (arith, length-map (take i xs) (λ (s : SegmentFields). (area_of s).end), length-take-le i xs (omega arith)) in
    let one = get_or-map (λ (s : SegmentFields). (area_of s).end) (take i xs) k d 0 (omega (arith, length-take-le i xs (omega arith))) in
    let same = ap (λ (s : SegmentFields). (area_of s).end) (get_or-take i xs k d within) in
    let below = apart k i d within lt in
    let before = area_is (get_or xs k d) (each k d (omega arith)) in
    let here = area_is (get_or xs i d) (each i d lt) in
    let last = before.last in
    let first = here.first in
    omega arith)

break_more : (xs : List SegmentFields) (i : ℕ) (d : SegmentFields) → All IsSegment xs → AllPairs (λ a b. last_page_of a < first_page_of b) xs → i < length xs
    → first_break (take (i + 1) xs) ≡ (area_of (get_or xs i d)).end
break_more xs i d each apart lt =
    let here = area_is (get_or xs i d) (each i d lt) in
    let order = here.order in
    ap (fold max 0) (map_more (λ (s : SegmentFields). (area_of s).end) xs i d lt)
    ∙ fold_push max 0 (map (λ (s : SegmentFields). (area_of s).end) (take i xs)) (area_of (get_or xs i d)).end
    ∙ omega (arith, break_before xs i d each apart lt)

-- no segment ends behind the heap's beginning
end_at_most : (xs : List SegmentFields) (i : ℕ) (d : SegmentFields) → i < length xs → (area_of (get_or xs i d)).end ≤ first_break xs
end_at_most xs i d lt =
    let one = get_or-map (λ (s : SegmentFields). (area_of s).end) xs i d 0 lt in
    omega (arith, one, fold_max_at 0 (map (λ (s : SegmentFields). (area_of s).end) xs) i 0 (omega (arith, length-map xs (λ (s : SegmentFields). (area_of s).end))))

pub break_at_most : (xs : List SegmentFields) → All IsSegment xs → first_break xs ≤ 0x40000000
break_at_most xs each =
    fold_max_below 0 0x40000000 (map (λ s. (area_of s).end) xs) (omega arith) (λ k kl.
    let lt : k < length xs = omega (arith, length-map xs (λ (s : SegmentFields). (area_of s).end)) in
    let one = get_or-map (λ (s : SegmentFields). (area_of s).end) xs k no_segment 0 lt in
    let here = area_is (get_or xs k no_segment) (each k no_segment lt) in
    let high = here.high in
    omega arith)

from_page : (a : ℕ) (xs : List SegmentFields) → a % 4096 ≡ 0 → fold max a (map (λ s. (area_of s).end) xs) % 4096 ≡ 0
from_page a [] h = h
from_page a (s ∷ ss) h = from_page (max a (area_of s).end) ss (omega (arith, h))

-- the heap begins at a page
pub break_is_page : (xs : List SegmentFields) → first_break xs % 4096 ≡ 0
break_is_page xs = from_page 0 xs refl

some_segment : (xs : List SegmentFields) (from to : ℕ) → is_in_code from to xs ≡ true → 0 < length xs
some_segment [] from to h = absurd (true≢false (sym h))
some_segment (s ∷ ss) from to h = omega arith

-- and not in the first page, since there is code
pub break_at_least : (xs : List SegmentFields) (from to : ℕ) → All IsSegment xs → is_in_code from to xs ≡ true → 0x1000 ≤ first_break xs
break_at_least xs from to each code =
    let some = some_segment xs from to code in
    let here = area_is (get_or xs 0 no_segment) (each 0 no_segment some) in
    let low = here.low in
    omega (arith, end_at_most xs 0 no_segment some)

-- the space of the first i segments
abbrev pub space_of : List SegmentFields → ℕ → Space
space_of xs i = fold with_segment (empty_space (first_break xs)) (take i xs)

space_more : (xs : List SegmentFields) (i : ℕ) → i < length xs
    → space_of xs (i + 1) ≡ with_area (space_of xs i) (area_of (get_or xs i no_segment)) (get_or xs i no_segment).start (get_or xs i no_segment).bytes
space_more xs i lt = fold_more with_segment (empty_space (first_break xs)) xs i no_segment lt

ascending-same : (s : Space) (ends areas pages heap ends2 areas2 pages2 : ℕ) → Ascending s ends areas pages heap → ends ≡ ends2 → areas ≡ areas2 → pages ≡ pages2 → Ascending s ends2 areas2 pages2 heap
ascending-same s ends areas pages heap ends2 areas2 pages2 known e f g = record {
  below = λ a m. let lt = known.below a m in omega arith;
  count = known.count ∙ f;
  mapped = known.mapped ∙ g;
  heap_is = known.heap_is;
}

-- the first i segments lie one behind the other
abbrev AscendingTo : List SegmentFields → ℕ → Space → Type 0
AscendingTo xs i m = Ascending m (first_break (take i xs)) (i + 1) (sum_by pages_of (take i xs)) (first_break xs)

ascending_next : (xs : List SegmentFields) (i : ℕ) → All IsSegment xs → AllPairs (λ a b. last_page_of a < first_page_of b) xs → i < length xs
    → AscendingTo xs i (space_of xs i) → AscendingTo xs (i + 1) (space_of xs (i + 1))
ascending_next xs i each apart lt known =
    let here = area_is (get_or xs i no_segment) (each i no_segment lt) in
    let next = get_or xs i no_segment in
    ascending-same (space_of xs (i + 1)) (area_of next).end (i + 1 + 1) (sum_by pages_of (take i xs) + area_size (area_of next) / 4096) (first_break xs)
    (first_break (take (i + 1) xs)) (i + 1 + 1) (sum_by pages_of (take (i + 1) xs))
    (ascending-added (space_of xs i) (space_of xs (i + 1)) (area_of next) next.start next.bytes (first_break (take i xs)) (i + 1) (sum_by pages_of (take i xs)) (first_break xs)
    (space_more xs i lt) known (break_before xs i no_segment each apart lt) here.order)
    (sym (break_more xs i no_segment each apart lt))
    refl
    (ap (λ n. sum_by pages_of (take i xs) + n) here.pages ∙ sym (sum_by_more pages_of xs i no_segment lt))

ascending_part : (xs : List SegmentFields) → All IsSegment xs → AllPairs (λ a b. last_page_of a < first_page_of b) xs → (i : ℕ) → i ≤ length xs → AscendingTo xs i (space_of xs i)
ascending_part xs each apart zero le = ascending-empty (empty_space (first_break xs)) (first_break xs) refl
ascending_part xs each apart (suc i) le = rw (sym (add-one i)) (ascending_next xs i each apart (omega arith) (ascending_part xs each apart i (omega arith)))

ascending_at : (image : ImageFields) (i : ℕ) (m : Space) → IsImage image → i ≤ length image.segments → m ≡ space_of image.segments i → AscendingTo image.segments i m
ascending_at image i m h le e = subst (AscendingTo image.segments i) (sym e) (ascending_part image.segments h.segments h.apart i le)

-- all of them
pub space_whole : (xs : List SegmentFields) (i : ℕ) → length xs ≤ i → space_of xs i ≡ segments_space xs
unfolding segments_space
space_whole xs i le = ap (fold with_segment (empty_space (first_break xs))) (take_all i xs le)

-- what conditions of `add_area` ask for an area
pub record IsPlaced (x : Area) (m : Space) : Type 0 where
  pub apart : IsApart x m.areas
  pub place : (x.end ≤ m.heap_break) ⊎ (0x7FE00000 ≤ x.start)
  pub areas : length m.areas < 64
  pub pages : mapped_pages m.areas + area_size x / 4096 ≤ 16384

pub placed : (image : ImageFields) (i : ℕ) (s : SegmentFields) (x : Area) (m : Space) → IsImage image
    → i < length image.segments → s ≡ get_or image.segments i s → x ≡ area_of s → m ≡ space_of image.segments i → IsPlaced x m
placed image i s x m h lt is area e =
    let xs = image.segments in
    let known = ascending_at image i m h (omega arith) e in
    let same = area ∙ ap area_of is in
    let behind = break_before xs i s h.segments h.apart lt in
    let few = h.few in
    let all = h.pages in
    let count = known.count in
    let mapped = known.mapped in
    let break_is = known.heap_is in
    let here = area_is (get_or xs i s) (h.segments i s lt) in
    let size = here.pages in
    record {
      apart = apart_behind m x (first_break (take i xs)) (i + 1) (sum_by pages_of (take i xs)) (first_break xs) known (omega (arith, ap (λ (y : Area). y.start) same));
      place = inl (omega (arith, end_at_most xs i s lt, ap (λ (y : Area). y.end) same));
      areas = omega arith;
      pages = omega (arith, ap (λ (y : Area). area_size y / 4096) same, sum_by_more_le pages_of xs i s lt);
    }

-- the same for the stack's area, behind all segments
pub stack_placed : (image : ImageFields) (m : Space) → IsImage image → m ≡ segments_space image.segments → IsPlaced stack_area m
stack_placed image m h e =
    let xs = image.segments in
    let n = length image.segments in
    let known = ascending_at image n m h (omega arith) (e ∙ sym (space_whole xs n (omega arith))) in
    let few = h.few in
    let all = h.pages in
    let count = known.count in
    let mapped = known.mapped in
    let whole = ap first_break (take_all n xs (omega arith)) in
    record {
      apart = apart_behind m stack_area (first_break (take n xs)) (n + 1) (sum_by pages_of (take n xs)) (first_break xs) known (omega (arith, whole, break_at_most xs h.segments));
      place = inr (omega arith);
      areas = omega arith;
      pages = omega (arith, sum_by-take-le pages_of xs n);
    }
