-- Stores in lists of ranges: in one range, and in one more.
use Rattle.std.proofs.Common.{◌≡◌, ℕ, ◌+◌, ◌<◌, ◌||◌, inl, inr, Bool, true, false, List, [], ◌∷◌, ◌++◌, length, get_or, refl, sym, ap, ◌∙◌, arith}
use Rattle.std.specs.List.{count_by, range_with_len}
use Rattle.std.proofs.lemmas.List.{ext_get_or}
use Rattle.std.proofs.lemmas.List.Folds.{list_any-append}
use Rattle.std.proofs.lemmas.List.FromFn.{get_or-map-range_with_len, length-map-range_with_len}
use Rattle.guest_model.specs.Range.{Range, range, is_page_of, is_page_among}
use Rattle.cow_pages.specs.Marks.{count_marked}
use Rattle.guest_mem.proofs.Few.{no_range}
use Rattle.guest_mem.proofs.Taken.{count_map, count_or, counted, is_page_of-none, marked_for-none, turned}
use Rattle.guest_mem.specs.Frames.{Frames, frames_for, frames_for_all, marked_for, marked_for_all, HasAllFrames, TakesFrames}

or_false : (b : Bool) → (b || false) ≡ b
or_false true = refl
or_false false = refl

pub is_page_among-one : (a n page : ℕ) → is_page_among (range a n ∷ []) page ≡ is_page_of a n page
unfolding is_page_among
is_page_among-one a n page = or_false (is_page_of a n page)

pub frames_for_all-one : (framed : List Bool) (a n : ℕ) → frames_for_all framed (range a n ∷ []) ≡ frames_for framed a n
unfolding frames_for_all frames_for
frames_for_all-one framed a n = simp is_page_among-one

pub marked_for_all-one : (marks : List Bool) (a n : ℕ) → marked_for_all marks (range a n ∷ []) ≡ marked_for marks a n
unfolding marked_for_all marked_for
marked_for_all-one marks a n = simp is_page_among-one

-- a store in one range
pub takes_one : (old new : Frames) (a n : ℕ) → new.framed ≡ marked_for old.framed a n → new.written ≡ marked_for old.written a n
    → new.free + frames_for old.framed a n ≡ old.free → new.count ≡ old.count → TakesFrames old new (range a n ∷ [])
takes_one old new a n framed written free count = record {
  framed = framed ∙ sym (marked_for_all-one old.framed a n);
  written = written ∙ sym (marked_for_all-one old.written a n);
  free = omega (arith, free, frames_for_all-one old.framed a n);
  count = count;
}

-- what a store in one range takes, mark by mark
pub record TakesAt (old new : Frames) (a n : ℕ) : Type 0 where
  pub framed : new.framed ≡ marked_for old.framed a n
  pub written : new.written ≡ marked_for old.written a n
  pub free : new.free + frames_for old.framed a n ≡ old.free
  pub count : new.count ≡ old.count

pub took_one : (old new : Frames) (a n : ℕ) → TakesFrames old new (range a n ∷ []) → TakesAt old new a n
took_one old new a n takes = record {
  framed = takes.framed ∙ marked_for_all-one old.framed a n;
  written = takes.written ∙ marked_for_all-one old.written a n;
  free = omega (arith, takes.free, frames_for_all-one old.framed a n);
  count = takes.count;
}

is_page_among-none : (page : ℕ) → is_page_among [] page ≡ false
unfolding is_page_among
is_page_among-none page = refl

none_among : (marks : List Bool) → marked_for_all marks [] ≡ marked_for marks 0 0
unfolding marked_for_all marked_for
none_among marks = simp (is_page_among-none, is_page_of-none)

-- no range, no mark
pub marked_for_all-none : (marks : List Bool) → marked_for_all marks [] ≡ marks
marked_for_all-none marks = none_among marks ∙ marked_for-none marks 0

-- ranges, and then others
is_page_among-append : (rs qs : List Range) (page : ℕ) → is_page_among (rs ++ qs) page ≡ (is_page_among rs page || is_page_among qs page)
unfolding is_page_among
is_page_among-append rs qs page = list_any-append (λ (r : Range). is_page_of r.at r.size page) rs qs

pub length-marked_for_all : (marks : List Bool) (rs : List Range) → length (marked_for_all marks rs) ≡ length marks
unfolding marked_for_all
length-marked_for_all marks rs = length-map-range_with_len (λ page. is_page_among rs page || get_or marks page false) 0 (length marks)

pub get_or-marked_for_all : (marks : List Bool) (rs : List Range) (page : ℕ) → page < length marks → get_or (marked_for_all marks rs) page false ≡ (is_page_among rs page || get_or marks page false)
unfolding marked_for_all
get_or-marked_for_all marks rs page lt = get_or-map-range_with_len (λ k. is_page_among rs k || get_or marks k false) 0 (length marks) page page false lt (omega arith)

pub marked_for_all-append : (marks : List Bool) (rs qs : List Range) → marked_for_all marks (rs ++ qs) ≡ marked_for_all (marked_for_all marks rs) qs
marked_for_all-append marks rs qs =
    let len = length-marked_for_all marks (rs ++ qs) in
    let first = length-marked_for_all marks rs in
    let both = length-marked_for_all (marked_for_all marks rs) qs in
    ext_get_or false _ _ (len ∙ sym (both ∙ first)) (λ page lt.
    let inside : page < length marks = omega arith in
    get_or-marked_for_all marks (rs ++ qs) page inside
    ∙ ap (λ t. t || get_or marks page false) (is_page_among-append rs qs page)
    ∙ turned (is_page_among rs page) (is_page_among qs page) (get_or marks page false)
    ∙ ap (λ t. is_page_among qs page || t) (sym (get_or-marked_for_all marks rs page inside))
    ∙ sym (get_or-marked_for_all (marked_for_all marks rs) qs page (omega arith)))

counted_after_all : (marks : List Bool) (rs : List Range) → count_marked (marked_for_all marks rs) ≡ count_by (λ page. is_page_among rs page || get_or marks page false) (range_with_len 0 (length marks))
unfolding count_marked marked_for_all
counted_after_all marks rs = count_map (λ page. is_page_among rs page || get_or marks page false) (range_with_len 0 (length marks))

count_marked-marked_for_all : (marks : List Bool) (rs : List Range) → count_marked (marked_for_all marks rs) ≡ count_marked marks + frames_for_all marks rs
unfolding frames_for_all
count_marked-marked_for_all marks rs =
    omega (arith, counted_after_all marks rs, counted marks, count_or (λ page. is_page_among rs page) (λ page. get_or marks page false) (range_with_len 0 (length marks)))

pub frames_for_all-append : (marks : List Bool) (rs qs : List Range) → frames_for_all marks (rs ++ qs) ≡ frames_for_all marks rs + frames_for_all (marked_for_all marks rs) qs
frames_for_all-append marks rs qs =
    omega (
      arith,
      count_marked-marked_for_all marks (rs ++ qs),
      count_marked-marked_for_all marks rs,
      count_marked-marked_for_all (marked_for_all marks rs) qs,
      ap count_marked (marked_for_all-append marks rs qs),
    )

-- no frame is lacking where nothing is stored
pub has_none : (f : Frames) → HasAllFrames f []
has_none f = inr (omega (arith, no_range f.framed))

-- where nothing was stored, no frame was taken
pub takes_none : (old new : Frames) → new ≡ old → TakesFrames old new []
takes_none old new same = record {
  framed = ap (λ (f : Frames). f.framed) same ∙ sym (marked_for_all-none old.framed);
  written = ap (λ (f : Frames). f.written) same ∙ sym (marked_for_all-none old.written);
  free = omega (arith, ap (λ (f : Frames). f.free) same, no_range old.framed);
  count = ap (λ (f : Frames). f.count) same;
}

-- stores in ranges, and then in others
pub takes_more : (old mid new : Frames) (rs qs : List Range) → TakesFrames old mid rs → TakesFrames mid new qs → TakesFrames old new (rs ++ qs)
takes_more old mid new rs qs first second = record {
  framed = second.framed ∙ ap (λ l. marked_for_all l qs) first.framed ∙ sym (marked_for_all-append old.framed rs qs);
  written = second.written ∙ ap (λ l. marked_for_all l qs) first.written ∙ sym (marked_for_all-append old.written rs qs);
  free = omega (arith, second.free, first.free, frames_for_all-append old.framed rs qs, ap (λ l. frames_for_all l qs) first.framed);
  count = second.count ∙ first.count;
}

-- frames that suffice for ranges and others suffice for the others once the first are stored
pub has_rest : (old mid : Frames) (rs qs : List Range) → TakesFrames old mid rs → HasAllFrames old (rs ++ qs) → HasAllFrames mid qs
has_rest old mid rs qs first (inl all) = inl (omega (arith, all, first.count))
has_rest old mid rs qs first (inr few) = inr (omega (arith, few, first.free, frames_for_all-append old.framed rs qs, ap (λ l. frames_for_all l qs) first.framed))

-- and they suffice for the first alone
pub has_first : (f : Frames) (rs qs : List Range) → HasAllFrames f (rs ++ qs) → HasAllFrames f rs
has_first f rs qs (inl all) = inl all
has_first f rs qs (inr few) = inr (omega (arith, few, frames_for_all-append f.framed rs qs))
