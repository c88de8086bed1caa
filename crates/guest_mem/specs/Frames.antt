-- The frames of the pages of a guest's memory: a page takes one when it is first written.
use Rattle.std.specs.Prelude.{◌≡◌, ℕ, ◌+◌, ◌*◌, ◌≤◌, ◌⊎◌, Bool, ◌&&◌, ◌||◌, not, false, List, length, map, slice_index_or}
use Rattle.std.specs.List.{count_by, range_with_len}
use Rattle.guest_model.specs.Areas.{is_mapped}
use Rattle.guest_model.specs.Range.{Range, is_page_of, is_page_among}
use Rattle.guest_model.specs.declared.Area.{Area}
use Rattle.guest_model.specs.declared.platform.TheConstants.{MOST_PAGES, PAGE_SIZE}
use Rattle.cow_pages.specs.Marks.{count_marked}
pub use Rattle.cow_pages.specs.Frames.{Frames, frames_code, free_frames}

-- how many of the pages that hold the n addresses from a on have no frame
unfoldable pub frames_for : List Bool → ℕ → ℕ → ℕ
frames_for framed a n =
    count_by (λ page. is_page_of a n page && not (slice_index_or framed page false)) (range_with_len 0 (length framed))

-- the same of ranges
unfoldable pub frames_for_all : List Bool → List Range → ℕ
frames_for_all framed ranges =
    count_by (λ page. is_page_among ranges page && not (slice_index_or framed page false)) (range_with_len 0 (length framed))

-- the marks of pages, with those that hold the n addresses from a on marked too
unfoldable pub marked_for : List Bool → ℕ → ℕ → List Bool
marked_for marks a n = map (λ page. is_page_of a n page || slice_index_or marks page false) (range_with_len 0 (length marks))

-- the same of ranges
unfoldable pub marked_for_all : List Bool → List Range → List Bool
marked_for_all marks ranges =
    map (λ page. is_page_among ranges page || slice_index_or marks page false) (range_with_len 0 (length marks))

-- the marks of pages, without those of pages that are mapped no longer
unfoldable pub marked_in : List Area → List Bool → List Bool
marked_in areas marks =
    map (λ page. slice_index_or marks page false && is_mapped areas (PAGE_SIZE * page)) (range_with_len 0 (length marks))

-- a store in these ranges lacks no frame: there is one for each page that can be mapped, or enough are free
abbrev pub HasAllFrames : Frames → List Range → Type 0
HasAllFrames f ranges = (MOST_PAGES ≤ f.count) ⊎ (frames_for_all f.framed ranges ≤ f.free)

-- a store in these ranges takes its frames
pub record TakesFrames (old new : Frames) (ranges : List Range) : Type 0 where
  pub framed : new.framed ≡ marked_for_all old.framed ranges
  pub written : new.written ≡ marked_for_all old.written ranges
  pub free : new.free + frames_for_all old.framed ranges ≡ old.free
  pub count : new.count ≡ old.count

-- the frames of pages that are mapped no longer become free
pub record GivesFramesBack (areas : List Area) (old new : Frames) : Type 0 where
  pub framed : new.framed ≡ marked_in areas old.framed
  pub written : new.written ≡ old.written
  pub free : count_marked new.framed + new.free ≡ new.count
  pub count : new.count ≡ old.count
