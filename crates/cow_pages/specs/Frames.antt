-- The frames of pages: a page takes one when it is first written.
use Rattle.std.specs.Prelude.{◌≡◌, ℕ, ◌+◌, ◌^◌, ◌<◌, ◌⊎◌, Bool, true, false, if◌then◌else◌, List, slice_set, refl}
use Rattle.std.specs.Coded.{Coded, coded_ℕ, coded_bool, coded_list, coded×, code_by}
use Rattle.cow_pages.specs.Marks.{count_marked, is_marked, unmarked}

pub record Frames : Type 0 where
  -- for each page, whether it has a frame
  pub framed : List Bool
  -- for each page, whether it was written since the last freeze or fork, also if it was dropped then
  pub written : List Bool
  -- how many frames are free
  pub free : ℕ
  -- how many frames there are
  pub count : ℕ

-- no page was written, and so many frames are free
abbrev pub free_frames : ℕ → Frames
free_frames count = record { framed = unmarked (2 ^ 20); written = unmarked (2 ^ 20); free = count; count = count }

-- each frame is free, or a page has it
abbrev pub AddUp : Frames → Type 0
AddUp f = count_marked f.framed + f.free ≡ f.count

-- a write to the page lacks no frame
abbrev pub HasFrame : Frames → ℕ → Type 0
HasFrame f page = (is_marked f.framed page ≡ true) ⊎ (0 < f.free)

-- the page is written: it takes a frame, unless it has one
pub record TakesFrame (old new : Frames) (page : ℕ) : Type 0 where
  pub framed : new.framed ≡ slice_set old.framed page true
  pub written : new.written ≡ slice_set old.written page true
  pub free : new.free + (if is_marked old.framed page then 0 else 1) ≡ old.free
  pub count : new.count ≡ old.count

-- the page is dropped: its frame is free, if it has one
pub record GivesFrameBack (old new : Frames) (page : ℕ) : Type 0 where
  pub framed : new.framed ≡ slice_set old.framed page false
  pub written : new.written ≡ old.written
  pub free : new.free ≡ old.free + (if is_marked old.framed page then 1 else 0)
  pub count : new.count ≡ old.count

abbrev pub frames_code : Coded Frames
frames_code = code_by (List Bool × (List Bool × (ℕ × ℕ))) (coded× (coded_list coded_bool) (coded× (coded_list coded_bool) (coded× coded_ℕ coded_ℕ)))
    (λ f. (f.framed, (f.written, (f.free, f.count))))
    (λ p. record { framed = p.0; written = p.1.0; free = p.1.1.0; count = p.1.1.1 }) (λ _. refl)
