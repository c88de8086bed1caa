-- What a call leaves of the frames of a guest's memory.
use Rattle.std.specs.Prelude.{◌≡◌, List, map, Option, None, Some}
use Rattle.call_record.specs.Record.{Stored}
use Rattle.guest_model.specs.Calls.{Deed, Maps}
pub use Rattle.guest_model.specs.Play.{range_of}
use Rattle.guest_mem.specs.Frames.{Frames, TakesFrames, marked_for_all}

-- The frames after a call that does this and stored so: it took those of what it stored. Where it changed the areas, no
-- page was written, and those of pages that are mapped no longer are free.
abbrev pub FramesAfter : Deed → List Stored → Frames → Frames → Type 0
FramesAfter (Maps changed) stored old new = (new.written ≡ old.written) × (new.count ≡ old.count)
FramesAfter deed stored old new = TakesFrames old new (map range_of stored)

-- the same of a call of the table, or of none
abbrev pub FramesAfterCall : Option Deed → List Stored → Frames → Frames → Type 0
FramesAfterCall None stored old new = TakesFrames old new (map range_of stored)
FramesAfterCall (Some deed) stored old new = FramesAfter deed stored old new

-- whatever the call does: the pages of what it stored are marked as written, and the number of frames is as before
pub record MarksStored (stored : List Stored) (old new : Frames) : Type 0 where
  pub written : new.written ≡ marked_for_all old.written (map range_of stored)
  pub count : new.count ≡ old.count
