-- What a call leaves of the areas of a guest's memory.
use Rattle.std.specs.Prelude.{◌≡◌, ℕ, Option, None, Some, false}
use Rattle.guest_model.specs.Call.{space_by, with_space}
use Rattle.guest_model.specs.Calls.{row_of}
use Rattle.guest_model.specs.Fits.{changes_areas}
use Rattle.guest_model.specs.Machine.{Machine}
use Rattle.guest_model.specs.Maps.{Changed}
use Rattle.guest_model.specs.Space.{Space}
use Rattle.guest_model.specs.declared.system_call.SystemCall.{SystemCall}
use Rattle.rv_machine.specs.Guest.{GuestState}

-- The call of the guest `old` changed the areas with this result, no page was written, and the guest did not go on yet.
pub record HasChanged (changed : Changed) (old new : GuestState) (answer : ℕ) : Type 0 where
  pub answer_is : answer ≡ changed.answer
  pub machine_is : new.machine ≡ with_space old.machine changed.space
  pub written : new.frames.written ≡ old.frames.written
  pub count : new.frames.count ≡ old.frames.count
  pub origin : new.origin ≡ old.origin

-- the space with the areas as a call of the table leaves them, or of none
abbrev pub areas_by : Option SystemCall → Machine → Space
areas_by None m = m.space
areas_by (Some call) m = space_by (row_of call m) m.space

-- The guest has the areas that its call leaves, and nothing is stored yet.
pub record HasAreas (call : Option SystemCall) (old new : GuestState) : Type 0 where
  pub machine_is : new.machine ≡ with_space old.machine (areas_by call old.machine)
  pub written : new.frames.written ≡ old.frames.written
  pub count : new.frames.count ≡ old.frames.count
  pub unchanged : changes_areas call ≡ false → new.frames ≡ old.frames
  pub origin : new.origin ≡ old.origin
