-- What a call leaves that changes the areas.
use Rattle.std.specs.Prelude.{◌≡◌, []}
use Rattle.guest_model.specs.Call.{finished, record_of, with_space}
use Rattle.guest_model.specs.Maps.{Changed}
use Rattle.rv_machine.specs.Guest.{GuestState}
use Rattle.syscall_layer.specs.declared.server.Served.{Served}
use Rattle.syscall_layer.specs.declared.server.Served.TheVariants as served

-- The call of the guest `old` changed the areas, and no page was written.
pub record ChangesAreas (changed : Changed) (old new : GuestState) (answer : Served) : Type 0 where
  pub record_is : answer ≡ served.Went (record_of old.machine changed.answer [])
  pub machine_is : new.machine ≡ finished (with_space old.machine changed.space) changed.answer
  pub written : new.frames.written ≡ old.frames.written
  pub count : new.frames.count ≡ old.frames.count
  pub origin : new.origin ≡ old.origin
