-- Which ranges of memory a step stores in.
use Rattle.std.specs.Prelude.{List, [], Option, None, Some}
use Rattle.guest_model.specs.Calls.{Deed, deed_of, storable}
use Rattle.guest_model.specs.Effect.{Effect, Next, Call, Fault, effect_of}
use Rattle.guest_model.specs.Machine.{Machine}
use Rattle.guest_model.specs.Range.{Range}

abbrev pub storable_by : Option Deed → List Range
storable_by None = []
storable_by (Some deed) = storable deed

abbrev pub written_with : Machine → Effect → List Range
written_with m (Next next stored) = stored
written_with m Call = storable_by (deed_of m)
written_with m (Fault kind) = []

-- the ranges that the step at m may store in, whatever the outside answers: those of its instruction, or of its call
unfoldable pub written_by : Machine → List Range
written_by m = written_with m (effect_of m)
