-- Calls, and the events of a call.
use Rattle.std.specs.Prelude.{ℕ, ◌==◌, Bool, List}
use Rattle.insert_points.specs.declared.call.Arg.{Arg}
use Rattle.insert_points.specs.declared.call.Call.{Call}
use Rattle.insert_points.specs.declared.call.Event.{Event}
use Rattle.insert_points.specs.declared.call.Point.{Point}

abbrev pub call_of : Point → ℕ → List Arg → Call
call_of at number args = record { at = at; number = number; args = record { items = args } }

-- an event of a tool's one call, which has the number 0. Any other counts for nothing
abbrev pub is_own : Event → Bool
is_own e = e.number == 0
