use Rattle.std.proofs.Common.{◌≡◌, ◌+◌, ◌++◌, map, take}
use Rattle.arrayvec.specs.ArrayVec.{array_vec_len}
use Rattle.insert_points.specs.Events.{event_of}
use Rattle.insert_points.proofs.step_events.push_events.Given as goal

abbrev pub invariant-loop-call : goal.invariant-loop-call
invariant-loop-call l =
    (l.events.items ≡ l.fn.events.items ++ map (event_of l.operands l.registers) (take l.call-index l.calls)) × (array_vec_len l.events ≡ array_vec_len l.fn.events + l.call-index)
