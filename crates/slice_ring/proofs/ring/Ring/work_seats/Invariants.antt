use Rattle.std.proofs.Common.{◌≡◌, All, length}
use Rattle.slice_ring.specs.Seats.{IsIdle}
use Rattle.slice_ring.proofs.ring.Ring.work_seats.Given as goal

abbrev pub invariant-loop-made : goal.invariant-loop-made
invariant-loop-made g l = (l.lead ≡ l.fn.lead) × (length l.seats.items ≡ l.made) × All (IsIdle l.fn.self) l.seats.items
