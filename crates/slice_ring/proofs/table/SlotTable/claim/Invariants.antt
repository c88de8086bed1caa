use Rattle.std.proofs.Common.{◌≡◌, ℕ, ◌<◌, ◌≤◌, None}
use Rattle.slice_ring.specs.Seats.{IsSame, IsWorking, WasMissed}
use Rattle.slice_ring.specs.Steps.{look_at}
use Rattle.slice_ring.proofs.table.SlotTable.claim.Given as goal

abbrev pub invariant-loop-i : goal.invariant-loop-i
invariant-loop-i g l = IsSame l.fn.seat l.seat × (l.seat.me.0.topic ≡ l.fn.seat.me.0.topic) × IsWorking l.fn.self.slots l.seat.me × (l.seat.me.0.work.held ≡ None)
    × (l.fn.seat.me.0.looks ≤ l.seat.me.0.looks) × ((j : ℕ) → j < l.i → WasMissed l.fn.seat.me.0.looks (look_at j l.seat.me.0))
