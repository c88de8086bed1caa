use Rattle.slice_ring.specs.Seats.{IsIdle}
use Rattle.ring_workers.proofs.work.Given as goal

abbrev pub invariant-loop-turn : goal.invariant-loop-turn
invariant-loop-turn g l = IsIdle l.fn.ring l.seat
