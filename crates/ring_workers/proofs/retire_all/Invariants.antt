use Rattle.std.proofs.Common.{◌≡◌, ◌+◌, All, length}
use Rattle.std.specs.Vec.Iter.{into_iter_items}
use Rattle.slice_ring.specs.Seats.{IsOf, IsIdle}
use Rattle.ring_workers.specs.Answers.{IsSameBut}
use Rattle.ring_workers.proofs.retire_all.Given as goal

abbrev pub invariant-loop-seat : goal.invariant-loop-seat
invariant-loop-seat g l = (goal.iterator-loop-seat g).can_next l.seat-iterator × (goal.iterator-loop-seat g).is_finite l.seat-iterator
    × All (IsIdle l.ring) (into_iter_items l.seat-iterator)
    × IsOf l.ring l.lead × IsSameBut (length l.yielded) l.initial.lead l.lead
    × (length l.yielded + length (into_iter_items l.seat-iterator) ≡ length l.fn.seats.items)
