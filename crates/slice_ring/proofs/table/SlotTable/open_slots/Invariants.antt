use Rattle.slice_ring.specs.Seats.{IsSame, IsOpening}
use Rattle.slice_ring.proofs.table.SlotTable.open_slots.Given as goal

abbrev pub invariant-loop-i : goal.invariant-loop-i
invariant-loop-i g l = IsSame l.fn.lead l.lead × IsOpening l.fn.self.slots l.i l.fn.self.table.shared.key.topic.value l.lead.me
