use Rattle.std.proofs.Common.{rules}
use Rattle.slice_ring.proofs.Leads.{join_allowed}
use Rattle.slice_ring.proofs.table.SlotTable.retire.Goals as goal

pub join_seat-requires : goal.join_seat-requires
join_seat-requires g c = (search rules, search rules, search rules, search rules, join_allowed _ _ _ _ _ _ _ _ c.requires.lead.1.role c.requires.seat.1.role c.requires.seat.2)
