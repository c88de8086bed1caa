use Rattle.std.proofs.Common.{rules}
use Rattle.slice_ring.proofs.Leads.{split_allowed}
use Rattle.slice_ring.proofs.table.SlotTable.work_seat.Goals as goal

pub split_seat-requires : goal.split_seat-requires
split_seat-requires g c = (search rules, search rules, split_allowed _ _ _ _ _ _ c.requires.lead.1.role)
