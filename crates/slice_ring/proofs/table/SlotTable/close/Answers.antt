use Rattle.std.proofs.Common.{rules}
use Rattle.slice_ring.proofs.Leads.{close_allowed}
use Rattle.slice_ring.proofs.table.SlotTable.close.Goals as goal

pub store-requires : goal.store-requires
store-requires g c = (search rules, search rules, close_allowed _ _ _ _ _ _ _ c.requires.seat.1.role c.requires.settled)
