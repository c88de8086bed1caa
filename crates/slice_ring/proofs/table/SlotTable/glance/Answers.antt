use Rattle.std.proofs.Common.{rules}
use Rattle.slice_ring.proofs.Workers.{glances_allowed}
use Rattle.slice_ring.proofs.table.SlotTable.glance.Goals as goal

pub load-requires : goal.load-requires
load-requires g c = (search rules, search rules, glances_allowed _ _ _ _ _ _ _ _ c.requires.1)
