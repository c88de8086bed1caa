use Rattle.std.proofs.Common.{rules}
use Rattle.slice_ring.proofs.Starts.{starts}
use Rattle.slice_ring.proofs.table.SlotTable.vacant.Goals as goal

pub vacant-requires : goal.vacant-requires
vacant-requires g c = starts _ _ _ _ _ c.requires.0 (search rules)
