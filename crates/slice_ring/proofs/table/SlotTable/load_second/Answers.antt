use Rattle.std.proofs.Common.{rules, refl}
use Rattle.slice_ring.proofs.Workers.{second_allowed, kept_at}
use Rattle.slice_ring.proofs.table.SlotTable.load_second.Goals as goal

pub load-requires : goal.load-requires
load-requires g c = (search rules, search rules, second_allowed _ _ _ _ _ _ _ _ c.args.i refl (kept_at _ _ _ c.requires.near.1) c.requires.seat.1)
