use Rattle.std.proofs.Common.{◌≡◌, take}
use Rattle.guest_model.specs.Maps.{cut_areas}
use Rattle.guest_mem.proofs.areas.cut_areas.Given as goal

abbrev pub invariant-loop-area : goal.invariant-loop-area
invariant-loop-area l = l.left.items ≡ cut_areas l.from l.to (take l.area-index l.areas)
