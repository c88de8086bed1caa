use Rattle.std.proofs.Common.{◌≡◌, map, take}
use Rattle.std.specs.Arc.{arc_value}
use Rattle.guest_mem.proofs.code.KeptCode.share.Given as goal

abbrev pub invariant-loop-part : goal.invariant-loop-part
invariant-loop-part l = map arc_value l.others.items ≡ map arc_value (take l.part-index l.part-items)
