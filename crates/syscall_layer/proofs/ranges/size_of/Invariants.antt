use Rattle.std.proofs.Common.{◌≡◌, take}
use Rattle.guest_model.specs.Range.{total_size}
use Rattle.syscall_layer.proofs.ranges.size_of.Given as goal

abbrev pub invariant-loop-range : goal.invariant-loop-range
invariant-loop-range l = l.total ≡ total_size (take l.range-index l.ranges)
