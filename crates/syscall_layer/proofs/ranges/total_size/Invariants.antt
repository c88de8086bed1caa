use Rattle.std.proofs.Common.{◌≡◌, ◌*◌, ◌≤◌, take}
use Rattle.guest_model.specs.Range.{total_size}
use Rattle.guest_model.specs.Calls.{array_of}
use Rattle.syscall_layer.proofs.ranges.total_size.Given as goal

abbrev pub invariant-loop-k : goal.invariant-loop-k
invariant-loop-k l = record {
  sum : l.total ≡ total_size (take l.k (array_of l.guest.machine));
  small : l.total ≤ 4294967295 * l.k;
}
