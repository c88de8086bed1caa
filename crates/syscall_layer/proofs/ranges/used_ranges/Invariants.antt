use Rattle.syscall_layer.proofs.Used.{IsUsed}
use Rattle.syscall_layer.proofs.ranges.used_ranges.Given as goal

abbrev pub invariant-loop-k : goal.invariant-loop-k
invariant-loop-k l = IsUsed l.guest.machine l.k l.used.items l.room
