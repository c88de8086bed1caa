use Rattle.std.proofs.Common.{◌≡◌, true, take}
use Rattle.std.specs.List.{list_all}
use Rattle.guest_model.specs.Calls.{can_read, array_of}
use Rattle.syscall_layer.proofs.ranges.are_readable.Given as goal

abbrev pub invariant-loop-k : goal.invariant-loop-k
invariant-loop-k l = list_all (λ p. can_read l.guest.machine p.at p.size) (take l.k (array_of l.guest.machine)) ≡ true
