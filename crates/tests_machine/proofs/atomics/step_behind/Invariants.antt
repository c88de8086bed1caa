use Rattle.std.proofs.Common.{◌≡◌}
use Rattle.tests_machine.proofs.atomics.step_behind.Given as goal

abbrev pub invariant-loop-i : goal.invariant-loop-i
invariant-loop-i l = l.guest.frames.count ≡ 16384
