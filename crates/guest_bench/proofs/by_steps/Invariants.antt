use Rattle.std.proofs.Common.{◌≤◌}
use Rattle.guest_model.specs.declared.platform.TheConstants.{MOST_PAGES}
use Rattle.guest_bench.proofs.by_steps.Given as goal

abbrev pub invariant-loop-steps : goal.invariant-loop-steps
invariant-loop-steps g l = MOST_PAGES ≤ l.guest.frames.count
