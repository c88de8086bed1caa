use Rattle.std.proofs.Common.{◌≤◌}
use Rattle.guest_model.specs.declared.platform.TheConstants.{MOST_PAGES}
use Rattle.guest_bench.proofs.by_stretches.Given as goal

abbrev pub invariant-loop-stretch : goal.invariant-loop-stretch
invariant-loop-stretch g l = MOST_PAGES ≤ l.guest.frames.count
