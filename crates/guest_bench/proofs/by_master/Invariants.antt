use Rattle.std.proofs.Common.{◌≡◌}
use Rattle.master_run.specs.Master.{Ready}
use Rattle.guest_bench.proofs.by_master.Given as goal

abbrev pub invariant-loop-job : goal.invariant-loop-job
invariant-loop-job g l = l.master.standing ≡ Ready
