use Rattle.window_run.specs.Jobs.{IsResultOf}
use Rattle.window_run.proofs.Lists.{if_ok_both, zip_from_index}
use Rattle.window_run.proofs.slices.run_jobs.Goals as goal

pub returns : goal.returns
returns g c =
    if_ok_both c.run_each.result (λ results len each. zip_from_index (IsResultOf (g.T.Tool.is_local c.args.work.now.tool.now) c.args.work.now.plan.now) c.args.jobs.items results.items len each) c.run_each.ensures.len c.run_each.ensures.each
