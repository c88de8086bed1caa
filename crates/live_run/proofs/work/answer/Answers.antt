use Rattle.std.proofs.Common.{ap, refl, sym, ◌∙◌}
use Rattle.boundary_verify.specs.Job.{JobFields}
use Rattle.slice_ring.specs.Ticket.{Ticket}
use Rattle.live_run.specs.Live.{RunStart}
use Rattle.live_run.proofs.Pieces.{answered}
use Rattle.live_run.proofs.work.answer.Goals as goal

pub invariant_of-result : goal.invariant_of-result
invariant_of-result g c =
    let run = c.job.inside.run.value in
    let cut = c.job.inside.cut in
    answered g.T.Tool.is_local run.tool c.args.work.now.tool.now run.plan c.args.work.now.plan.now run.told run.machine cut.first cut.second c.job-2.inside.index cut.job cut.job c.run_job.result
    (ap (λ (t : Ticket (RunStart _)). t.topic.tool) c.job.view_is ∙ c.requires.tool) (ap (λ (t : Ticket (RunStart _)). t.topic.plan) c.job.view_is ∙ c.requires.plan) refl (ap (λ (j : JobFields). j.index) (sym c.job-2.view_is)) c.job.invariant c.run_job.ensures
