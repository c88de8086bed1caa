use Rattle.superpin_top.proofs.Runs.{engine_run}
use Rattle.superpin_top.proofs.run.run_with.Goals as goal

pub returns-clause-told : goal.returns-clause-told
returns-clause-told g c =
    engine_run _ c.args.image.now c.args.guest.machine _ c.args.how _ _ _ _ _ _ _ c.run_guest-run.ensures.told
    (λ w strings input moments gives. c.finish.ensures.told _ w _ strings _ _ input moments c.in-Ok.ensures.views gives)
