use Rattle.sp_words.specs.Asked.{run_of_asked}
use Rattle.superpin_top.proofs.Runs.{run_tried, run_untried}
use Rattle.superpin_top.proofs.top.run_asked.Goals as goal

pub returns-in-Ok-clause-tried : goal.returns-in-Ok-clause-tried
returns-in-Ok-clause-tried g c =
    run_tried (run_of_asked c.args.run) _ _ _ _ _ _ _ _ c.in-Ok.loaded _ c.in-Ok.ensures.loaded c.in-Ok.ensures.told c.in-Ok.ensures.faults
    c.run_loaded.ensures.told c.run_loaded.ensures.faults c.run_loaded.ensures.late

pub returns-in-Err-clause-tried : goal.returns-in-Err-clause-tried
returns-in-Err-clause-tried g c =
    run_untried (run_of_asked c.args.run) _ _ _ _ _ c.in-Err.refusal c.in-Err.ensures.loaded c.in-Err.ensures.told c.in-Err.ensures.faults c.in-Err.ensures.past
