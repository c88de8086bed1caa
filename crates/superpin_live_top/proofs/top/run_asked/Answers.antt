use Rattle.sp_words.specs.Asked.{run_of_asked}
use Rattle.superpin_top.proofs.Runs.{run_tried, run_untried}
use Rattle.superpin_live_top.proofs.top.run_asked.Goals as goal

pub returns-in-Ok : goal.returns-in-Ok
returns-in-Ok g c =
    run_tried (run_of_asked c.args.run) _ _ _ _ _ _ _ _ c.in-Ok.loaded _ c.in-Ok.ensures.loaded c.in-Ok.ensures.told c.in-Ok.ensures.faults
    c.run_loaded.ensures.told c.run_loaded.ensures.faults c.run_loaded.ensures.late

pub returns-in-Err : goal.returns-in-Err
returns-in-Err g c =
    run_untried (run_of_asked c.args.run) _ _ _ _ _ c.in-Err.refusal c.in-Err.ensures.loaded c.in-Err.ensures.told c.in-Err.ensures.faults c.in-Err.ensures.past
