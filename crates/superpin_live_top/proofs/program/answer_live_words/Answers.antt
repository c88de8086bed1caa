use Rattle.std.proofs.Common.{List, String, Vec, IfOk, sym, subst}
use Rattle.std.specs.Prelude.{Result}
use Rattle.std.specs.declared.alloc.Global.{Global}
use Rattle.sp_report.specs.declared.answer.Refusal.{Refusal}
use Rattle.sliced_run.specs.Sliced.{shows}
use Rattle.superpin_top.specs.Answered.{ExitsAt}
use Rattle.superpin_top.specs.Due.{texts}
use Rattle.superpin_live_top.specs.Due.{live_task_of}
use Rattle.superpin_top.proofs.Answered.{says_status}
use Rattle.superpin_live_top.proofs.program.answer_live_words.Goals as goal

pub returns-in-Ok-clause-read : goal.returns-in-Ok-clause-read
returns-in-Ok-clause-read g c =
    let first = shows (g.P.Pacer.period_shown c.args.pacer.now) (g.P.Pacer.tally c.args.pacer.now) (g.P.Pacer.answers c.args.pacer.now) in
    let now = shows (g.P.Pacer.period_shown c.superpin_live-answer.new.pacer) (g.P.Pacer.tally c.superpin_live-answer.new.pacer) (g.P.Pacer.answers c.superpin_live-answer.new.pacer) in
    let exits = λ (words : List (String Global)). ExitsAt (live_task_of (texts words)) (g.H.Host.told c.args.host.now) (g.H.Host.faults c.args.host.now) first
    c.exit_code.result (g.H.Host.told c.superpin_live-answer.new.host) (g.H.Host.faults c.superpin_live-answer.new.host) now in
    subst (λ (r : Result (Vec (String Global) Global) Refusal). IfOk r (λ words. exits words.items)) (sym c.in-Ok.is)
    (subst exits c.deref.ensures.value (says_status _ _ _ _ _ _ _ _ _ c.exit_code.ensures c.superpin_live-answer.ensures.outcome))
