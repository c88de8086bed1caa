use Rattle.std.proofs.Common.{Ok, Some, ap, ◌∙◌}
use Rattle.sp_words.specs.Asked.{ToDemo, ToRun, ToView, live_words_wanted, run_of_asked, wanted_of}
use Rattle.sp_words.specs.declared.asked.Asked.{Asked}
use Rattle.sp_words.specs.declared.asked.By.{By}
use Rattle.sliced_run.specs.Sliced.{shows}
use Rattle.superpin_top.specs.Due.{by_wanted, texts}
use Rattle.superpin_top.proofs.Attempts.{asked_attempted, unread_attempted}
use Rattle.superpin_live_top.specs.Due.{live_task_of}
use Rattle.superpin_live_top.proofs.Words.{live_by, task_is}
use Rattle.superpin_live_top.proofs.top.attempt.Goals as goal

pub returns-in-Ok-Run-clause-tried : goal.returns-in-Ok-Run-clause-tried
returns-in-Ok-Run-clause-tried g c =
    let words = texts c.args.words.now in
    let is = c.in-Ok-Run.ensures ∙ ap (λ (a : Asked). Ok (wanted_of a)) c.in-Ok-Run.field-0-is in
    let first = shows (g.P.Pacer.period_shown c.args.pacer.now) (g.P.Pacer.tally c.args.pacer.now) (g.P.Pacer.answers c.args.pacer.now) in
    let now = shows (g.P.Pacer.period_shown c.run_asked.new.pacer) (g.P.Pacer.tally c.run_asked.new.pacer) (g.P.Pacer.answers c.run_asked.new.pacer) in
    asked_attempted (live_words_wanted words) (live_task_of words) (task_is words) (g.H.Host.told c.args.host.now) (g.H.Host.faults c.args.host.now) first
    (ToRun (run_of_asked c.in-Ok-Run.run')) c.run_asked.result (g.H.Host.told c.run_asked.new.host) (g.H.Host.faults c.run_asked.new.host) now
    is c.run_asked.ensures

pub returns-in-Err-clause-tried : goal.returns-in-Err-clause-tried
returns-in-Err-clause-tried g c =
    let words = texts c.args.words.now in
    let first = shows (g.P.Pacer.period_shown c.args.pacer.now) (g.P.Pacer.tally c.args.pacer.now) (g.P.Pacer.answers c.args.pacer.now) in
    unread_attempted (live_words_wanted words) (live_task_of words) (task_is words) (g.H.Host.told c.args.host.now) (g.H.Host.faults c.args.host.now) first
    c.in-Err.fault c.refusal_of_words.result c.in-Err.ensures c.refusal_of_words.ensures

pub run_asked-requires-after_bounds : goal.run_asked-requires-after_bounds
run_asked-requires-after_bounds g c κs within =
    live_by (texts c.args.words.now) (ToRun (run_of_asked c.in-Ok-Run.run')) (c.in-Ok-Run.ensures ∙ ap (λ (a : Asked). Ok (wanted_of a)) c.in-Ok-Run.field-0-is)

pub unreachable-requires : goal.unreachable-requires
unreachable-requires g c =
    live_by (texts c.args.words.now) (ToView c.in-Ok-View.field-0-0) (c.in-Ok-View.ensures ∙ ap (λ (a : Asked). Ok (wanted_of a)) c.in-Ok-View.field-0-is)

pub unreachable-requires-in-Ok-Demo : goal.unreachable-requires-in-Ok-Demo
unreachable-requires-in-Ok-Demo g c =
    live_by (texts c.args.words.now) (ToDemo c.in-Ok-Demo.field-0-0) (c.in-Ok-Demo.ensures ∙ ap (λ (a : Asked). Ok (wanted_of a)) c.in-Ok-Demo.field-0-is)

pub returns-in-Ok-Run-clause-pacer : goal.returns-in-Ok-Run-clause-pacer
returns-in-Ok-Run-clause-pacer g c none =
    let is = c.in-Ok-Run.ensures ∙ ap (λ (a : Asked). Ok (wanted_of a)) c.in-Ok-Run.field-0-is in
    absurd (none (ap by_wanted is ∙ ap (λ (b : By). Some b) (live_by (texts c.args.words.now) (ToRun (run_of_asked c.in-Ok-Run.run')) is)))

pub returns-in-Ok-Run-clause-uncut : goal.returns-in-Ok-Run-clause-uncut
returns-in-Ok-Run-clause-uncut g c none =
    let is = c.in-Ok-Run.ensures ∙ ap (λ (a : Asked). Ok (wanted_of a)) c.in-Ok-Run.field-0-is in
    absurd (none (ap by_wanted is ∙ ap (λ (b : By). Some b) (live_by (texts c.args.words.now) (ToRun (run_of_asked c.in-Ok-Run.run')) is)))
