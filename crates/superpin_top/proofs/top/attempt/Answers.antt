use Rattle.std.proofs.Common.{None, Ok, Err, Some, ℕ, ap, sym, subst, ◌≡◌, ◌∙◌}
use Rattle.sp_report.specs.declared.answer.Refusal.{Refusal}
use Rattle.sp_words.specs.Asked.{ToDemo, ToRun, ToView, run_of_asked, wanted_of, words_wanted}
use Rattle.sp_words.specs.Split.{Text}
use Rattle.sp_words.specs.declared.asked.Asked.{Asked}
use Rattle.sliced_run.specs.Sliced.{shows}
use Rattle.superpin_top.specs.Due.{demo_wanted, task_of, texts}
use Rattle.superpin_top.specs.Outcome.{DemoTells}
use Rattle.superpin_top.proofs.Attempts.{asked_attempted, task_is, unread_attempted}
use Rattle.superpin_top.proofs.Demos.{words_demo}
use Rattle.superpin_top.proofs.top.attempt.Goals as goal

pub returns-in-Ok-Run-clause-tried : goal.returns-in-Ok-Run-clause-tried
returns-in-Ok-Run-clause-tried g c =
    let words = texts c.args.words.now in
    let is = c.in-Ok-Run.ensures ∙ ap (λ (a : Asked). Ok (wanted_of a)) c.in-Ok-Run.field-0-is in
    let first = shows (g.P.Pacer.period_shown c.args.pacer.now) (g.P.Pacer.tally c.args.pacer.now) (g.P.Pacer.answers c.args.pacer.now) in
    let now = shows (g.P.Pacer.period_shown c.run_asked.new.pacer) (g.P.Pacer.tally c.run_asked.new.pacer) (g.P.Pacer.answers c.run_asked.new.pacer) in
    asked_attempted (words_wanted words) (task_of words) (task_is words) (g.H.Host.told c.args.host.now) (g.H.Host.faults c.args.host.now) first
    (ToRun (run_of_asked c.in-Ok-Run.run')) c.run_asked.result (g.H.Host.told c.run_asked.new.host) (g.H.Host.faults c.run_asked.new.host) now
    is c.run_asked.ensures.tried

pub returns-in-Ok-View-clause-tried : goal.returns-in-Ok-View-clause-tried
returns-in-Ok-View-clause-tried g c =
    let words = texts c.args.words.now in
    let is = c.in-Ok-View.ensures ∙ (ap (λ (a : Asked). Ok (wanted_of a)) c.in-Ok-View.field-0-is ∙ ap (λ (n : Text). Ok (ToView n)) (sym c.as_str.ensures)) in
    let first = shows (g.P.Pacer.period_shown c.args.pacer.now) (g.P.Pacer.tally c.args.pacer.now) (g.P.Pacer.answers c.args.pacer.now) in
    asked_attempted (words_wanted words) (task_of words) (task_is words) (g.H.Host.told c.args.host.now) (g.H.Host.faults c.args.host.now) first
    (ToView c.as_str.result.now) c.view_asked.result (g.H.Host.told c.view_asked.new.host) (g.H.Host.faults c.view_asked.new.host) first
    is (record { early = c.view_asked.ensures.early; told = c.view_asked.ensures.told first; faults = c.view_asked.ensures.faults; past = c.view_asked.ensures.past })

pub returns-in-Ok-Demo-clause-tried : goal.returns-in-Ok-Demo-clause-tried
returns-in-Ok-Demo-clause-tried g c =
    let words = texts c.args.words.now in
    let is = c.in-Ok-Demo.ensures ∙ ap (λ (a : Asked). Ok (wanted_of a)) c.in-Ok-Demo.field-0-is in
    let first = shows (g.P.Pacer.period_shown c.args.pacer.now) (g.P.Pacer.tally c.args.pacer.now) (g.P.Pacer.answers c.args.pacer.now) in
    asked_attempted (words_wanted words) (task_of words) (task_is words) (g.H.Host.told c.args.host.now) (g.H.Host.faults c.args.host.now) first
    (ToDemo c.in-Ok-Demo.n) c.demo_asked.result (g.H.Host.told c.demo_asked.new.host) (g.H.Host.faults c.demo_asked.new.host) first
    is (record { early = λ files files_are. tt; told = λ files w files_are input moments. tt; faults = c.demo_asked.ensures.faults; past = c.demo_asked.ensures.past })

pub returns-in-Err-clause-tried : goal.returns-in-Err-clause-tried
returns-in-Err-clause-tried g c =
    let words = texts c.args.words.now in
    let first = shows (g.P.Pacer.period_shown c.args.pacer.now) (g.P.Pacer.tally c.args.pacer.now) (g.P.Pacer.answers c.args.pacer.now) in
    unread_attempted (words_wanted words) (task_of words) (task_is words) (g.H.Host.told c.args.host.now) (g.H.Host.faults c.args.host.now) first
    c.in-Err.fault c.refusal_of_words.result c.in-Err.ensures c.refusal_of_words.ensures

pub returns-in-Ok-Run-clause-demo : goal.returns-in-Ok-Run-clause-demo
returns-in-Ok-Run-clause-demo g c n wants =
    let is = c.in-Ok-Run.ensures ∙ ap (λ (a : Asked). Ok (wanted_of a)) c.in-Ok-Run.field-0-is in
    let both : None ≡ Some n = sym (ap demo_wanted is) ∙ wants in
    cc

pub returns-in-Ok-View-clause-demo : goal.returns-in-Ok-View-clause-demo
returns-in-Ok-View-clause-demo g c n wants =
    let is = c.in-Ok-View.ensures ∙ ap (λ (a : Asked). Ok (wanted_of a)) c.in-Ok-View.field-0-is in
    let both : None ≡ Some n = sym (ap demo_wanted is) ∙ wants in
    cc

pub returns-in-Ok-Demo-clause-demo : goal.returns-in-Ok-Demo-clause-demo
returns-in-Ok-Demo-clause-demo g c n wants =
    let is = c.in-Ok-Demo.ensures ∙ ap (λ (a : Asked). Ok (wanted_of a)) c.in-Ok-Demo.field-0-is in
    let both : Some c.in-Ok-Demo.n ≡ Some n = sym (ap demo_wanted is) ∙ wants in
    let same : c.in-Ok-Demo.n ≡ n = cc in
    subst (λ (k : ℕ). DemoTells k (g.H.Host.told c.args.host.now) c.demo_asked.result (g.H.Host.told c.demo_asked.new.host)) same c.demo_asked.ensures.told

pub returns-in-Err-clause-demo : goal.returns-in-Err-clause-demo
returns-in-Err-clause-demo g c n wants =
    let t = g.H.Host.told c.args.host.now in
    let words = texts c.args.words.now in
    subst (λ (refusal : Refusal). DemoTells n t (Err refusal) t) (sym c.refusal_of_words.ensures) (words_demo (words_wanted words) c.in-Err.fault n t c.in-Err.ensures wants)
