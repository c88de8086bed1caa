use Rattle.std.proofs.Common.{subst}
use Rattle.std.specs.Prelude.{Result}
use Rattle.sp_report.specs.declared.answer.Refusal.{Refusal}
use Rattle.superpin_top.specs.Answered.{IsAttempt}
use Rattle.superpin_top.specs.Causes.{HasCause}
use Rattle.superpin_top.specs.Outcome.{DemoTells}
use Rattle.superpin_top.specs.declared.engine.Done.{Done}
use Rattle.superpin_top.proofs.Answered.{done_answers, refused_answers}
use Rattle.superpin_top.proofs.Demos.{demo_ended}
use Rattle.superpin_top.proofs.answer.answer_attempt.Goals as goal

pub returns-in-Ok-clause-answered : goal.returns-in-Ok-clause-answered
returns-in-Ok-clause-answered g c wanted task_at t before first now is =
    let new = g.H.Host.told c.args.host.now in
    let after = g.H.Host.faults c.args.host.now in
    done_answers wanted task_at t before first c.in-Ok.done new after now (subst (λ (tried : Result Done Refusal). IsAttempt wanted task_at t before first tried new after now) c.in-Ok.is is)

pub returns-in-Err-clause-answered : goal.returns-in-Err-clause-answered
returns-in-Err-clause-answered g c wanted task_at t before first now is =
    let mid = g.H.Host.told c.args.host.now in
    let middle = g.H.Host.faults c.args.host.now in
    refused_answers wanted task_at t before first c.in-Err.refusal mid (g.H.Host.told c.refuse.new.host) middle (g.H.Host.faults c.refuse.new.host) now
    (subst (λ (tried : Result Done Refusal). IsAttempt wanted task_at t before first tried mid middle now) c.in-Err.is is) c.refuse.ensures

pub returns-in-Ok-clause-demo : goal.returns-in-Ok-clause-demo
returns-in-Ok-clause-demo g c n t before tells faults =
    let new = g.H.Host.told c.args.host.now in
    let after = g.H.Host.faults c.args.host.now in
    demo_ended n t new before after c.in-Ok.done (subst (λ (tried : Result Done Refusal). DemoTells n t tried new) c.in-Ok.is tells)
    (subst (λ (tried : Result Done Refusal). HasCause before after tried) c.in-Ok.is faults)

pub returns-in-Err-clause-demo : goal.returns-in-Err-clause-demo
returns-in-Err-clause-demo g c n t before tells faults =
    let mid = g.H.Host.told c.args.host.now in
    let middle = g.H.Host.faults c.args.host.now in
    record {
      mid = mid;
      middle = middle;
      refuses = subst (λ (tried : Result Done Refusal). DemoTells n t tried mid) c.in-Err.is tells;
      caused = subst (λ (tried : Result Done Refusal). HasCause before middle tried) c.in-Err.is faults;
      writes = c.refuse.ensures;
    }
