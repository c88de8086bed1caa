use Rattle.std.proofs.Common.{◌≡◌, ℕ, ap, arith, length, subst, sym, ◌∙◌}
use Rattle.std.specs.Prelude.{None}
use Rattle.insert_points.specs.Plan.{FewCalls, called_at}
use Rattle.tool_step.specs.Steps.{completion_of, operands_of_machine}
use Rattle.tool_step.proofs.Parts.{calls_given, few_events, none_called, none_given, none_stands, pc_is}
use Rattle.tool_step.proofs.Taking.{takes_as, takes_none}
use Rattle.tool_step.proofs.step.tool_step.Goals as goal

pub returns-then-is_nothing-clause-events : goal.returns-then-is_nothing-clause-events
returns-then-is_nothing-clause-events g c =
    let stands = g.T.Tool.is_local c.args.tool.now in
    let plan = c.args.plan.now in
    let m = c.args.guest.now.machine in
    let none = none_given plan m.pc c.pc.result c.at-called.result c.pc.ensures c.at-called.ensures.routine c.at-called.ensures.block c.at-called.ensures.before c.at-called.ensures.after c.at-called.ensures.taken (sym c.is_nothing.ensures ∙ c.if-is_nothing.true) in
    takes_as stands _ _ c.args.local.now c.args.local.now (sym (none_called plan m (completion_of c.step.result c.step.new.self.machine) none)) (takes_none stands c.args.local.now)

pub returns-then-is_nothing-clause-few : goal.returns-then-is_nothing-clause-few
returns-then-is_nothing-clause-few g c completion =
    let plan = c.args.plan.now in
    let m = c.args.guest.now.machine in
    let none = none_given plan m.pc c.pc.result c.at-called.result c.pc.ensures c.at-called.ensures.routine c.at-called.ensures.block c.at-called.ensures.before c.at-called.ensures.after c.at-called.ensures.taken (sym c.is_nothing.ensures ∙ c.if-is_nothing.true) in
    omega (arith, ap length (none_called plan m completion none))

pub returns-in-None-clause-events : goal.returns-in-None-clause-events
returns-in-None-clause-events g c =
    let stands = g.T.Tool.is_local c.args.tool.now in
    let plan = c.args.plan.now in
    let m = c.args.guest.now.machine in
    let none : operands_of_machine m ≡ None = sym c.operands_at.ensures ∙ c.in-None.is in
    takes_as stands _ _ c.args.local.now c.args.local.now (sym (none_stands plan m (completion_of c.step-in-None.result c.step-in-None.new.self.machine) none)) (takes_none stands c.args.local.now)

pub returns-in-None-clause-few : goal.returns-in-None-clause-few
returns-in-None-clause-few g c completion =
    let none : operands_of_machine c.args.guest.now.machine ≡ None = sym c.operands_at.ensures ∙ c.in-None.is in
    omega (arith, ap length (none_stands c.args.plan.now c.args.guest.now.machine completion none))

pub returns-in-Some-clause-few : goal.returns-in-Some-clause-few
returns-in-Some-clause-few g c completion =
    few_events c.args.plan.now c.args.guest.now.machine completion c.in-Some.operands (sym c.operands_at.ensures ∙ c.in-Some.is)
    (subst (λ (a : ℕ). FewCalls (called_at c.args.plan.now a)) (c.pc.ensures ∙ sym (pc_is c.args.guest.now.machine c.in-Some.operands (sym c.operands_at.ensures ∙ c.in-Some.is))) c.at-called.ensures.few)

pub called_step-requires-clause-calls : goal.called_step-requires-clause-calls
called_step-requires-clause-calls g c κs within =
    calls_given c.args.plan.now c.pc.result c.in-Some.operands.pc c.at-called.result
    (c.pc.ensures ∙ sym (pc_is c.args.guest.now.machine c.in-Some.operands (sym c.operands_at.ensures ∙ c.in-Some.is)))
    c.at-called.ensures.routine c.at-called.ensures.block c.at-called.ensures.before c.at-called.ensures.after c.at-called.ensures.taken
