use Rattle.std.proofs.Common.{◌≡◌, ℕ, ap, sym, subst, arith, ◌∙◌}
use Rattle.std.specs.Prelude.{Option, Some}
use Rattle.std.specs.Option.{option_map}
use Rattle.insert_points.specs.Plan.{IsFoundAt, found_calls}
use Rattle.insert_points.specs.declared.plan.Found.{Found}
use Rattle.tool_step.specs.Steps.{LacksLate, operands_of_machine}
use Rattle.tool_step.proofs.Parts.{few_found, none_found, operands_with, plain_found}
use Rattle.tool_step.proofs.Taking.{takes_as, takes_none}
use Rattle.tool_step.proofs.give.gives_plain.Goals as goal

pub returns-then-count_late-ne0-clause-few : goal.returns-then-count_late-ne0-clause-few
returns-then-count_late-ne0-clause-few g c completion =
    few_found c.args.plan.now c.args.guest.now.machine completion c.find.result (subst (λ (a : ℕ). IsFoundAt c.args.plan.now a c.find.result) c.pc.ensures c.find.ensures)

pub returns-in_err-give_found_early-in-Some-clause-few : goal.returns-in_err-give_found_early-in-Some-clause-few
returns-in_err-give_found_early-in-Some-clause-few g c completion =
    few_found c.args.plan.now c.args.guest.now.machine completion c.find.result (subst (λ (a : ℕ). IsFoundAt c.args.plan.now a c.find.result) c.pc.ensures c.find.ensures)

pub returns-in-None-clause-few : goal.returns-in-None-clause-few
returns-in-None-clause-few g c completion =
    few_found c.args.plan.now c.args.guest.now.machine completion c.find.result (subst (λ (a : ℕ). IsFoundAt c.args.plan.now a c.find.result) c.pc.ensures c.find.ensures)

pub returns-in_ok-give_found_early-in-Some-clause-few : goal.returns-in_ok-give_found_early-in-Some-clause-few
returns-in_ok-give_found_early-in-Some-clause-few g c completion =
    few_found c.args.plan.now c.args.guest.now.machine completion c.find.result (subst (λ (a : ℕ). IsFoundAt c.args.plan.now a c.find.result) c.pc.ensures c.find.ensures)

pub returns-in-None-clause-law : goal.returns-in-None-clause-law
returns-in-None-clause-law g c completion =
    let m = c.args.guest.now.machine in
    let here = subst (λ (a : ℕ). IsFoundAt c.args.plan.now a c.find.result) c.pc.ensures c.find.ensures in
    let found = subst (IsFoundAt c.args.plan.now m.pc) c.in-None.is here in
    takes_as (g.T.Tool.is_local c.args.tool.now) _ _ c.args.local.now c.args.local.now (sym (none_found c.args.plan.now m completion found)) (takes_none (g.T.Tool.is_local c.args.tool.now) c.args.local.now)

pub returns-in_ok-give_found_early-in-Some-clause-law : goal.returns-in_ok-give_found_early-in-Some-clause-law
returns-in_ok-give_found_early-in-Some-clause-law g c completion =
    let m = c.args.guest.now.machine in
    let plan = c.args.plan.now in
    let f = c.in-Some.found in
    let o = operands_with m c.args.i.now in
    let is : operands_of_machine m ≡ Some o = ap (option_map (operands_with m)) c.requires in
    let here = subst (λ (a : ℕ). IsFoundAt plan a c.find.result) c.pc.ensures c.find.ensures in
    let found = subst (IsFoundAt plan m.pc) c.in-Some.is here in
    let lacks : LacksLate (found_calls f) = omega (arith, c.count_late.ensures, c.if-count_late-ne0.false) in
    takes_as (g.T.Tool.is_local c.args.tool.now) _ _ c.args.local.now c.give_found_early.new.local
    (sym (plain_found plan m completion o f is found lacks)) (c.in_ok-give_found_early-in-Some.ensures.law o is)
