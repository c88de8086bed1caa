use Rattle.std.proofs.Common.{◌++◌, sym}
use Rattle.std.specs.Prelude.{None}
use Rattle.tool_step.specs.Steps.{events_after, step_events}
use Rattle.tool_step.proofs.Parts.{all_by_operands, early_given, late_given}
use Rattle.tool_step.proofs.Taking.{takes_as, takes_join}
use Rattle.tool_step.proofs.step.called_step.Goals as goal

pub returns-in-Call-clause-events : goal.returns-in-Call-clause-events
returns-in-Call-clause-events g c =
    let at = c.requires.calls in
    takes_as (g.T.Tool.is_local c.args.tool.now) _ _ c.args.local.now c.give_early.new.local
    (early_given c.args._plan.now c.args.guest.now.machine c.args.operands.now _ _ _ c.requires.operands at.routine at.block at.before) c.in_ok-give_early.ensures.law

pub returns-in-Fault-clause-events : goal.returns-in-Fault-clause-events
returns-in-Fault-clause-events g c =
    let at = c.requires.calls in
    takes_as (g.T.Tool.is_local c.args.tool.now) _ _ c.args.local.now c.give_early.new.local
    (early_given c.args._plan.now c.args.guest.now.machine c.args.operands.now _ _ _ c.requires.operands at.routine at.block at.before) c.in_ok-give_early.ensures.law

pub returns-in_ok-give_late-in-Next-clause-events : goal.returns-in_ok-give_late-in-Next-clause-events
returns-in_ok-give_late-in-Next-clause-events g c =
    let stands = g.T.Tool.is_local c.args.tool.now in
    let plan = c.args._plan.now in
    let o = c.args.operands.now in
    let before = c.args.guest.now.machine in
    let after = c.step.new.self.machine in
    let at = c.requires.calls in
    let first = c.args.local.now in
    let middle = c.give_early.new.local in
    let last = c.give_late.new.local in
    let early = takes_as stands _ _ first middle (early_given plan before o _ _ _ c.requires.operands at.routine at.block at.before) c.in_ok-give_early.ensures.law in
    let late = takes_as stands _ _ middle last (late_given plan after o _ _ at.after at.taken) c.in_ok-give_late-in-Next.ensures.law in
    takes_as stands (step_events plan before None ++ events_after plan o after) _ first last (sym (all_by_operands plan before after o c.requires.operands))
    (takes_join stands (step_events plan before None) (events_after plan o after) first middle last early late)
