use Rattle.std.proofs.Common.{subst, true, false}
use Rattle.boundary_verify.specs.Job.{script_of_job}
use Rattle.guest_model.specs.Effect.{effect_of}
use Rattle.guest_model.specs.Play.{spot}
use Rattle.rv_machine.specs.Step.{Gives}
use Rattle.rv_machine.specs.declared.step.Stepped.{Stepped}
use Rattle.tool_step.specs.Steps.{TakesEvents, completion_of, step_events}
use Rattle.slice_runner.proofs.Turns.{call_takes_at, fault_turn, has_for_step, next_turn, turn_takes}
use Rattle.slice_runner.proofs.turn.play_turn.Goals as goal

pub tool_step_in-requires-after_bounds : goal.tool_step_in-requires-after_bounds
tool_step_in-requires-after_bounds g c κs within = has_for_step c.args.guest.now.frames (script_of_job c.args.job.now) (spot c.args.guest.now.machine c.args.calls.now) c.requires.frames

pub returns-in-Ok-Next-clause-turn : goal.returns-in-Ok-Next-clause-turn
returns-in-Ok-Next-clause-turn g c =
    next_turn (script_of_job c.args.job.now) c.args.guest.now c.tool_step_in.new.guest c.args.calls.now
    (subst (λ (a : Stepped). Gives (effect_of c.args.guest.now.machine) a c.args.guest.now c.tool_step_in.new.guest) c.in-Ok-Next.field-0-is c.in-Ok-Next.ensures.step)

pub returns-in-Ok-Next-clause-events : goal.returns-in-Ok-Next-clause-events
returns-in-Ok-Next-clause-events g c =
    let old = c.args.guest.now in
    let new = c.tool_step_in.new.guest in
    let stands = g.T.Tool.is_local c.args.tool.now in
    let turn = next_turn (script_of_job c.args.job.now) old new c.args.calls.now
    (subst (λ (a : Stepped). Gives (effect_of old.machine) a old new) c.in-Ok-Next.field-0-is c.in-Ok-Next.ensures.step) in
    turn_takes stands c.args.plan.now (script_of_job c.args.job.now) (spot old.machine c.args.calls.now) (spot new.machine c.args.calls.now) true c.args.local.now c.tool_step_in.new.local turn.plays
    (subst (λ (a : Stepped). TakesEvents stands (step_events c.args.plan.now old.machine (completion_of a new.machine)) c.args.local.now c.tool_step_in.new.local) c.in-Ok-Next.field-0-is c.in-Ok-Next.ensures.events)

pub returns-in-Ok-Call-clause-events : goal.returns-in-Ok-Call-clause-events
returns-in-Ok-Call-clause-events g c =
    let old = c.args.guest.now in
    let mid = c.tool_step_in.new.guest in
    let stands = g.T.Tool.is_local c.args.tool.now in
    let gives = subst (λ (a : Stepped). Gives (effect_of old.machine) a old mid) c.in-Ok-Call.field-0-is c.in-Ok-Call.ensures.step in
    call_takes_at stands c.args.plan.now (script_of_job c.args.job.now) old mid c.args.calls.now c.play_call.new.guest c.play_call.new.calls c.play_call.result c.args.local.now c.tool_step_in.new.local c.play_call.new.local
    gives.1 c.play_call.ensures.turn
    (subst (λ (a : Stepped). TakesEvents stands (step_events c.args.plan.now old.machine (completion_of a mid.machine)) c.args.local.now c.tool_step_in.new.local) c.in-Ok-Call.field-0-is c.in-Ok-Call.ensures.events)
    c.play_call.ensures.events

pub returns-in-Ok-Fault-clause-turn : goal.returns-in-Ok-Fault-clause-turn
returns-in-Ok-Fault-clause-turn g c =
    fault_turn (script_of_job c.args.job.now) c.args.guest.now c.tool_step_in.new.guest c.args.calls.now _
    (subst (λ (a : Stepped). Gives (effect_of c.args.guest.now.machine) a c.args.guest.now c.tool_step_in.new.guest) c.in-Ok-Fault.field-0-is c.in-Ok-Fault.ensures.step)

pub returns-in-Ok-Fault-clause-events : goal.returns-in-Ok-Fault-clause-events
returns-in-Ok-Fault-clause-events g c =
    let old = c.args.guest.now in
    let new = c.tool_step_in.new.guest in
    let stands = g.T.Tool.is_local c.args.tool.now in
    let turn = fault_turn (script_of_job c.args.job.now) old new c.args.calls.now _
    (subst (λ (a : Stepped). Gives (effect_of old.machine) a old new) c.in-Ok-Fault.field-0-is c.in-Ok-Fault.ensures.step) in
    turn_takes stands c.args.plan.now (script_of_job c.args.job.now) (spot old.machine c.args.calls.now) (spot new.machine c.args.calls.now) false c.args.local.now c.tool_step_in.new.local turn.plays
    (subst (λ (a : Stepped). TakesEvents stands (step_events c.args.plan.now old.machine (completion_of a new.machine)) c.args.local.now c.tool_step_in.new.local) c.in-Ok-Fault.field-0-is c.in-Ok-Fault.ensures.events)
