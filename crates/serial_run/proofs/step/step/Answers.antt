use Rattle.std.proofs.Common.{ap, subst}
use Rattle.std.specs.Prelude.{IfOk}
use Rattle.guest_model.specs.Effect.{effect_of, stored_by}
use Rattle.rv_machine.specs.Guest.{GuestState}
use Rattle.rv_machine.specs.Step.{Gives}
use Rattle.rv_machine.specs.declared.step.Stepped.{Stepped}
use Rattle.tool_step.specs.Steps.{TakesEvents, completion_of, step_events}
use Rattle.serial_run.specs.Steps.{events_left}
use Rattle.serial_run.proofs.Events.{call_takes}
use Rattle.syscall_layer.proofs.Step.{next_gives}
use Rattle.serial_run.proofs.Steps.{fault_gives}
use Rattle.serial_run.proofs.step.step.Goals as goal

pub returns-in-Ok-Next-clause-told : goal.returns-in-Ok-Next-clause-told
returns-in-Ok-Next-clause-told g c t p before here told =
    let old = c.args.guest.now in
    let gives = subst (λ (s : Stepped). Gives (effect_of old.machine) s old c.tool_step_in.new.guest) c.in-Ok-Next.field-0-is c.in-Ok-Next.ensures.step in
    next_gives t p before old.machine c.tool_step_in.new.guest.machine (stored_by (effect_of old.machine)) (g.H.Host.told c.args.host.now) here gives.0 told

pub returns-in-Ok-Call-clause-events : goal.returns-in-Ok-Call-clause-events
returns-in-Ok-Call-clause-events g c =
    let old = c.args.guest.now in
    let mid = c.tool_step_in.new.guest in
    let stands = g.T.Tool.is_local c.args.tool.now in
    let gives = subst (λ (s : Stepped). Gives (effect_of old.machine) s old mid) c.in-Ok-Call.field-0-is c.in-Ok-Call.ensures.step in
    let early = subst (λ (s : Stepped). TakesEvents stands (step_events c.args.plan.now old.machine (completion_of s mid.machine)) c.args.local.now c.tool_step_in.new.local) c.in-Ok-Call.field-0-is c.in-Ok-Call.ensures.events in
    let late = subst (λ (k : GuestState). IfOk c.call.result (λ turn. TakesEvents stands (events_left c.args.plan.now k.machine turn c.call.new.guest.machine) c.tool_step_in.new.local c.call.new.local)) gives.1 c.call.ensures.events in
    call_takes c.args.plan.now stands c.call.result old.machine c.call.new.guest.machine c.args.local.now c.tool_step_in.new.local c.call.new.local early late

pub returns-in-Ok-Fault-clause-told : goal.returns-in-Ok-Fault-clause-told
returns-in-Ok-Fault-clause-told g c t p before here told =
    let old = c.args.guest.now in
    let now = c.tool_step_in.new.guest in
    let gives = subst (λ (s : Stepped). Gives (effect_of old.machine) s old now) c.in-Ok-Fault.field-0-is c.in-Ok-Fault.ensures.step in
    fault_gives g.T.Tool.GROWS t p before old.machine now.machine (g.H.Host.told c.args.host.now) c.in-Ok-Fault.kind c.pc-pc.result here gives.0 (ap (λ (s : GuestState). s.machine) gives.1) c.pc-pc.ensures told
