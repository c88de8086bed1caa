use Rattle.std.proofs.Common.{inr, subst}
use Rattle.std.specs.Prelude.{Ok}
use Rattle.guest_model.specs.Calls.{deed_of}
use Rattle.syscall_layer.specs.Step.{CallGives, LeavesGuest}
use Rattle.syscall_layer.specs.declared.server.Served.{Served}
use Rattle.serial_run.proofs.Steps.{exit_gives, fails_gives, must_grow}
use Rattle.serial_run.proofs.step.call.Goals as goal

pub returns-in-Ok-clause-told : goal.returns-in-Ok-clause-told
returns-in-Ok-clause-told g c t p before here told =
    (subst (λ (r : Served). CallGives t p before (Ok r) c.serve_step.new.guest.machine (g.H.Host.told c.serve_step.new.host)) c.in-Ok-Went.field-0-is (c.in-Ok-Went.ensures.told t p before here told)).0

pub returns-in-Ok-Went-clause-told : goal.returns-in-Ok-Went-clause-told
returns-in-Ok-Went-clause-told g c t p before here told =
    let went = subst (λ (r : Served). CallGives t p before (Ok r) c.serve_step.new.guest.machine (g.H.Host.told c.serve_step.new.host)) c.in-Ok-Went.field-0-is (c.in-Ok-Went.ensures.told t p before here told) in
    inr (must_grow g.T.Tool.GROWS (λ never. let no = c.in-Err-after_call.ensures.steady never in cc), inr went.0.1)

pub returns-in-Ok-Exit-clause-told : goal.returns-in-Ok-Exit-clause-told
returns-in-Ok-Exit-clause-told g c t p before here told =
    let old = c.args.guest.now in
    let now = c.serve_step.new.guest in
    let gives = subst (λ (r : Served). CallGives t p before (Ok r) now.machine (g.H.Host.told c.serve_step.new.host)) c.in-Ok-Exit.field-0-is (c.in-Ok-Exit.ensures.told t p before here told) in
    let leaves = subst (λ (r : Served). LeavesGuest (deed_of old.machine) (Ok r) old now) c.in-Ok-Exit.field-0-is c.in-Ok-Exit.ensures.guest in
    exit_gives g.T.Tool.GROWS t p before now.machine (deed_of old.machine) old now (g.H.Host.told c.serve_step.new.host) c.in-Ok-Exit.status here leaves gives

pub returns-clause-told : goal.returns-clause-told
returns-clause-told g c t p before here told =
    fails_gives g.T.Tool.GROWS t p before c.serve_step.new.guest.machine c.serve_step.new.guest.machine (g.H.Host.told c.serve_step.new.host) c.in-Err.fault (c.in-Err.ensures.told t p before here told)
