use Rattle.std.proofs.Common.{refl, subst, sym}
use Rattle.std.specs.Prelude.{Err}
use Rattle.guest_model.specs.Call.{call_with}
use Rattle.guest_model.specs.Calls.{deed_of}
use Rattle.syscall_layer.specs.Step.{CallGives}
use Rattle.syscall_layer.specs.declared.fault.RunFault.{RunFault}
use Rattle.syscall_layer.proofs.Step.{StandsAt, fails_gives, leaves_served, served_gives}
use Rattle.syscall_layer.proofs.run_step.serve_step.Goals as goal

pub returns-in-Ok-clause-guest : goal.returns-in-Ok-clause-guest
returns-in-Ok-clause-guest g c = leaves_served (deed_of c.args.guest.now.machine) c.in-Ok.served c.args.guest.now c.serve.new.guest c.in-Ok.ensures.answer c.in-Ok.ensures.playable

pub returns-in-Ok-clause-told : goal.returns-in-Ok-clause-told
returns-in-Ok-clause-told g c t p before here told =
    let m = c.args.guest.now.machine in
    let at : StandsAt p m = record { here = here; call = c.requires.call } in
    served_gives t p before m c.serve.new.guest (g.H.Host.told c.serve.new.host) c.in-Ok.served (call_with (deed_of m) m p.world) at refl (c.in-Ok.ensures.told t p.world before told)

pub returns-in-Err-clause-told : goal.returns-in-Err-clause-told
returns-in-Err-clause-told g c t p before here told =
    let old = c.args.guest.now in
    let m = old.machine in
    let at : StandsAt p m = record { here = here; call = c.requires.call } in
    let new = g.H.Host.told c.serve.new.host in
    subst (λ (f : RunFault). CallGives t p before (Err f) c.serve.new.guest.machine new) (sym c.fault_of.ensures)
    (fails_gives t p before m old c.serve.new.guest c.serve.new.guest.machine new c.in-Err.fault c.pc.result (deed_of m) (call_with (deed_of m) m p.world) at refl refl refl c.pc.ensures c.in-Err.ensures.answer (c.in-Err.ensures.told t p.world before told))
