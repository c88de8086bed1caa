use Rattle.std.proofs.Common.{ℕ, ◌≡◌, ◌+◌, ◌-◌, arith, inr, subst, refl}
use Rattle.std.specs.Prelude.{Ok}
use Rattle.sp_host.specs.Told.{Told}
use Rattle.call_playback.proofs.Records.{does_fit}
use Rattle.guest_mem.proofs.Few.{few_for_step}
use Rattle.guest_model.specs.Calls.{deed_of}
use Rattle.guest_model.specs.Serial.{sent_of}
use Rattle.guest_model.specs.Serial as serial
use Rattle.syscall_layer.specs.Step.{CallGives, LeavesGuest}
use Rattle.syscall_layer.specs.declared.server.Served.{Served}
use Rattle.master_run.specs.declared.progress.Progress.{Progress}
use Rattle.master_run.proofs.Advance.{goes_by, plays_call}
use Rattle.master_run.proofs.Onwards.{fault_tried}
use Rattle.master_run.proofs.Telling.{fails_here, runs_call, runs_out, stops_behind}
use Rattle.master_run.proofs.progress.Progress.call.Goals as goal

pub serve_step-requires-clause-frames : goal.serve_step-requires-clause-frames
serve_step-requires-clause-frames g c = inr (omega (arith, few_for_step c.args.self.now.guest.frames c.args.self.now.guest.machine, c.requires.open.room, c.know_room.ensures))

pub push-requires : goal.push-requires
push-requires g c =
    let old = c.args.self.now.guest in
    let goes = goes_by (deed_of old.machine) c.in-Ok-Went.record old c.serve_step.new.guest (subst (λ (r : Served). LeavesGuest (deed_of old.machine) (Ok r) old c.serve_step.new.guest) c.in-Ok-Went.field-0-is c.in-Ok-Went.ensures.guest) in
    omega (arith, c.requires.open.bytes, (does_fit old.machine c.in-Ok-Went.record goes.fits).small)

pub returns-in-Ok-clause-goes : goal.returns-in-Ok-clause-goes
returns-in-Ok-clause-goes g c =
    let old = c.args.self.now in
    let goes = goes_by (deed_of old.guest.machine) c.in-Ok-Went.record old.guest c.serve_step.new.guest (subst (λ (r : Served). LeavesGuest (deed_of old.guest.machine) (Ok r) old.guest c.serve_step.new.guest) c.in-Ok-Went.field-0-is c.in-Ok-Went.ensures.guest) in
    let new : Progress = record { guest = c.serve_step.new.guest; position = old.position + 1; calls = old.calls + 1; until_poll = old.until_poll - 1; log = c.push.new.self } in
    record {
      not_less = omega arith;
      plays = λ start k before.
          let steps : k + 1 ≡ k + (old.position + 1 - old.position) = omega arith in
          subst (λ (n : ℕ). Rattle.master_run.specs.Progress.PlaysFrom start n new) steps (plays_call start k old new c.in-Ok-Went.record before c.requires.call goes refl c.in-Ok.ensures.added);
      frames = goes.marks.count;
      origin = goes.origin;
      calls = omega arith;
    }

pub returns-in-Ok-clause-told : goal.returns-in-Ok-clause-told
returns-in-Ok-clause-told g c t p b behind runs =
    let old = c.args.self.now in
    let now : Told = g.H.Host.told c.serve_step.new.host in
    let goes = goes_by (deed_of old.guest.machine) c.in-Ok-Went.record old.guest c.serve_step.new.guest (subst (λ (r : Served). LeavesGuest (deed_of old.guest.machine) (Ok r) old.guest c.serve_step.new.guest) c.in-Ok-Went.field-0-is c.in-Ok-Went.ensures.guest) in
    let gives = subst (λ (r : Served). CallGives t runs.position (sent_of old.position p) (Ok r) c.serve_step.new.guest.machine now) c.in-Ok-Went.field-0-is (c.in-Ok-Went.ensures.told t runs.position (sent_of old.position p) runs.machine runs.told_is) in
    runs_call t p b old (record { guest = c.serve_step.new.guest; position = old.position + 1; calls = old.calls + 1; until_poll = old.until_poll - 1; log = c.push.new.self }) (g.H.Host.told c.args.host.now) now c.in-Ok-Went.record runs behind c.requires.call goes gives refl refl c.in-Ok.ensures.added

pub returns-in-Err-push-clause-told : goal.returns-in-Err-push-clause-told
returns-in-Err-push-clause-told g c t p b behind runs =
    let old = c.args.self.now in
    let now : Told = g.H.Host.told c.serve_step.new.host in
    let gives = subst (λ (r : Served). CallGives t runs.position (sent_of old.position p) (Ok r) c.serve_step.new.guest.machine now) c.in-Ok-Went.field-0-is (c.in-Ok-Went.ensures.told t runs.position (sent_of old.position p) runs.machine runs.told_is) in
    stops_behind t p b old (record { guest = c.serve_step.new.guest; position = old.position + 1; calls = old.calls + 1; until_poll = old.until_poll - 1; log = c.push.new.self }) (g.H.Host.told c.args.host.now) now c.in-Ok-Went.record runs gives refl

pub returns-in-Ok-Exit-clause-told : goal.returns-in-Ok-Exit-clause-told
returns-in-Ok-Exit-clause-told g c t p b behind runs =
    let old = c.args.self.now in
    let now : Told = g.H.Host.told c.serve_step.new.host in
    let gives = subst (λ (r : Served). CallGives t runs.position (sent_of old.position p) (Ok r) c.serve_step.new.guest.machine now) c.in-Ok-Exit.field-0-is (c.in-Ok-Exit.ensures.told t runs.position (sent_of old.position p) runs.machine runs.told_is) in
    runs_out t p b old (record old { guest = c.serve_step.new.guest }) (g.H.Host.told c.args.host.now) now (serial.Exit c.in-Ok-Exit.status) runs behind gives refl refl

pub returns-in-Err-clause-told : goal.returns-in-Err-clause-told
returns-in-Err-clause-told g c t p b behind runs =
    let old = c.args.self.now in
    let now : Told = g.H.Host.told c.serve_step.new.host in
    fails_here t p b old (record old { guest = c.serve_step.new.guest }) (g.H.Host.told c.args.host.now) now c.in-Err.fault c.serve_step.new.guest.machine runs behind refl refl (c.in-Err.ensures.told t runs.position (sent_of old.position p) runs.machine runs.told_is)

pub returns-in-Err-clause-tried : goal.returns-in-Err-clause-tried
returns-in-Err-clause-tried g c = fault_tried c.in-Err.fault c.args.self.now (record c.args.self.now { guest = c.serve_step.new.guest }) refl
