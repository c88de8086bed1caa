use Rattle.std.proofs.Common.{◌+◌, arith, subst, refl}
use Rattle.sp_host.specs.Told.{Told}
use Rattle.guest_model.specs.Serial.{sent_of}
use Rattle.guest_model.specs.Serial as serial
use Rattle.rv_machine.specs.Step.{kind_number}
use Rattle.rv_machine.specs.declared.step.Stepped.{Stepped}
use Rattle.rv_machine.specs.declared.step.Stepped.TheVariants as answers
use Rattle.master_run.specs.Progress.{RunsOn}
use Rattle.master_run.proofs.Onwards.{advances_run, at_call, fault_stops, goes_next, on_ok, quiet_run, runs_mid, tried_within}
use Rattle.master_run.proofs.Telling.{runs_out}
use Rattle.master_run.proofs.progress.Progress.advance.Goals as goal

pub call-requires-clause-open : goal.call-requires-clause-open
call-requires-clause-open g c =
    let h = subst (λ (a : Stepped). RunsOn c.args.limits.now c.args.self.now c.run_on.new.self a) c.in-Call.is c.run_on.ensures in
    at_call c.args.limits.now c.args.self.now c.run_on.new.self h c.requires.open c.requires.below

pub returns-in-Next-clause-goes : goal.returns-in-Next-clause-goes
returns-in-Next-clause-goes g c = advances_run c.args.limits.now c.args.self.now c.run_on.new.self c.run_on.result c.run_on.ensures

pub returns-in-Next-clause-ends : goal.returns-in-Next-clause-ends
returns-in-Next-clause-ends g c =
    let h = subst (λ (a : Stepped). RunsOn c.args.limits.now c.args.self.now c.run_on.new.self a) c.in-Next.is c.run_on.ensures in
    (goes_next c.args.limits.now c.args.self.now c.run_on.new.self h c.requires.below, omega (arith, h.within, h.ran.within, h.later))

pub returns-in-Next-clause-told : goal.returns-in-Next-clause-told
returns-in-Next-clause-told g c t p b behind runs =
    let limits = c.args.limits.now in
    let old = c.args.self.now in
    let mid = c.run_on.new.self in
    let told : Told = g.H.Host.told c.args.host.now in
    let h = subst (λ (a : Stepped). RunsOn limits old mid a) c.in-Next.is c.run_on.ensures in (
      runs_mid limits old mid answers.Next h t p b told runs behind,
      λ s more within. quiet_run limits old mid answers.Next h t p b told runs behind c.requires.below s more (omega (arith, within, h.later)) (omega arith) (omega arith),
    )

pub returns-in-Call-clause-goes : goal.returns-in-Call-clause-goes
returns-in-Call-clause-goes g c =
    let first = advances_run c.args.limits.now c.args.self.now c.run_on.new.self c.run_on.result c.run_on.ensures in
    on_ok c.args.self.now c.run_on.new.self c.call.new.self c.call.result first c.call.ensures.goes

pub returns-in-Call-clause-told : goal.returns-in-Call-clause-told
returns-in-Call-clause-told g c t p b behind runs =
    let limits = c.args.limits.now in
    let old = c.args.self.now in
    let mid = c.run_on.new.self in
    let told : Told = g.H.Host.told c.args.host.now in
    let h = subst (λ (a : Stepped). RunsOn limits old mid a) c.in-Call.is c.run_on.ensures in (
      c.call.ensures.told t p b (omega (arith, behind, h.later)) (runs_mid limits old mid answers.Call h t p b told runs behind),
      λ s more within. quiet_run limits old mid answers.Call h t p b told runs behind c.requires.below s more (omega (arith, within, h.later, c.call.ensures.tested)) (omega arith) (omega arith),
    )

pub returns-in-Fault-clause-goes : goal.returns-in-Fault-clause-goes
returns-in-Fault-clause-goes g c = advances_run c.args.limits.now c.args.self.now c.run_on.new.self c.run_on.result c.run_on.ensures

pub returns-in-Fault-clause-told : goal.returns-in-Fault-clause-told
returns-in-Fault-clause-told g c t p b behind runs =
    let limits = c.args.limits.now in
    let old = c.args.self.now in
    let mid = c.run_on.new.self in
    let told : Told = g.H.Host.told c.args.host.now in
    let kind = c.in-Fault.kind in
    let h = subst (λ (a : Stepped). RunsOn limits old mid a) c.in-Fault.is c.run_on.ensures in
    let there = runs_mid limits old mid (answers.Fault kind) h t p b told runs behind in
    let stops = fault_stops t there.position (sent_of mid.position p) mid.guest.machine (kind_number kind) c.pc.result told there.machine h.ran.stops.1 c.pc.ensures there.told_is in (
      runs_out t p b mid mid told told (serial.Signal (kind_number kind) c.pc.result) there (omega (arith, behind, h.later)) stops refl refl,
      λ s more within. quiet_run limits old mid (answers.Fault kind) h t p b told runs behind c.requires.below s more (omega (arith, within, h.later)) (omega arith) (omega arith),
    )

pub returns-in-Call-clause-tried : goal.returns-in-Call-clause-tried
returns-in-Call-clause-tried g c =
    let h = subst (λ (a : Stepped). RunsOn c.args.limits.now c.args.self.now c.run_on.new.self a) c.in-Call.is c.run_on.ensures in
    tried_within (c.run_on.new.self.position + 1) c.args.limits.now.budget c.call.result c.call.new.self.position (omega (arith, h.ran.stops.0, h.within, h.later)) c.call.ensures.tried
