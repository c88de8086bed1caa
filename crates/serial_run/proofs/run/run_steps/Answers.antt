use Rattle.std.proofs.Common.{◌≡◌, ◌<◌, ◌≤◌, ◌+◌, ◌^◌, ℕ, Ok, Err, Result, refl, ap, sym, subst, ◌∙◌, arith}
use Rattle.std.specs.Prelude.{Option, None, Some, true, false, is_some}
use Rattle.std.proofs.lemmas.Result.{err_from_is_err_and}
use Rattle.rv_isa.specs.Table.{Fields}
use Rattle.guest_model.specs.Machine.{instruction_at}
use Rattle.guest_model.specs.Serial.{sent_of}
use Rattle.guest_model.specs.declared.platform.TheConstants.{MOST_PAGES}
use Rattle.syscall_layer.specs.declared.fault.RunFault.{RunFault}
use Rattle.tool_step.specs.Steps.{TakesEvents, step_events}
use Rattle.serial_run.specs.Run.{StepsGive}
use Rattle.serial_run.specs.Start.{Run, start_of}
use Rattle.serial_run.specs.Steps.{StepGives, completion_by}
use Rattle.serial_run.specs.declared.run.Finish.{Finish}
use Rattle.serial_run.specs.declared.step.Turn.{Turn}
use Rattle.serial_run.proofs.Runs.{SoFar, begins, ends_run, fails_run, next_so_far, spent}
use Rattle.serial_run.proofs.run.run_steps.Goals.{in-Next, in-Went}
use Rattle.serial_run.proofs.run.run_steps.Goals as goal

pub loop-steps-init : goal.loop-steps-init
loop-steps-init g c = record {
  frames = c.requires.frames;
  few = omega arith;
  same_faults = refl;
  so_far = λ t w is empty.
      begins c.args.plan.now (g.T.Tool.is_local c.args.tool.now) t (record { start = start_of c.args.guest.now.machine w; budget = c.args.budget }) (g.H.Host.told c.args.host.now) c.args.local.now refl is empty;
}

pub returns-in_err-step-clause-told : goal.returns-in_err-step-clause-told
returns-in_err-step-clause-told g c t w is empty =
    let r : Run = record { start = start_of c.args.guest.now.machine w; budget = c.args.budget } in
    let stands = g.T.Tool.is_local c.args.tool.now in
    let new = g.H.Host.told c.step.new.host in
    let before = c.loop-steps.invariant.so_far t w is empty in
    let err = err_from_is_err_and c.from_residual.result c.from_residual.ensures.1 in
    let e : c.from_residual.result ≡ Err c.in_err-step.field-0.0 = err.1 ∙ ap (λ (f : RunFault). Err f) err.2 in
    let gives = c.in_err-step.ensures.told t before.position (sent_of c.loop-steps.steps r.start) before.machine_is before.told_is in
    subst (λ (q : Result Finish RunFault). StepsGive c.args.plan.now stands g.T.Tool.GROWS t r q c.step.new.local new) (sym e)
    (fails_run c.args.plan.now stands t r g.T.Tool.GROWS (g.H.Host.told c.loop-steps.host) new c.loop-steps.guest.machine c.step.new.guest.machine c.loop-steps.calls c.loop-steps.steps c.loop-steps.local before c.in_err-step.field-0.0
    c.loop-steps-test.true gives)

pub returns-then-is_some-clause-told : goal.returns-then-is_some-clause-told
returns-then-is_some-clause-told g c t w is empty =
    let r : Run = record { start = start_of c.args.guest.now.machine w; budget = c.args.budget } in
    let stands = g.T.Tool.is_local c.args.tool.now in
    let plan = c.args.plan.now in
    let before = c.loop-steps.invariant.so_far t w is empty in
    let new = g.H.Host.told c.step.new.host in
    let m = c.loop-steps.guest.machine in
    let next = c.step.new.guest.machine in
    let gives = subst (λ (turn : Turn). StepGives g.T.Tool.GROWS t before.position (sent_of c.loop-steps.steps r.start) (Ok turn) next new) c.in-Over.is
    (c.in_ok-step.ensures.told t before.position (sent_of c.loop-steps.steps r.start) before.machine_is before.told_is) in
    let takes = subst (λ (turn : Turn). TakesEvents stands (step_events plan m (completion_by turn next)) c.loop-steps.local c.step.new.local) c.in-Over.is c.in_ok-step.ensures.events in
    let has : is_some (instruction_at next) ≡ true = ap (λ (i : Option Fields). is_some i) (sym c.peek.ensures) ∙ sym c.is_some.ensures ∙ c.if-is_some.true in
    let room : c.loop-steps.steps < 2 ^ 40 = omega (arith, c.loop-steps-test.true, c.requires.budget) in
    ends_run plan stands t r g.T.Tool.GROWS (g.H.Host.told c.loop-steps.host) new m next c.loop-steps.calls c.loop-steps.steps (c.loop-steps.steps + 1) c.loop-steps.local c.step.new.local before c.in-Over.end true c.loop-steps-test.true room
    c.step.ensures.pc (c.step.ensures.few None) takes has refl gives

pub returns-else-is_some-clause-told : goal.returns-else-is_some-clause-told
returns-else-is_some-clause-told g c t w is empty =
    let r : Run = record { start = start_of c.args.guest.now.machine w; budget = c.args.budget } in
    let stands = g.T.Tool.is_local c.args.tool.now in
    let plan = c.args.plan.now in
    let before = c.loop-steps.invariant.so_far t w is empty in
    let new = g.H.Host.told c.step.new.host in
    let m = c.loop-steps.guest.machine in
    let next = c.step.new.guest.machine in
    let gives = subst (λ (turn : Turn). StepGives g.T.Tool.GROWS t before.position (sent_of c.loop-steps.steps r.start) (Ok turn) next new) c.in-Over.is
    (c.in_ok-step.ensures.told t before.position (sent_of c.loop-steps.steps r.start) before.machine_is before.told_is) in
    let takes = subst (λ (turn : Turn). TakesEvents stands (step_events plan m (completion_by turn next)) c.loop-steps.local c.step.new.local) c.in-Over.is c.in_ok-step.ensures.events in
    let has : is_some (instruction_at next) ≡ false = ap (λ (i : Option Fields). is_some i) (sym c.peek.ensures) ∙ sym c.is_some.ensures ∙ c.if-is_some.false in
    let room : c.loop-steps.steps < 2 ^ 40 = omega (arith, c.loop-steps-test.true, c.requires.budget) in
    ends_run plan stands t r g.T.Tool.GROWS (g.H.Host.told c.loop-steps.host) new m next c.loop-steps.calls c.loop-steps.steps c.loop-steps.steps c.loop-steps.local c.step.new.local before c.in-Over.end false c.loop-steps-test.true room
    c.step.ensures.pc (c.step.ensures.few None) takes has (omega arith) gives

pub loop-steps-preserved : goal.loop-steps-preserved
loop-steps-preserved g c =
    let stands = g.T.Tool.is_local c.args.tool.now in
    let plan = c.args.plan.now in
    let m = c.loop-steps.guest.machine in
    let next = c.step.new.guest.machine in
    let now = g.H.Host.told c.loop-steps.host in
    let new = g.H.Host.told c.step.new.host in
    let steps = c.loop-steps.steps in
    let old = c.loop-steps.local in
    let local = c.step.new.local in
    let room : steps < 2 ^ 40 = omega (arith, c.loop-steps-test.true, c.requires.budget) in
    let frames : MOST_PAGES ≤ c.step.new.guest.frames.count = subst (λ (n : ℕ). MOST_PAGES ≤ n) (sym c.in_ok-step.ensures.count) c.loop-steps.invariant.frames in
    let same = c.in_ok-step.ensures.faults ∙ c.loop-steps.invariant.same_faults in
    elim c.match-branch-2.branch [
      | in-Next b ↦ record {
        frames = frames;
        few = omega (arith, c.loop-steps.invariant.few, b.calls-is);
        same_faults = same;
        so_far = λ t w is empty.
            let r : Run = record { start = start_of c.args.guest.now.machine w; budget = c.args.budget } in
            let before = c.loop-steps.invariant.so_far t w is empty in
            let gives = subst (λ (turn : Turn). StepGives g.T.Tool.GROWS t before.position (sent_of steps r.start) (Ok turn) next new) b.in-Next.is
            (c.in_ok-step.ensures.told t before.position (sent_of steps r.start) before.machine_is before.told_is) in
            let takes = subst (λ (turn : Turn). TakesEvents stands (step_events plan m (completion_by turn next)) old local) b.in-Next.is c.in_ok-step.ensures.events in
            subst (λ (n : ℕ). SoFar plan stands t r new next n (steps + 1) local) (before.calls_are ∙ sym b.calls-is)
            (next_so_far plan stands t r now new m next c.loop-steps.calls steps before.position.calls old local before room c.step.ensures.pc (c.step.ensures.few (Some next)) takes gives);
      }
      | in-Went b ↦ record {
        frames = frames;
        few = omega (arith, c.loop-steps.invariant.few, b.calls-is);
        same_faults = same;
        so_far = λ t w is empty.
            let r : Run = record { start = start_of c.args.guest.now.machine w; budget = c.args.budget } in
            let before = c.loop-steps.invariant.so_far t w is empty in
            let gives = subst (λ (turn : Turn). StepGives g.T.Tool.GROWS t before.position (sent_of steps r.start) (Ok turn) next new) b.in-Went.is
            (c.in_ok-step.ensures.told t before.position (sent_of steps r.start) before.machine_is before.told_is) in
            let takes = subst (λ (turn : Turn). TakesEvents stands (step_events plan m (completion_by turn next)) old local) b.in-Went.is c.in_ok-step.ensures.events in
            subst (λ (n : ℕ). SoFar plan stands t r new next n (steps + 1) local) (ap (λ (n : ℕ). n + 1) before.calls_are ∙ sym b.calls-is)
            (next_so_far plan stands t r now new m next c.loop-steps.calls steps (before.position.calls + 1) old local before room c.step.ensures.pc (c.step.ensures.few (Some next)) takes gives);
      }
    ]

pub returns-clause-told : goal.returns-clause-told
returns-clause-told g c t w is empty =
    let r : Run = record { start = start_of c.args.guest.now.machine w; budget = c.args.budget } in
    let stands = g.T.Tool.is_local c.args.tool.now in
    let all : c.loop-steps.steps ≡ c.args.budget = omega arith in
    let now = g.H.Host.told c.loop-steps.host in
    spent c.args.plan.now stands t r g.T.Tool.GROWS now c.loop-steps.guest.machine c.loop-steps.calls c.loop-steps.local
    (subst (λ (n : ℕ). SoFar c.args.plan.now stands t r now c.loop-steps.guest.machine c.loop-steps.calls n c.loop-steps.local) all (c.loop-steps.invariant.so_far t w is empty))
