-- A part of a run: instructions, and a call behind them.
use Rattle.std.proofs.Common.{◌≡◌, ◌⊎◌, inl, inr, ℕ, zero, suc, ◌+◌, ◌-◌, ◌<◌, ◌≤◌, false, List, sym, ap, subst, ◌∙◌, arith}
use Rattle.std.specs.Prelude.{Option, None, Some, Result, Ok, Err}
use Rattle.std.proofs.lemmas.Bool.{cases_lt}
use Rattle.sp_host.specs.Told.{Told}
use Rattle.cow_pages.specs.Marks.{count_marked}
use Rattle.guest_model.specs.Effect.{Effect, effect_of}
use Rattle.guest_model.specs.Machine.{Machine}
use Rattle.guest_model.specs.Range.{Range}
use Rattle.guest_model.specs.Runs.{Running, IsRunning}
use Rattle.guest_model.specs.Serial.{Position, Signal, position_at}
use Rattle.guest_model.proofs.Runs.{along-zero, running_earlier}
use Rattle.guest_mem.specs.Frames.{marked_for_all}
use Rattle.guest_mem.proofs.Ranges.{marked_for_all-none}
use Rattle.rv_machine.specs.Guest.{GuestState}
use Rattle.rv_machine.specs.Ran.{machine_after, state_of as machine_state, tried, written_after}
use Rattle.rv_machine.specs.declared.step.Stepped.{Stepped}
use Rattle.rv_machine.specs.declared.step.Stepped.TheVariants as answers
use Rattle.syscall_layer.specs.Step.{StopsRun}
use Rattle.syscall_layer.specs.declared.fault.RunFault.{RunFault}
use Rattle.syscall_layer.specs.declared.fault.RunFault.TheVariants as faults
use Rattle.syscall_layer.proofs.Step.{nothing_sent, step_with}
use Rattle.boundary_verify.specs.Cuts.{is_full}
use Rattle.master_run.specs.Master.{limits_of}
use Rattle.master_run.specs.Progress.{Advances, HasPollOf, IsAtCall, IsBeforePoll, IsBelow, IsOpen, PlaysFrom, RunsOn, RunsTo, TriedWithin}
use Rattle.master_run.specs.declared.limits.Limits.{Limits}
use Rattle.master_run.specs.declared.progress.Progress.{Progress}
use Rattle.master_run.proofs.Advance.{plays_run}
use Rattle.master_run.proofs.Full.{none_later}
use Rattle.master_run.proofs.Telling.{runs_run}

-- one part after the other
pub advances_more : (old mid new : Progress) → Advances old mid → Advances mid new → Advances old new
advances_more old mid new first second = record {
  not_less = omega (arith, first.not_less, second.not_less);
  plays = λ start k before.
      let steps : k + (mid.position - old.position) + (new.position - mid.position) ≡ k + (new.position - old.position) = omega (arith, first.not_less, second.not_less) in
      subst (λ (n : ℕ). PlaysFrom start n new) steps (second.plays start (k + (mid.position - old.position)) (first.plays start k before));
  frames = second.frames ∙ first.frames;
  origin = second.origin ∙ first.origin;
  calls = omega (arith, first.calls, second.calls);
}

-- no page more is marked by no instruction
pub written_none : (g : GuestState) → written_after 0 g ≡ count_marked g.frames.written
written_none g = ap (λ (rs : List Range). count_marked (marked_for_all g.frames.written rs)) (along-zero machine_state _ (Running g.machine)) ∙ ap count_marked (marked_for_all-none g.frames.written)

module _ (limits : Limits) (old mid : Progress) (answer : Stepped) (h : RunsOn limits old mid answer) where
  pub advances_run : Advances old mid
  advances_run = record {
    not_less = h.later;
    plays = λ start k before. plays_run start k (mid.position - old.position) old mid before h.ran.machine h.ran.frames.written h.calls h.log;
    frames = h.ran.frames.count;
    origin = h.ran.origin;
    calls = omega (arith, h.later, h.calls);
  }

  marked_now : count_marked mid.guest.frames.written ≡ written_after (mid.position - old.position) old.guest
  marked_now = ap count_marked h.ran.frames.written

  few_at : IsBelow limits old → (k : ℕ) → k < tried answer (mid.position - old.position) → written_after k old.guest ≤ limits.frames - 32
  few_at below zero lt = omega (arith, below.pages, written_none old.guest)
  few_at below (suc k) lt = h.ran.few (suc k) (omega arith) lt

  -- up to which position no rule that looks at the run makes a cut due
  pub quiet_run : (t : Told) (p : Position) (b : ℕ) (told : Told) → RunsTo t p b old told → b ≤ old.position → IsBelow limits old
      → (s : ℕ) → old.position < s → s < old.position + tried answer (mid.position - old.position) → mid.position - old.position + 1 ≡ suc (mid.position - old.position) → tried answer (mid.position - old.position) ≤ mid.position - old.position + 1
      → is_full (limits_of limits) (position_at b p) (s - b) ≡ false
  quiet_run t p b told runs behind below s more within _ most =
      let k = s - old.position in
      let leads : IsRunning (machine_after k old.guest.machine) = running_earlier machine_state k (mid.position - old.position) (Running old.guest.machine) (omega (arith, more, within, most)) (mid.guest.machine, h.ran.machine) in
      let place : old.position + k ≡ s = omega (arith, more) in
      subst (λ (i : ℕ). is_full (limits_of limits) (position_at b p) (i - b) ≡ false) place
      (none_later t p b limits old told k runs behind below leads (few_at below k (omega (arith, more, within))))

  pub runs_mid : (t : Told) (p : Position) (b : ℕ) (told : Told) → RunsTo t p b old told → b ≤ old.position → RunsTo t p b mid told
  runs_mid t p b told runs behind = runs_run t p b (mid.position - old.position) old mid told runs behind h.ran.machine h.ran.frames.written (omega (arith, h.later)) h.calls h.log

-- all steps were made, or more pages are written
pub goes_next : (limits : Limits) (old mid : Progress) → RunsOn limits old mid answers.Next → IsBelow limits old → old.position < mid.position
goes_next limits old mid h below = by h.ran.stops
  where
    by : (mid.position - old.position ≡ h.steps) ⊎ (limits.frames - 32 < count_marked mid.guest.frames.written) → old.position < mid.position
    by (inl all) = omega (arith, all, h.some)
    by (inr many) = elim (cases_lt old.position mid.position) [
      | inl lt ↦ lt
      | inr le ↦ (
          let none : mid.position - old.position ≡ 0 = omega (arith, le) in
          absurd (omega (arith, many, below.pages, ap count_marked h.ran.frames.written, ap (λ (n : ℕ). written_after n old.guest) none, written_none old.guest)))
    ]

-- a call can be served
pub at_call : (limits : Limits) (old mid : Progress) → RunsOn limits old mid answers.Call → IsOpen limits old → IsBelow limits old → IsAtCall mid
at_call limits old mid h going below = record {
  room = (let few = few_at limits old mid answers.Call h below (mid.position - old.position) (omega arith) in
      omega (arith, few, ap count_marked h.ran.frames.written, h.ran.frames.count, going.frames, limits.frames_range.0));
  asked = omega (arith, h.ran.stops.0, h.few, h.asked, h.later);
  position = omega (arith, h.ran.stops.0, h.within, h.later, limits.budget_range.1);
  calls = omega (arith, h.calls, going.calls, h.later);
  bytes = omega (arith, below.bytes, ap Rattle.call_record.specs.Record.size_of_records h.log);
}

-- an instruction that faults ends the run
pub fault_stops : (t : Told) (q : Position) (before : List Rattle.guest_model.specs.Call.Sent) (m : Machine) (kind pc : ℕ) (now : Told) → q.machine ≡ m → effect_of m ≡ Effect.Fault kind → pc ≡ m.pc
    → now ≡ Rattle.syscall_layer.specs.Serve.told_after t q.world before → StopsRun t q before (Signal kind pc) now
fault_stops t q before m kind pc now here e at_pc told =
    let step = step_with q (Effect.Fault kind) (ap effect_of here ∙ e) in
    let pc_is : q.machine.pc ≡ pc = ap (λ (k : Machine). k.pc) here ∙ sym at_pc in
    (step.leads ∙ ap (λ (a : ℕ). Rattle.guest_model.specs.Runs.Ended q (Signal kind a)) pc_is, nothing_sent t q before now step.sends told)

pub on_ok : (old mid new : Progress) (r : Result (Option Rattle.rv_machine.specs.declared.step.End.End) Rattle.syscall_layer.specs.declared.fault.RunFault.RunFault) → Advances old mid → Rattle.std.specs.Prelude.OnOk r (Advances mid new) → Rattle.std.specs.Prelude.OnOk r (Advances old new)
on_ok old mid new (Ok ended) first second = advances_more old mid new first second
on_ok old mid new (Err fault) first second = tt

pub poll_kept : (old mid new : Progress) (r : Result (Option Rattle.rv_machine.specs.declared.step.End.End) Rattle.syscall_layer.specs.declared.fault.RunFault.RunFault) → HasPollOf old mid → Rattle.std.specs.Prelude.OnOk r (HasPollOf mid new) → Rattle.std.specs.Prelude.OnOk r (HasPollOf old new)
poll_kept old mid new (Ok ended) first second = second ∙ first
poll_kept old mid new (Err fault) first second = tt

-- what stops a call stops the run before the next poll
pub stops_before : (old mid new : Progress) (r : Result (Option Rattle.rv_machine.specs.declared.step.End.End) RunFault) → old.position ≤ mid.position → HasPollOf old mid → IsBeforePoll r mid new → IsBeforePoll r old new
stops_before old mid new (Ok None) le poll h = tt
stops_before old mid new (Ok (Some end)) le poll h = (omega (arith, le, h.0), omega (arith, poll, h.1))
stops_before old mid new (Err (faults.Unsupported number pc)) le poll h = (omega (arith, le, h.0), omega (arith, poll, h.1))
stops_before old mid new (Err (faults.BudgetSpent n)) le poll h = (omega (arith, le, h.0), omega (arith, poll, h.1))
stops_before old mid new (Err faults.InputFault) le poll h = (omega (arith, le, h.0), omega (arith, poll, h.1))
stops_before old mid new (Err (faults.OutputFault port)) le poll h = (omega (arith, le, h.0), omega (arith, poll, h.1))
stops_before old mid new (Err faults.NoMemory) le poll h = tt

-- a call that fails
pub fault_before : (fault : RunFault) (old new : Progress) → new.position ≡ old.position → 0 < old.until_poll → IsBeforePoll (Err fault) old new
fault_before (faults.Unsupported number pc) old new same some = (omega (arith, same), omega (arith, same, some))
fault_before (faults.BudgetSpent n) old new same some = (omega (arith, same), omega (arith, same, some))
fault_before faults.InputFault old new same some = (omega (arith, same), omega (arith, same, some))
fault_before (faults.OutputFault port) old new same some = (omega (arith, same), omega (arith, same, some))
fault_before faults.NoMemory old new same some = tt

pub fault_tried : (fault : RunFault) (old new : Progress) → new.position ≡ old.position → TriedWithin (old.position + 1) (Err fault) new.position
fault_tried (faults.Unsupported number pc) old new same = omega (arith, same)
fault_tried (faults.BudgetSpent n) old new same = tt
fault_tried faults.InputFault old new same = omega (arith, same)
fault_tried (faults.OutputFault port) old new same = omega (arith, same)
fault_tried faults.NoMemory old new same = tt

pub tried_within : (few more : ℕ) (r : Result (Option Rattle.rv_machine.specs.declared.step.End.End) RunFault) (position : ℕ) → few ≤ more → TriedWithin few r position → TriedWithin more r position
tried_within few more (Ok ended) position le h = tt
tried_within few more (Err (faults.Unsupported number pc)) position le h = omega (arith, le, h)
tried_within few more (Err (faults.BudgetSpent n)) position le h = tt
tried_within few more (Err faults.InputFault) position le h = omega (arith, le, h)
tried_within few more (Err (faults.OutputFault port)) position le h = omega (arith, le, h)
tried_within few more (Err faults.NoMemory) position le h = tt
