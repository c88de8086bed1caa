-- The run, step by step.
use Rattle.std.proofs.Common.{◌≡◌, ◌<◌, ◌≤◌, ◌+◌, ◌^◌, ℕ, List, [], ◌++◌, length, refl, sym, ap, subst, ◌∙◌, inl, inr, arith, length-append}
use Rattle.std.specs.Prelude.{true, false, Bool, Option, None, Some, is_some, Ok, Err, option_and_then, if◌then◌else◌}
use Rattle.std.proofs.lemmas.Bool.{cases_Bool, true≢false}
use Rattle.sp_host.specs.Told.{Told}
use Rattle.rv_isa.specs.Table.{Fields}
use Rattle.rv_isa.specs.Decoded.{decoded}
use Rattle.guest_model.specs.Machine.{Machine, instruction_at}
use Rattle.guest_model.specs.Effect.{Effect, effect_of, effect_of_word, effect_of_instruction}
use Rattle.guest_model.specs.Space.{read_number}
use Rattle.guest_model.specs.declared.Access.TheVariants.{Execute}
use Rattle.guest_model.specs.Runs.{RunState, Running, Ended}
use Rattle.guest_model.specs.Serial.{Position, End, TraceItem, Unsupported, item_of, item_at, completed, step_of, sent_at, run_of, sent_of, trace_of}
use Rattle.guest_model.proofs.Runs.{after-zero, along-zero, after-next, along-next, after-last, along-last}
use Rattle.insert_points.specs.Plan.{PlanFields}
use Rattle.insert_points.specs.declared.call.Event.{Event}
use Rattle.rv_machine.specs.declared.step.End.{End as GuestEnd}
use Rattle.sp_report.specs.Lines.{end_by}
use Rattle.syscall_layer.specs.Serve.{told_after}
use Rattle.syscall_layer.specs.declared.fault.RunFault.{RunFault}
use Rattle.syscall_layer.specs.declared.fault.RunFault.TheVariants as faults
use Rattle.tool_step.specs.Steps.{TakesEvents, step_events}
use Rattle.serial_run.specs.Run.{Counted, RunFails}
use Rattle.serial_run.specs.Start.{Run}
use Rattle.syscall_layer.specs.Step.{GoesOn, IsAt, world_of}
use Rattle.serial_run.specs.Steps.{StepGives}
use Rattle.serial_run.specs.declared.step.Turn.TheVariants as turns
use Rattle.serial_run.proofs.Events.{Heard, heard_more, heard_none, item_count}
use Rattle.syscall_layer.proofs.Step.{step_with}
use Rattle.serial_run.proofs.Steps.{completion_is}

-- without an instruction the effect is a fault
abbrev IsFault : Effect → Type 0
IsFault (Effect.Next next stored) = ⊥
IsFault Effect.Call = ⊥
IsFault (Effect.Fault kind) = Unit {0}

fault_without : (m : Machine) (o : Option ℕ) → is_some (option_and_then decoded o) ≡ false → IsFault (effect_of_word m o)
fault_without m None h = tt
fault_without m (Some word) h = without (decoded word) h
  where
    without : (i : Option Fields) → is_some i ≡ false → IsFault (effect_of_instruction m i)
    without None e = tt
    without (Some i) e = absurd (true≢false e)

fault_at : (m : Machine) → is_some (instruction_at m) ≡ false → IsFault (effect_of m)
unfolding effect_of
fault_at m h = fault_without m (read_number Execute m.space m.pc 4) h

-- a fault ends the run
never_on : (p : Position) (m : Machine) (calls : ℕ) (e : Effect) → effect_of p.machine ≡ e → IsFault e → IsAt (step_of p) m calls → ⊥
never_on p m calls (Effect.Next next stored) h f on = f
never_on p m calls Effect.Call h f on = f
never_on p m calls (Effect.Fault kind) h f on = subst (λ (state : RunState Position End). IsAt state m calls) (step_with p (Effect.Fault kind) h).leads on

-- a step that goes on has an instruction
instruction_of_step : (p : Position) (m : Machine) (calls : ℕ) → IsAt (step_of p) m calls → is_some (instruction_at p.machine) ≡ true
instruction_of_step p m calls on =
    elim (cases_Bool (is_some (instruction_at p.machine))) [
      | inl h ↦ h
      | inr h ↦ absurd (never_on p m calls (effect_of p.machine) refl (fault_at p.machine h) on)
    ]

module _ {L : Type 0} (plan : PlanFields) (stands : List Event → L → Type 0) (t : Told) (r : Run) where
  -- the run so far goes on, and the host, the guest, the local and the counts stand where it stands
  pub record SoFar (now : Told) (m : Machine) (calls steps : ℕ) (local : L) : Type 0 where
    pub position : Position
    pub stands_at : run_of steps r.start ≡ Running position
    pub machine_is : position.machine ≡ m
    pub calls_are : position.calls ≡ calls
    pub told_is : now ≡ told_after t position.world (sent_of steps r.start)
    pub heard : Heard plan stands (trace_of steps r.start) steps local
    pub steps_are : length (trace_of steps r.start) ≡ steps

  pub begins : (now : Told) (local : L) → r.start.calls ≡ 0 → now ≡ told_after t r.start.world [] → stands [] local → SoFar now r.start.machine 0 0 local
  begins now local none is empty = record {
    position = r.start;
    stands_at = after-zero step_of (Running r.start);
    machine_is = refl;
    calls_are = none;
    told_is = is ∙ ap (told_after t r.start.world) (sym (along-zero step_of sent_at (Running r.start)));
    heard = subst (λ (items : List TraceItem). Heard plan stands items 0 local) (sym (along-zero step_of item_at (Running r.start))) (heard_none plan stands local empty);
    steps_are = ap length (along-zero step_of item_at (Running r.start));
  }

  -- the item of the step from the position
  item_here : (p : Position) (m : Machine) (c : Option Machine) → p.machine ≡ m → completed (step_of p) ≡ c → item_at p ≡ item_of m c
  item_here p m c here is = ap (λ (k : Machine). item_of k (completed (step_of p))) here ∙ ap (item_of m) is

  -- a step that goes on, by where it leads
  goes_on : (now new : Told) (m next : Machine) (calls steps : ℕ) (more : ℕ) (old local : L) (before : SoFar now m calls steps old) (state : RunState Position End) → step_of before.position ≡ state
      → IsAt state next more → IsAt (step_of before.position) next more → new ≡ told_after t (world_of state) (sent_of steps r.start ++ sent_at before.position)
      → Heard plan stands (trace_of steps r.start ++ item_of m (Some next)) (steps + 1) local → SoFar new next more (steps + 1) local
  goes_on now new m next calls steps more old local before (Running q) leads is_at at told_is heard =
      let p = before.position in
      let item = item_here p m (Some next) before.machine_is (completion_is p next more at) in
      let items = along-next step_of item_at steps (Running r.start) p before.stands_at ∙ ap (λ (xs : List TraceItem). trace_of steps r.start ++ xs) item in
      let has : is_some (instruction_at m) ≡ true = ap (λ (k : Machine). is_some (instruction_at k)) (sym before.machine_is) ∙ instruction_of_step p next more at in
      let size : length (trace_of steps r.start ++ item_of m (Some next)) ≡ length (trace_of steps r.start) + length (item_of m (Some next)) = simp length-append in
      record {
        position = q;
        stands_at = after-next step_of steps (Running r.start) p before.stands_at ∙ leads;
        machine_is = is_at.0;
        calls_are = is_at.1;
        told_is = told_is ∙ ap (told_after t q.world) (sym (along-next step_of sent_at steps (Running r.start) p before.stands_at));
        heard = subst (λ (xs : List TraceItem). Heard plan stands xs (steps + 1) local) (sym items) heard;
        steps_are = omega (arith, ap length items, size, before.steps_are, item_count m (Some next) true has);
      }
  goes_on now new m next calls steps more old local before (Ended q stop) leads is_at at told_is heard = absurd is_at

  pub next_so_far : (now new : Told) (m next : Machine) (calls steps more : ℕ) (old local : L) (before : SoFar now m calls steps old) → steps < 2 ^ 40 → m.pc < 2 ^ 32
      → length (step_events plan m (Some next)) ≤ 24 → TakesEvents stands (step_events plan m (Some next)) old local
      → GoesOn t before.position (sent_of steps r.start) next more new → SoFar new next more (steps + 1) local
  next_so_far now new m next calls steps more old local before room fits few takes gives =
      goes_on now new m next calls steps more old local before (step_of before.position) refl gives.0 gives.0 gives.1
      (heard_more plan stands (trace_of steps r.start) steps old local m (Some next) room before.heard fits few takes)

  -- a run that a step ends; its last item stands where the step had an instruction
  pub ends_run : (grows : Bool) (now new : Told) (m next : Machine) (calls steps tried : ℕ) (old local : L) (before : SoFar now m calls steps old) (end : GuestEnd) (has : Bool) → steps < r.budget → steps < 2 ^ 40
      → m.pc < 2 ^ 32 → length (step_events plan m None) ≤ 24 → TakesEvents stands (step_events plan m None) old local
      → is_some (instruction_at next) ≡ has → tried ≡ steps + (if has then 1 else 0) → StepGives grows t before.position (sent_of steps r.start) (Ok (turns.Over end)) next new
      → Counted plan stands t r (record { end = end; steps = tried; calls = calls }) local new
  ends_run grows now new m next calls steps tried old local before end has lt room fits few takes is tried_is gives =
      let q = before.position in
      let item = item_here q m None before.machine_is (ap completed gives.0) in
      let items = along-last step_of item_at steps r.budget (Running r.start) q q (end_by end) lt before.stands_at gives.0 ∙ ap (λ (xs : List TraceItem). trace_of steps r.start ++ xs) item in
      let stands_here : is_some (instruction_at m) ≡ has = ap (λ (k : Machine). is_some (instruction_at k)) (sym (gives.1 ∙ before.machine_is)) ∙ is in
      let heard = subst (λ (xs : List TraceItem). Heard plan stands xs (steps + 1) local) (sym items) (heard_more plan stands (trace_of steps r.start) steps old local m None room before.heard fits few takes) in
      let size : length (trace_of steps r.start ++ item_of m None) ≡ length (trace_of steps r.start) + length (item_of m None) = simp length-append in
      record {
        last = q;
        ends = record {
          stands = after-last step_of steps r.budget (Running r.start) q q (end_by end) lt before.stands_at gives.0;
          told_is = gives.2 ∙ ap (told_after t q.world) (sym (along-last step_of sent_at steps r.budget (Running r.start) q q (end_by end) lt before.stands_at gives.0));
        };
        local_is = heard.local_is;
        few = omega (arith, heard.few, lt);
        in_range = heard.in_range;
        steps_are = omega (arith, tried_is, ap length items, size, before.steps_are, item_count m None has stands_here);
        calls_are = sym before.calls_are;
      }

  -- a run that a fault stops
  fails_unsupported : (grows : Bool) (now new : Told) (m next : Machine) (calls steps number pc : ℕ) (old : L) (before : SoFar now m calls steps old) → steps < r.budget
      → StepGives grows t before.position (sent_of steps r.start) (Err (faults.Unsupported number pc)) next new → RunFails grows t r (faults.Unsupported number pc) new
  fails_unsupported grows now new m next calls steps number pc old before lt gives =
      let q = before.position in (
        q,
        record {
          stands = after-last step_of steps r.budget (Running r.start) q q (Unsupported number pc) lt before.stands_at gives.0;
          told_is = gives.1 ∙ ap (told_after t q.world) (sym (along-last step_of sent_at steps r.budget (Running r.start) q q (Unsupported number pc) lt before.stands_at gives.0));
        },
      )

  pub fails_run : (grows : Bool) (now new : Told) (m next : Machine) (calls steps : ℕ) (old : L) (before : SoFar now m calls steps old) (fault : RunFault) → steps < r.budget
      → StepGives grows t before.position (sent_of steps r.start) (Err fault) next new → RunFails grows t r fault new
  fails_run grows now new m next calls steps old before (faults.Unsupported number pc) lt gives = fails_unsupported grows now new m next calls steps number pc old before lt gives
  fails_run grows now new m next calls steps old before (faults.BudgetSpent n) lt gives = absurd gives
  fails_run grows now new m next calls steps old before faults.InputFault lt gives = record { steps = steps; within = lt; position = before.position; stands = before.stands_at; holds = gives }
  fails_run grows now new m next calls steps old before (faults.OutputFault port) lt gives = record { steps = steps; within = lt; position = before.position; stands = before.stands_at; holds = gives }
  fails_run grows now new m next calls steps old before faults.NoMemory lt gives = inr (inl (record { steps = steps; within = lt; position = before.position; stands = before.stands_at; holds = gives }))

  -- a run whose budget is spent
  pub spent : (grows : Bool) (now : Told) (m : Machine) (calls : ℕ) (local : L) → SoFar now m calls r.budget local → RunFails grows t r (faults.BudgetSpent r.budget) now
  spent grows now m calls local so_far = (so_far.position, so_far.stands_at, refl, so_far.told_is)
