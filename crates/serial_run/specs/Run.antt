-- What a run with a tool answers, and what it does to what a host tells.
use Rattle.std.specs.Prelude.{◌≡◌, ◌⊎◌, ℕ, ◌<◌, ◌≤◌, ◌*◌, ◌^◌, Bool, List, [], ◌∷◌, length, Result, Ok, Err}
use Rattle.std.specs.List.{All}
use Rattle.sp_host.specs.Told.{Told}
use Rattle.guest_model.specs.Call.{Sent}
use Rattle.guest_model.specs.Runs.{Running, Ended}
use Rattle.guest_model.specs.Serial.{Position, End, TraceItem, Unsupported, sent_at, run_of, sent_of, trace_of}
use Rattle.insert_points.specs.Plan.{PlanFields}
use Rattle.insert_points.specs.declared.call.Event.{Event}
use Rattle.ordered_merge.specs.declared.finished.Finished.{Finished}
use Rattle.ordered_merge.specs.declared.merger.SliceLine.{SliceLine}
use Rattle.rv_machine.specs.declared.step.End.{End as GuestEnd}
use Rattle.sp_report.specs.Lines.{end_by}
use Rattle.syscall_layer.specs.Serve.{PartWritten, told_after}
use Rattle.syscall_layer.specs.Step.{StopsInput}
use Rattle.syscall_layer.specs.declared.fault.RunFault.{RunFault}
use Rattle.syscall_layer.specs.declared.fault.RunFault.TheVariants as faults
use Rattle.tool_step.specs.Steps.{trace_events}
use Rattle.serial_run.specs.Start.{Run}
use Rattle.serial_run.specs.Steps.{WantsMemory}
use Rattle.serial_run.specs.declared.run.Finish.{Finish}

-- a step of the run that comes after n others, within the budget
pub record StepBefore (r : Run) (P : Position → List Sent → Type 0) : Type 0 where
  pub steps : ℕ
  pub within : steps < r.budget
  pub position : Position
  pub stands : run_of steps r.start ≡ Running position
  pub holds : P position (sent_of steps r.start)

-- the run came to this end, at this position, and the outside stands behind it
pub record EndsAt (t : Told) (r : Run) (last : Position) (end : End) (new : Told) : Type 0 where
  pub stands : run_of r.budget r.start ≡ Ended last end
  pub told_is : new ≡ told_after t last.world (sent_of r.budget r.start)

-- where the outside stands when memory was wanting: before the first step, at a step, or behind a run that ended
abbrev pub RunLacks : Bool → Told → Run → Told → Type 0
RunLacks grows t r new =
    (new ≡ told_after t r.start.world [])
    ⊎ (StepBefore r (λ q before. WantsMemory grows t q before new)
    ⊎ ((last : Position) × (end : GuestEnd) × EndsAt t r last (end_by end) new))

-- what a run that did not come to an end answers, and what is told then
abbrev pub RunFails : Bool → Told → Run → RunFault → Told → Type 0
RunFails grows t r (faults.Unsupported number pc) new = (last : Position) × EndsAt t r last (Unsupported number pc) new
RunFails grows t r (faults.BudgetSpent n) new = (last : Position) × (run_of r.budget r.start ≡ Running last) × (n ≡ r.budget) × (new ≡ told_after t last.world (sent_of r.budget r.start))
RunFails grows t r faults.InputFault new = StepBefore r (λ q before. StopsInput t q before new)
RunFails grows t r (faults.OutputFault port) new = StepBefore r (λ q before. PartWritten t q.world before port (sent_at q) new)
RunFails grows t r faults.NoMemory new = RunLacks grows t r new

-- The steps of a run that came to its end: the local stands for the events of its trace by the plan.
pub record Counted {L : Type 0} (plan : PlanFields) (stands : List Event → L → Type 0) (t : Told) (r : Run) (f : Finish) (local : L) (new : Told) : Type 0 where
  pub last : Position
  pub ends : EndsAt t r last (end_by f.end) new
  pub local_is : stands (trace_events plan (trace_of r.budget r.start)) local
  pub few : length (trace_events plan (trace_of r.budget r.start)) ≤ 24 * r.budget
  pub in_range : All (λ item. item.before.pc < 2 ^ 32) (trace_of r.budget r.start)
  pub steps_are : f.steps ≡ length (trace_of r.budget r.start)
  pub calls_are : f.calls ≡ last.calls

abbrev pub StepsGive : {L : Type 0} → PlanFields → (List Event → L → Type 0) → Bool → Told → Run → Result Finish RunFault → L → Told → Type 0
StepsGive plan stands grows t r (Ok f) local new = Counted plan stands t r f local new
StepsGive plan stands grows t r (Err fault) local new = RunFails grows t r fault new

-- the line of a run that was not cut
abbrev pub whole_line : List TraceItem → Position → SliceLine
whole_line items last = record { steps = length items; calls = last.calls; hits = record { quick = 0; registers = 0; stack = 0; whole = 0 } }

-- A run came to its end: how it ended, what its state stands for, its one line, and what is told then.
pub record RunEnds {T L S : Type 0} (is_value : List TraceItem → S → Type 0) (t : Told) (r : Run) (f : Finished T L S) (new : Told) : Type 0 where
  pub last : Position
  pub ends : EndsAt t r last (end_by f.end) new
  pub value : is_value (trace_of r.budget r.start) f.shared
  pub lines : f.lines.items ≡ whole_line (trace_of r.budget r.start) last ∷ []

abbrev pub RunGives : {T L S : Type 0} → (List TraceItem → S → Type 0) → Bool → Told → Run → Result (Finished T L S) RunFault → Told → Type 0
RunGives is_value grows t r (Ok f) new = RunEnds is_value t r f new
RunGives is_value grows t r (Err fault) new = RunFails grows t r fault new
