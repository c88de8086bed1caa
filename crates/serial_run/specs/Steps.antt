-- What a step with a tool answers, and what it does to what a host tells.
use Rattle.std.specs.Prelude.{◌≡◌, ◌⊎◌, ◌+◌, Bool, true, List, [], ◌++◌, Option, None, Some, Result, Ok, Err}
use Rattle.sp_host.specs.Told.{Told}
use Rattle.guest_model.specs.Call.{Sent}
use Rattle.guest_model.specs.Machine.{Machine}
use Rattle.guest_model.specs.Runs.{Ended}
use Rattle.guest_model.specs.Serial.{Position, Unsupported, step_of, sent_at}
use Rattle.insert_points.specs.Plan.{PlanFields}
use Rattle.insert_points.specs.declared.call.Event.{Event}
use Rattle.sp_report.specs.Lines.{end_by}
use Rattle.syscall_layer.specs.Serve.{PartWritten, told_after}
use Rattle.syscall_layer.specs.Step.{GoesOn, LacksMemory, StopsInput, world_of}
use Rattle.syscall_layer.specs.declared.fault.RunFault.{RunFault}
use Rattle.syscall_layer.specs.declared.fault.RunFault.TheVariants as faults
use Rattle.tool_step.specs.Steps.{events_behind, operands_of_machine}
use Rattle.serial_run.specs.declared.step.Turn.{Turn}
use Rattle.serial_run.specs.declared.step.Turn.TheVariants as turns

-- the machine after a step that went so, where it completed
abbrev pub completion_by : Turn → Machine → Option Machine
completion_by turns.Next after = Some after
completion_by turns.Went after = Some after
completion_by (turns.Over end) after = None

-- the events that are left once a call was tried: those behind it, where it went on
abbrev pub events_left : PlanFields → Machine → Turn → Machine → List Event
events_left plan before turns.Next after = events_behind plan (operands_of_machine before) after
events_left plan before turns.Went after = events_behind plan (operands_of_machine before) after
events_left plan before (turns.Over end) after = []

-- the tool may take memory for an event, and the outside stands before the step from p or behind it
abbrev pub LacksToolMemory : Bool → Told → Position → List Sent → Told → Type 0
LacksToolMemory grows t p before new =
    (grows ≡ true) × ((new ≡ told_after t p.world before) ⊎ (new ≡ told_after t (world_of (step_of p)) (before ++ sent_at p)))

-- memory was wanting at the step from p: for the call that it is, or for one of its events
abbrev pub WantsMemory : Bool → Told → Position → List Sent → Told → Type 0
WantsMemory grows t p before new = LacksMemory t p before new ⊎ LacksToolMemory grows t p before new

-- a step from p, after these bytes were sent: what it answers, the machine after it, and what is told then
abbrev pub StepGives : Bool → Told → Position → List Sent → Result Turn RunFault → Machine → Told → Type 0
StepGives grows t p before (Ok turns.Next) m new = GoesOn t p before m p.calls new
StepGives grows t p before (Ok turns.Went) m new = GoesOn t p before m (p.calls + 1) new
StepGives grows t p before (Ok (turns.Over end)) m new = (step_of p ≡ Ended p (end_by end)) × (m ≡ p.machine) × (new ≡ told_after t p.world (before ++ sent_at p))
StepGives grows t p before (Err (faults.Unsupported number pc)) m new = (step_of p ≡ Ended p (Unsupported number pc)) × (new ≡ told_after t p.world (before ++ sent_at p))
StepGives grows t p before (Err (faults.BudgetSpent n)) m new = ⊥
StepGives grows t p before (Err faults.InputFault) m new = StopsInput t p before new
StepGives grows t p before (Err (faults.OutputFault port)) m new = PartWritten t p.world before port (sent_at p) new
StepGives grows t p before (Err faults.NoMemory) m new = WantsMemory grows t p before new
