-- The events of a run's steps, and what a local stands for that took them.
use Rattle.std.specs.Prelude.{◌≡◌, ℕ, ◌+◌, List, [], ◌++◌, length, Option, None, Some, map}
use Rattle.std.specs.List.{flat_map}
use Rattle.std.specs.Option.{option_map}
use Rattle.guest_model.specs.Machine.{Machine, instruction_at}
use Rattle.guest_model.specs.Serial.{TraceItem, item_of}
use Rattle.insert_points.specs.Events.{Called, event_of, events_of, late_events, operands_of}
use Rattle.insert_points.specs.Plan.{PlanFields, called_at}
use Rattle.insert_points.specs.declared.call.Event.{Event}
use Rattle.insert_points.specs.declared.operands.Operands.{Operands}
use Rattle.insert_points.specs.declared.plan.CallsAt.{CallsAt}
use Rattle.insert_points.specs.declared.planned.PlannedCall.{PlannedCall}
use Rattle.rv_machine.specs.declared.step.Stepped.{Stepped}
use Rattle.rv_machine.specs.declared.step.Stepped.TheVariants as answers
use Rattle.tool_law.specs.Law.{AreJoinable}

-- the events of an item of a trace, by a plan
abbrev pub item_events : PlanFields → TraceItem → List Event
item_events plan item = events_of (called_at plan item.before.pc) item

-- the events of a trace
abbrev pub trace_events : PlanFields → List TraceItem → List Event
trace_events plan items = flat_map (item_events plan) items

-- the events of the step of a machine, by the machine after it where it completed. There are none where no instruction stands
abbrev pub step_events : PlanFields → Machine → Option Machine → List Event
step_events plan before completion = trace_events plan (item_of before completion)

-- whatever a local stood for, it now stands for that and these events
abbrev pub TakesEvents : {L : Type 0} → (List Event → L → Type 0) → List Event → L → L → Type 0
TakesEvents stands events old new = (ys : List Event) → AreJoinable ys events → stands ys old → stands (ys ++ events) new

-- the machine after a step, where it completed: a call is not done by the step
abbrev pub completion_of : Stepped → Machine → Option Machine
completion_of answers.Next after = Some after
completion_of answers.Call after = None
completion_of (answers.Fault kind) after = None

-- what the arguments of a step's events are read from, where an instruction stands
abbrev pub operands_of_machine : Machine → Option Operands
operands_of_machine m = option_map (λ i. operands_of (record { before = m; instruction = i; completion = None })) (instruction_at m)

-- the events behind an instruction with these operands, which completed
abbrev pub events_after : PlanFields → Operands → Machine → List Event
events_after plan o after = late_events (called_at plan o.pc) o (Some after)

-- the events behind the step, which completed; none where no instruction stood
abbrev pub events_behind : PlanFields → Option Operands → Machine → List Event
events_behind plan None after = []
events_behind plan (Some o) after = events_after plan o after

-- these calls were looked up
pub record AreCalls (given : CallsAt) (called : Called) : Type 0 where
  pub routine : given.routine.now ≡ called.routine
  pub block : given.block.now ≡ called.block
  pub before : given.before.now ≡ called.before
  pub after : given.after.now ≡ called.after
  pub taken : given.taken.now ≡ called.taken

-- how many they are
abbrev pub count_given : CallsAt → ℕ
count_given given =
    length given.routine.now + length given.block.now + (length given.before.now + length given.after.now + length given.taken.now)

-- the events of calls, with the registers at their point
abbrev pub events_by : Operands → List ℕ → List PlannedCall → List Event
events_by o registers calls = map (event_of o registers) calls

-- nothing is called behind an instruction
abbrev pub LacksLate : Called → Type 0
LacksLate called = length called.after + length called.taken ≡ 0
