-- The events of a step, over an item of the trace: the machine before, the instruction, and the machine after where it
-- completed.
use Rattle.std.specs.Prelude.{◌≡◌, ℕ, Bool, false, List, [], ◌∷◌, ◌++◌, map, Option, None, Some, IfSome, if◌then◌else◌}
use Rattle.std.specs.Option.{option_map}
use Rattle.rv_isa.specs.declared.view.StepView.{StepView}
use Rattle.guest_model.specs.Added.{empty_space}
use Rattle.guest_model.specs.Effect.{rs1_value, rs2_value}
use Rattle.guest_model.specs.Machine.{Machine, at_start}
use Rattle.guest_model.specs.Serial.{TraceItem}
use Rattle.insert_points.specs.Arguments.{jumps, value_of}
use Rattle.insert_points.specs.declared.call.Event.{Event}
use Rattle.insert_points.specs.declared.operands.Operands.{Operands}
use Rattle.insert_points.specs.declared.planned.PlannedCall.{PlannedCall}

-- what is called at an address: at a routine that starts there, at a block that begins there, and at the instruction
pub record Called : Type 0 where
  pub routine : List PlannedCall
  pub block : List PlannedCall
  pub before : List PlannedCall
  pub after : List PlannedCall
  pub taken : List PlannedCall

-- the event of a call, with the registers at its point
abbrev pub event_of : Operands → List ℕ → PlannedCall → Event
event_of o registers call = record {
  number = call.number;
  args = value_of call.args.first o registers ∷ value_of call.args.second o registers ∷ value_of call.args.third o registers ∷ value_of call.args.fourth o registers ∷ [];
}

abbrev pub operands_of : TraceItem → Operands
operands_of item = record {
  pc = item.before.pc;
  instr = item.instruction;
  a = rs1_value item.before item.instruction;
  b = rs2_value item.before item.instruction;
}

-- the events of calls before the instruction
abbrev pub early_events : TraceItem → List PlannedCall → List Event
early_events item calls = map (event_of (operands_of item) item.before.registers) calls

abbrev pub routine_events : Called → TraceItem → List Event
routine_events called item = early_events item called.routine

-- a block begins where the state before is fresh
abbrev pub block_events : Called → TraceItem → List Event
block_events called item = if item.before.fresh then early_events item called.block else []

abbrev pub before_events : Called → TraceItem → List Event
before_events called item = early_events item called.before

-- the calls after an instruction that completed: those at Taken where it went elsewhere, else those at After
abbrev pub late_calls : Called → Operands → List PlannedCall
late_calls called o = if jumps o then called.taken else called.after

abbrev pub late_events : Called → Operands → Option Machine → List Event
late_events called o None = []
late_events called o (Some after) = map (event_of o after.registers) (late_calls called o)

-- the events of a step, in their order
unfoldable pub events_of : Called → TraceItem → List Event
events_of called item =
    routine_events called item
    ++ (block_events called item
    ++ (before_events called item
    ++ late_events called (operands_of item) item.completion))

-- what a view of a step shows of an item of the trace
pub record Shows (view : StepView) (item : TraceItem) : Type 0 where
  pub pc : view.pc ≡ item.before.pc
  pub instr : view.instr ≡ item.instruction
  pub fresh : view.fresh ≡ item.before.fresh
  pub before : view.before ≡ item.before.registers
  pub next : view.next ≡ option_map (λ m. m.pc) item.completion
  pub after : IfSome item.completion (λ m. view.after ≡ m.registers)

-- an item that a view shows: one with an empty memory
abbrev pub machine_with : ℕ → List ℕ → Bool → Machine
machine_with pc registers fresh = record (at_start pc registers (empty_space 0)) { fresh = fresh }

abbrev pub item_of : StepView → TraceItem
item_of view = record {
  before = machine_with view.pc view.before view.fresh;
  instruction = view.instr;
  completion = option_map (λ next. machine_with next view.after false) view.next;
}
