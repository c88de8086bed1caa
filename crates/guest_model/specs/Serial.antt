-- The serial run: a machine with the world outside, one step after the other.
use Rattle.std.specs.Prelude.{◌≡◌, ℕ, ◌+◌, ◌==◌, List, [], ◌∷◌, Option, None, Some, if◌then◌else◌}
use Rattle.std.specs.List.{flat_map}
use Rattle.rv_isa.specs.Table.{Fields}
use Rattle.call_record.specs.Record.{CallRecord}
use Rattle.guest_model.specs.Machine.{Machine, instruction_at}
use Rattle.guest_model.specs.Effect.{Effect, Next, Call, Fault, effect_of}
use Rattle.guest_model.specs.Call.{World, Sent, Called, Went, Exits, call_of}
use Rattle.guest_model.specs.Call as calls
use Rattle.guest_model.specs.Runs.{RunState, Running, Ended, IsRunning, after, along, state_of}

-- a position of a run: the machine, the world, and the number of calls that went on before it (the record position)
pub record Position : Type 0 where
  pub machine : Machine
  pub world : World
  pub calls : ℕ

pub data End : Type 0 where
  Exit : (status : ℕ) → End
  Signal : (kind : ℕ) (pc : ℕ) → End
  Unsupported : (number : ℕ) (pc : ℕ) → End

abbrev pub step_by_call : Position → Called → RunState Position End
step_by_call p (Went next later entry sent) = Running (record { machine = next; world = later; calls = p.calls + 1 })
step_by_call p (Exits status) = Ended p (Exit status)
step_by_call p (calls.Unsupported number) = Ended p (Unsupported number p.machine.pc)

abbrev pub step_by : Position → Effect → RunState Position End
step_by p (Next next stored) = Running (record p { machine = next })
step_by p Call = step_by_call p (call_of p.machine p.world)
step_by p (Fault kind) = Ended p (Signal kind p.machine.pc)

-- one serial step
unfoldable pub step_of : Position → RunState Position End
step_of p = step_by p (effect_of p.machine)

-- where the serial run from p stands after n steps
abbrev pub run_of : ℕ → Position → RunState Position End
run_of n p = after step_of n (Running p)

-- position t of the run from p, or its last one where it ended before
abbrev pub position_at : ℕ → Position → Position
position_at t p = state_of (run_of t p)

-- the run from p ends so, by the step from position t
pub record EndsAt (p : Position) (t : ℕ) (end : End) : Type 0 where
  pub position : IsRunning (run_of t p)
  pub over : run_of (t + 1) p ≡ Ended (position_at t p) end

-- the record that the step from p leaves, if it is a call that goes on
abbrev pub entry_by_call : Called → List CallRecord
entry_by_call (Went next later entry sent) = entry ∷ []
entry_by_call (Exits status) = []
entry_by_call (calls.Unsupported number) = []

abbrev pub entry_by : Position → Effect → List CallRecord
entry_by p (Next next stored) = []
entry_by p Call = entry_by_call (call_of p.machine p.world)
entry_by p (Fault kind) = []

unfoldable pub entry_at : Position → List CallRecord
entry_at p = entry_by p (effect_of p.machine)

-- the records of the first n steps of the run from p
abbrev pub entries_of : ℕ → Position → List CallRecord
entries_of n p = along step_of entry_at n (Running p)

-- what the step from p sends, if it is a call that goes on
abbrev pub sent_by_call : Called → List Sent
sent_by_call (Went next later entry sent) = sent
sent_by_call (Exits status) = []
sent_by_call (calls.Unsupported number) = []

abbrev pub sent_by : Position → Effect → List Sent
sent_by p (Next next stored) = []
sent_by p Call = sent_by_call (call_of p.machine p.world)
sent_by p (Fault kind) = []

unfoldable pub sent_at : Position → List Sent
sent_at p = sent_by p (effect_of p.machine)

-- what the first n steps of the run from p send
abbrev pub sent_of : ℕ → Position → List Sent
sent_of n p = along step_of sent_at n (Running p)

-- the bytes that went to one port
abbrev pub to_port : ℕ → Sent → List ℕ
to_port port s = if s.port == port then s.bytes else []

abbrev pub bytes_to : ℕ → List Sent → List ℕ
bytes_to port sent = flat_map (to_port port) sent

-- an item of the trace: the machine before, the instruction, and the machine after where it completed
pub record TraceItem : Type 0 where
  pub before : Machine
  pub instruction : Fields
  pub completion : Option Machine

-- the machine after a step that completed
abbrev pub completed : {E : Type 0} → RunState Position E → Option Machine
completed (Running p) = Some p.machine
completed (Ended p e) = None

abbrev pub item_with : Machine → Option Machine → Option Fields → List TraceItem
item_with before completion None = []
item_with before completion (Some i) = record { before = before; instruction = i; completion = completion } ∷ []

-- one item where a word was fetched and decoded, whether or not its instruction completed
unfoldable pub item_of : Machine → Option Machine → List TraceItem
item_of before completion = item_with before completion (instruction_at before)

abbrev pub item_at : Position → List TraceItem
item_at p = item_of p.machine (completed (step_of p))

-- the trace of the first n steps
abbrev pub trace_of : ℕ → Position → List TraceItem
trace_of n p = along step_of item_at n (Running p)
