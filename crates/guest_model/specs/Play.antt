-- The play: a machine alone, which takes what its calls did from a list of records.
use Rattle.std.specs.Prelude.{ℕ, ◌+◌, ◌-◌, List, [], length, map, Option, None, Some, slice_get}
use Rattle.call_record.specs.Record.{CallRecord, Stored}
use Rattle.guest_model.specs.Call.{machine_after}
use Rattle.guest_model.specs.Calls.{Deed, Answers, deed_of}
use Rattle.guest_model.specs.Effect.{Effect, Next, Call, Fault, effect_of}
use Rattle.guest_model.specs.Machine.{Machine}
use Rattle.guest_model.specs.Range.{Range, range}
use Rattle.guest_model.specs.Runs.{RunState, Running, Ended, after, along}
use Rattle.guest_model.specs.Serial.{Position, TraceItem, item_of}

-- a machine with its record position: the number of calls that went on before it
pub record Spot : Type 0 where
  pub machine : Machine
  pub calls : ℕ

abbrev pub spot : Machine → ℕ → Spot
spot m calls = record { machine = m; calls = calls }

-- what a play knows of a position of a serial run
abbrev pub spot_of : Position → Spot
spot_of p = spot p.machine p.calls

-- the records from a record position on
pub record Script : Type 0 where
  pub first : ℕ
  pub entries : List CallRecord

-- why a play ends: the instruction faults, or no record is left for its call
pub data Halt : Type 0 where
  Faulted : (kind : ℕ) → Halt
  Unrecorded : Halt

-- the machine behind the call at m by its record: the areas, the break and the next map address change as the call's row
-- says, then the record's bytes are stored, and its result is in x10
abbrev pub played_by : Option Deed → Machine → CallRecord → Machine
played_by None m entry = machine_after m (Answers entry.answer) entry
played_by (Some deed) m entry = machine_after m deed entry

unfoldable pub played : Machine → CallRecord → Machine
played m entry = played_by (deed_of m) m entry

-- the record for the call at this record position
abbrev pub entry_for : Script → ℕ → Option CallRecord
entry_for script calls = slice_get script.entries (calls - script.first)

abbrev pub play_by_entry : Spot → Option CallRecord → RunState Spot Halt
play_by_entry s None = Ended s Unrecorded
play_by_entry s (Some entry) = Running (spot (played s.machine entry) (s.calls + 1))

abbrev pub play_by : Script → Spot → Effect → RunState Spot Halt
play_by script s (Next next stored) = Running (record s { machine = next })
play_by script s Call = play_by_entry s (entry_for script s.calls)
play_by script s (Fault kind) = Ended s (Faulted kind)

-- one step of the play
unfoldable pub play_step : Script → Spot → RunState Spot Halt
play_step script s = play_by script s (effect_of s.machine)

-- where the play from s stands after n steps
abbrev pub play_of : Script → ℕ → Spot → RunState Spot Halt
play_of script n s = after (play_step script) n (Running s)

-- where a record's bytes are stored
abbrev pub range_of : Stored → Range
range_of s = range s.at (length s.bytes)

abbrev pub written_by_entry : Option CallRecord → List Range
written_by_entry None = []
written_by_entry (Some entry) = map range_of entry.stored

-- the ranges that the step from s stores in
abbrev pub written_in_play : Script → Spot → Effect → List Range
written_in_play script s (Next next stored) = stored
written_in_play script s Call = written_by_entry (entry_for script s.calls)
written_in_play script s (Fault kind) = []

unfoldable pub written_at : Script → Spot → List Range
written_at script s = written_in_play script s (effect_of s.machine)

-- the ranges that the first n steps of the play from s store in
abbrev pub written_of : Script → ℕ → Spot → List Range
written_of script n s = along (play_step script) (written_at script) n (Running s)

abbrev pub machine_of : {E : Type 0} → RunState Spot E → Option Machine
machine_of (Running s) = Some s.machine
machine_of (Ended s e) = None

-- the trace item of the step from s
abbrev pub played_item : Script → Spot → List TraceItem
played_item script s = item_of s.machine (machine_of (play_step script s))
