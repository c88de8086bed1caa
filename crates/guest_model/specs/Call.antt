-- What a call does to a machine and to the world outside.
use Rattle.std.specs.Prelude.{ℕ, ◌/◌, ◌%◌, true, List, [], ◌∷◌, ◌++◌, length, take, drop, Option, None, Some, slice_set, slice_index}
use Rattle.std.specs.List.{fold}
use Rattle.call_record.specs.Record.{CallRecord, Stored}
use Rattle.guest_model.specs.Bytes.{Bytes, low_bytes, put_bytes}
use Rattle.guest_model.specs.Calls.{Deed, Answers, Takes, Sends, Tells, Maps, Ends, call_number, deed_of}
use Rattle.guest_model.specs.Machine.{Machine, following}
use Rattle.guest_model.specs.Range.{Range, total_size}
use Rattle.guest_model.specs.Space.{Space, with_bytes}
use Rattle.guest_model.specs.declared.platform.TheConstants.{SECOND}

-- what is outside: the input left, and the moments left, in nanoseconds
pub record World : Type 0 where
  pub input : List ℕ
  pub moments : List ℕ

-- bytes that went to a port: 1 is the standard output, 2 the standard error
pub record Sent : Type 0 where
  pub port : ℕ
  pub bytes : List ℕ

pub data Called : Type 0 where
  -- the call went on
  Went : (next : Machine) (later : World) (entry : CallRecord) (sent : List Sent) → Called
  -- it ended the run
  Exits : (status : ℕ) → Called
  -- no row has its number
  Unsupported : (number : ℕ) → Called

-- the machine with another memory
abbrev pub with_space : Machine → Space → Machine
with_space m s = record m { space = s }

-- a memory's bytes after these were stored, in order
abbrev pub store_all : Bytes → List Stored → Bytes
store_all m stored = fold (λ bytes s. put_bytes bytes s.at s.bytes) m stored

-- the areas, the break and the next map address change as the call says
abbrev pub space_by : Deed → Space → Space
space_by (Maps changed) s = changed.space
space_by deed s = s

-- then what the record says is stored
abbrev pub space_after : Deed → Space → List Stored → Space
space_after deed s stored = with_bytes (space_by deed s) (store_all (space_by deed s).bytes stored)

-- and the machine goes on behind the call, with its result in x10, and with nothing reserved
unfoldable pub finished : Machine → ℕ → Machine
finished m answer = record m { pc = following m; registers = slice_set m.registers 10 answer; fresh = true; reservation = None }

-- the machine behind the call at m, which does this and left this record
abbrev pub machine_after : Machine → Deed → CallRecord → Machine
machine_after m deed entry = finished (with_space m (space_after deed m.space entry.stored)) entry.answer

-- what is stored where there are bytes
abbrev pub stored_at : ℕ → List ℕ → List Stored
stored_at a [] = []
stored_at a (b ∷ bs) = record { at = a; bytes = b ∷ bs } ∷ []

-- bytes fill the ranges in order
abbrev pub filled : List Range → List ℕ → List Stored
filled [] bytes = []
filled (r ∷ rs) bytes = stored_at r.at (take r.size bytes) ++ filled rs (drop r.size bytes)

-- the world after n bytes of the input were taken
abbrev pub input_after : World → ℕ → World
input_after w n = record w { input = drop n w.input }

-- the next moment, 0 where none is left, and the world after it was taken
abbrev pub moment_of : World → ℕ
moment_of w = slice_index w.moments 0

abbrev pub moment_after : World → World
moment_after w = record w { moments = drop 1 w.moments }

-- a timespec (clock_gettime(2)): seconds and nanoseconds, of 64 bits each
abbrev pub time_bytes : ℕ → List ℕ
time_bytes moment = low_bytes 8 (moment / SECOND) ++ low_bytes 8 (moment % SECOND)

-- the call at m went on with this result, and stored this
abbrev pub record_of : Machine → ℕ → List Stored → CallRecord
record_of m answer stored = record { number = call_number m; answer = answer; stored = stored }

abbrev pub went : Machine → Deed → World → ℕ → List Stored → List Sent → Called
went m deed later answer stored sent = Went (machine_after m deed (record_of m answer stored)) later (record_of m answer stored) sent

-- one line for each deed
abbrev pub call_by : Deed → Machine → World → Called
call_by (Answers answer) m w = went m (Answers answer) w answer [] []
call_by (Takes into) m w =
    went m (Takes into) (input_after w (total_size into)) (length (take (total_size into) w.input)) (filled into (take (total_size into) w.input)) []
call_by (Sends port bytes answer) m w = went m (Sends port bytes answer) w answer [] (record { port = port; bytes = bytes } ∷ [])
call_by (Tells at) m w = went m (Tells at) (moment_after w) 0 (stored_at at (time_bytes (moment_of w))) []
call_by (Maps changed) m w = went m (Maps changed) w changed.answer [] []
call_by (Ends status) m w = Exits status

abbrev pub call_with : Option Deed → Machine → World → Called
call_with None m w = Unsupported (call_number m)
call_with (Some deed) m w = call_by deed m w

unfoldable pub call_of : Machine → World → Called
call_of m w = call_with (deed_of m) m w
