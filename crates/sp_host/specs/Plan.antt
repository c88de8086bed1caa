-- The plan that a host in memory follows: which calls fail, and how many bytes a call moves.
use Rattle.std.specs.Prelude.{ℕ, ◌≤◌, List, Contains, IfSome, length, min}
use Rattle.sp_host.specs.declared.host.Port.{Port}
use Rattle.sp_host.specs.declared.host.Port.TheVariants.{Out, Err, Report}
use Rattle.sp_host.specs.Count.{one_more}
use Rattle.sp_host.specs.Told.{Told, written_to}
use Rattle.sp_host.specs.Faults.{Source, File, Input, To}

-- The calls of one kind: the numbers of those that are planned to fail, and how many were made.
pub record Calls : Type 0 where
  pub planned : List ℕ
  pub made : ℕ

pub record MemoryState : Type 0 where
  pub file : Calls
  pub input : Calls
  pub out : Calls
  pub err : Calls
  pub report : Calls
  -- the most bytes that a call moves
  pub most : ℕ
  -- the bytes that each port can hold
  pub room : ℕ

abbrev pub calls_of : Source → MemoryState → Calls
calls_of File m = m.file
calls_of Input m = m.input
calls_of (To Out) m = m.out
calls_of (To Err) m = m.err
calls_of (To Report) m = m.report

-- The number of the next call, from 1 on. It stands still at 2^64 - 1.
abbrev pub next_call : Calls → ℕ
next_call calls = one_more calls.made

-- the calls after one more
abbrev pub one_call_more : Calls → Calls
one_call_more calls = record calls { made = next_call calls }

-- after one more call of this kind
abbrev pub call_made : Source → MemoryState → MemoryState
call_made File m = record m { file = one_call_more m.file }
call_made Input m = record m { input = one_call_more m.input }
call_made (To Out) m = record m { out = one_call_more m.out }
call_made (To Err) m = record m { err = one_call_more m.err }
call_made (To Report) m = record m { report = one_call_more m.report }

-- The next call of this kind is planned to fail.
abbrev pub IsPlanned : Source → MemoryState → Type 0
IsPlanned source m = Contains (calls_of source m).planned (next_call (calls_of source m))

-- A port holds as many bytes as it can.
abbrev pub IsFull : Port → MemoryState → Told → Type 0
IsFull port m told = IfSome (written_to port told) (λ bytes. m.room ≤ length bytes)

-- how many bytes a call moves: as many as the plan, the buffer or piece, and what is left or free
-- allow
abbrev pub count_moved : ℕ → ℕ → ℕ → ℕ
count_moved most size available = min most (min size available)
