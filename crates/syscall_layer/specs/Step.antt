-- A call as a step of the serial run: where it leads, and what it does to what a host tells.
use Rattle.std.specs.Prelude.{◌≡◌, ◌≢◌, ℕ, ◌+◌, List, [], ◌∷◌, ◌++◌, true, Option, None, Some, Result, Ok, Err}
use Rattle.call_record.specs.Record.{CallRecord}
use Rattle.sp_host.specs.Faults.{Input, Source, To}
use Rattle.sp_host.specs.Told.{Told}
use Rattle.sp_host.specs.declared.host.Port.TheVariants.{Report}
use Rattle.guest_model.specs.Call.{Sent, World}
use Rattle.guest_model.specs.Calls.{Deed, deed_of}
use Rattle.guest_model.specs.Effect.{Call, effect_of}
use Rattle.guest_model.specs.Fits.{fits}
use Rattle.guest_model.specs.Machine.{Machine}
use Rattle.guest_model.specs.Play.{played}
use Rattle.call_playback.specs.Stores.{MarksStored}
use Rattle.guest_model.specs.Runs.{RunState, Running, Ended}
use Rattle.guest_model.specs.Serial.{Position, End, Exit, Unsupported, entry_at, step_of, sent_at}
use Rattle.rv_machine.specs.Guest.{GuestState}
use Rattle.syscall_layer.specs.Serve.{EndsWith, InputPart, PartWritten, TakesMemory, told_after}
use Rattle.syscall_layer.specs.declared.fault.CallFault.{CallFault}
use Rattle.syscall_layer.specs.declared.fault.CallFault.TheVariants as calls
use Rattle.syscall_layer.specs.declared.fault.RunFault.{RunFault}
use Rattle.syscall_layer.specs.declared.fault.RunFault.TheVariants as faults
use Rattle.syscall_layer.specs.declared.server.Served.{Served}
use Rattle.syscall_layer.specs.declared.server.Served.TheVariants as served

-- the fault of a run at the call at pc that was not served
abbrev pub fault_of : CallFault → ℕ → RunFault
fault_of (calls.Unsupported number) pc = faults.Unsupported number pc
fault_of calls.InputFault pc = faults.InputFault
fault_of (calls.OutputFault port) pc = faults.OutputFault port
fault_of calls.NoMemory pc = faults.NoMemory

-- the count that the cause of a run's fault raised; the other faults come where no count rose
abbrev pub run_source_of : RunFault → Option Source
run_source_of (faults.Unsupported number pc) = None
run_source_of (faults.BudgetSpent n) = None
run_source_of faults.InputFault = Some Input
run_source_of (faults.OutputFault port) = Some (To port)
run_source_of faults.NoMemory = None

-- a guest cannot write to the report
abbrev pub IsOfGuest : RunFault → Type 0
IsOfGuest (faults.OutputFault port) = port ≢ Report
IsOfGuest fault = Unit {0}

-- the run goes on with this machine, so many calls having gone on
abbrev pub IsAt : RunState Position End → Machine → ℕ → Type 0
IsAt (Running q) m calls = (q.machine ≡ m) × (q.calls ≡ calls)
IsAt (Ended q end) m calls = ⊥

abbrev pub world_of : RunState Position End → World
world_of (Running q) = q.world
world_of (Ended q end) = q.world

-- a call that does what takes memory, if it has a row
abbrev pub MayLackMemory : Option Deed → Type 0
MayLackMemory None = ⊥
MayLackMemory (Some deed) = TakesMemory deed

-- the step from p is a call that reads, and a beginning of what it asks for was taken
pub record StopsInput (t : Told) (p : Position) (before : List Sent) (new : Told) : Type 0 where
  pub call : effect_of p.machine ≡ Call
  pub part : InputPart (deed_of p.machine) t p.world before new

-- the step from p is a call that takes memory, and the outside was not asked
pub record LacksMemory (t : Told) (p : Position) (before : List Sent) (new : Told) : Type 0 where
  pub call : effect_of p.machine ≡ Call
  pub takes : MayLackMemory (deed_of p.machine)
  pub told_is : new ≡ told_after t p.world before

-- the step from p leads to this machine, so many calls having gone on, and the outside stands behind it
abbrev pub GoesOn : Told → Position → List Sent → Machine → ℕ → Told → Type 0
GoesOn t p before m calls new = IsAt (step_of p) m calls × (new ≡ told_after t (world_of (step_of p)) (before ++ sent_at p))

-- the step from p ends the run so, and the outside stands behind it
abbrev pub StopsRun : Told → Position → List Sent → End → Told → Type 0
StopsRun t p before end new = (step_of p ≡ Ended p end) × (new ≡ told_after t p.world (before ++ sent_at p))

-- the step from p is a call that was tried, after these bytes were sent: what that answers, the machine after it, and what is told then
abbrev pub CallGives : Told → Position → List Sent → Result Served RunFault → Machine → Told → Type 0
CallGives t p before (Ok (served.Went entry)) m new = GoesOn t p before m (p.calls + 1) new × (entry_at p ≡ entry ∷ [])
CallGives t p before (Ok (served.Exit status)) m new = StopsRun t p before (Exit status) new
CallGives t p before (Err (faults.Unsupported number pc)) m new = StopsRun t p before (Unsupported number pc) new
CallGives t p before (Err (faults.BudgetSpent n)) m new = ⊥
CallGives t p before (Err faults.InputFault) m new = StopsInput t p before new
CallGives t p before (Err (faults.OutputFault port)) m new = PartWritten t p.world before port (sent_at p) new
CallGives t p before (Err faults.NoMemory) m new = LacksMemory t p before new

-- the guest went on behind its call, as a play by this record does, which fits the call
pub record GoesByRecord (entry : CallRecord) (old new : GuestState) : Type 0 where
  pub fits : fits old.machine entry ≡ true
  pub next_is : new.machine ≡ played old.machine entry
  pub marks : MarksStored entry.stored old.frames new.frames
  -- the state that the memory came from stays
  pub origin : new.origin ≡ old.origin

-- the guest behind a call that was tried, whatever the host is: it went on, or stays
abbrev pub LeavesGuest : Option Deed → Result Served RunFault → GuestState → GuestState → Type 0
LeavesGuest None (Ok answer) old new = ⊥
LeavesGuest (Some deed) (Ok (served.Went entry)) old new = GoesByRecord entry old new
LeavesGuest (Some deed) (Ok (served.Exit status)) old new = EndsWith status deed × (new ≡ old)
LeavesGuest deed (Err fault) old new = new ≡ old
