-- What serving a call answers, and what it does to the guest and to what a host tells.
use Rattle.std.specs.Prelude.{◌≡◌, ◌≢◌, ℕ, ◌<◌, ◌≤◌, List, [], ◌∷◌, ◌++◌, true, length, Option, None, Some, Result, Ok, Err}
use Rattle.call_record.specs.Record.{CallRecord}
use Rattle.sp_host.specs.Told.{Told, appended, PartSent}
use Rattle.sp_host.specs.Faults.{Faults, Source, Input, To, CausedIn}
use Rattle.sp_host.specs.declared.host.Port.{Port}
use Rattle.sp_host.specs.declared.host.Port.TheVariants.{Out, Err as StandardError, Report}
use Rattle.guest_model.specs.Call.{World, Sent, Called, Went, Exits, call_with, filled, input_after, machine_after, record_of, stored_at, time_bytes}
use Rattle.guest_model.specs.Call as calls
use Rattle.guest_model.specs.Calls.{Deed, Answers, Takes, Sends, Tells, Maps, Ends, call_number}
use Rattle.guest_model.specs.Fits.{fits}
use Rattle.guest_model.specs.Machine.{Machine}
use Rattle.guest_model.specs.Play.{played}
use Rattle.guest_model.specs.Range.{total_size}
use Rattle.guest_model.specs.Serial.{bytes_to}
pub use Rattle.call_playback.specs.Stores.{FramesAfter, range_of}
use Rattle.rv_machine.specs.Guest.{GuestState}
use Rattle.syscall_layer.specs.declared.fault.CallFault.{CallFault}
use Rattle.syscall_layer.specs.declared.fault.CallFault.TheVariants as faults
use Rattle.syscall_layer.specs.declared.server.Served.{Served}
use Rattle.syscall_layer.specs.declared.server.Served.TheVariants as served

-- what is told when a run that began at t left this world and sent these bytes
abbrev pub told_after : Told → World → List Sent → Told
told_after t w sent = record t { input = Some w.input; moments = Some w.moments; out = appended t.out (bytes_to 1 sent); err = appended t.err (bytes_to 2 sent) }

-- the number of a port that a guest can write to; the report is none
abbrev pub port_number : Port → ℕ
port_number Out = 1
port_number StandardError = 2
port_number Report = 0

-- the count that a fault raised
abbrev pub source_of : CallFault → Option Source
source_of (faults.Unsupported number) = None
source_of faults.InputFault = Some Input
source_of (faults.OutputFault port) = Some (To port)
source_of faults.NoMemory = None

-- what is known of the record of a call that does this, whatever the host is
abbrev pub IsRecordOf : Deed → Machine → CallRecord → Type 0
IsRecordOf (Answers answer) m entry = entry ≡ record_of m answer []
IsRecordOf (Takes into) m entry = (bytes : List ℕ) × (length bytes ≤ total_size into) × (entry ≡ record_of m (length bytes) (filled into bytes))
IsRecordOf (Sends port bytes answer) m entry = entry ≡ record_of m answer []
IsRecordOf (Tells at) m entry = (moment : ℕ) × (entry ≡ record_of m 0 (stored_at at (time_bytes moment)))
IsRecordOf (Maps changed) m entry = entry ≡ record_of m changed.answer []
IsRecordOf (Ends status) m entry = ⊥

-- The guest went on behind a call that does this and left this record.
pub record GoesOn (deed : Deed) (entry : CallRecord) (old new : GuestState) : Type 0 where
  pub record_is : IsRecordOf deed old.machine entry
  pub machine_is : new.machine ≡ machine_after old.machine deed entry
  pub frames : FramesAfter deed entry.stored old.frames new.frames
  -- the state that the memory came from stays
  pub origin : new.origin ≡ old.origin

-- a call that takes memory
abbrev pub TakesMemory : Deed → Type 0
TakesMemory (Takes into) = Unit {0}
TakesMemory (Tells at) = Unit {0}
TakesMemory deed = ⊥

abbrev pub TakesInput : Deed → Type 0
TakesInput (Takes into) = Unit {0}
TakesInput deed = ⊥

abbrev pub SendsTo : Port → Deed → Type 0
SendsTo port (Sends number bytes answer) = (number ≡ port_number port) × (port ≢ Report)
SendsTo port deed = ⊥

abbrev pub EndsWith : ℕ → Deed → Type 0
EndsWith given (Ends status) = given ≡ status
EndsWith given deed = ⊥

-- What the answer to a call says of it and of the guest, for every host: the cause of each fault, too. After a fault the
-- guest is as before.
abbrev pub AnswersDeed : Deed → Result Served CallFault → GuestState → GuestState → Type 0
AnswersDeed deed (Ok (served.Went entry)) old new = GoesOn deed entry old new
AnswersDeed deed (Ok (served.Exit status)) old new = EndsWith status deed × (new ≡ old)
AnswersDeed deed (Err (faults.Unsupported number)) old new = ⊥
AnswersDeed deed (Err faults.InputFault) old new = TakesInput deed × (new ≡ old)
AnswersDeed deed (Err (faults.OutputFault port)) old new = SendsTo port deed × (new ≡ old)
AnswersDeed deed (Err faults.NoMemory) old new = TakesMemory deed × (new ≡ old)

abbrev pub AnswersCall : Option Deed → Result Served CallFault → GuestState → GuestState → Type 0
AnswersCall None result old new = (result ≡ Err (faults.Unsupported (call_number old.machine))) × (new ≡ old)
AnswersCall (Some deed) result old new = AnswersDeed deed result old new

-- The record fits the machine that stands at its call, and a play by it leaves this machine.
pub record FitsAndPlays (m next : Machine) (entry : CallRecord) : Type 0 where
  pub fits : fits m entry ≡ true
  pub next_is : next ≡ played m entry

-- what holds of the record of a call that went on, for every host
abbrev pub LeavesPlayable : {E : Type 0} → Result Served E → Machine → Machine → Type 0
LeavesPlayable (Ok (served.Went entry)) m next = FitsAndPlays m next entry
LeavesPlayable (Ok (served.Exit status)) m next = Unit {0}
LeavesPlayable (Err fault) m next = Unit {0}

-- A beginning of the input left was taken, shorter than the call asks for, and nothing else changed.
pub record PartTaken (t : Told) (w : World) (before : List Sent) (asked : ℕ) (new : Told) : Type 0 where
  pub count : ℕ
  pub few : count < asked
  pub told_is : new ≡ told_after t (input_after w count) before

-- the call does no more than take from the input, and a beginning of what it asks for was taken
abbrev pub InputPart : Option Deed → Told → World → List Sent → Told → Type 0
InputPart (Some (Takes into)) t w before new = PartTaken t w before (total_size into) new
InputPart deed t w before new = ⊥

-- The call sends bytes to this port, and a beginning of them was written, not all of them.
pub record PartWritten (t : Told) (w : World) (before : List Sent) (port : Port) (sent : List Sent) (new : Told) : Type 0 where
  pub bytes : List ℕ
  pub sends : sent ≡ record { port = port_number port; bytes = bytes } ∷ []
  pub part : PartSent port bytes (told_after t w before) new

-- What is told after a call, where the outside stood at t with this world after these bytes were sent: it changed by
-- exactly that call. After a fault it stands where the failed call left it; memory is taken before the outside is asked.
abbrev pub TellsCall : Option Deed → Told → World → List Sent → Called → Result Served CallFault → GuestState → Told → Type 0
TellsCall deed t w before (Went next later entry sent) (Ok (served.Went given)) new told = (new.machine ≡ next) × (given ≡ entry) × (told ≡ told_after t later (before ++ sent))
TellsCall deed t w before (Exits status) (Ok (served.Exit given)) new told = (given ≡ status) × (told ≡ told_after t w before)
TellsCall deed t w before (calls.Unsupported number) (Err (faults.Unsupported given)) new told = (given ≡ number) × (told ≡ told_after t w before)
TellsCall deed t w before called (Err faults.InputFault) new told = InputPart deed t w before told
TellsCall deed t w before (Went next later entry sent) (Err (faults.OutputFault port)) new told = PartWritten t w before port sent told
TellsCall deed t w before called (Err faults.NoMemory) new told = told ≡ told_after t w before
TellsCall deed t w before called answer new told = ⊥

-- what is told after a call that does this, where a run that began at some t is told
abbrev pub TellsDeed : Option Deed → Told → Result Served CallFault → GuestState → GuestState → Told → Type 0
TellsDeed deed old_told result old new new_told =
    (t : Told) (w : World) (before : List Sent) → old_told ≡ told_after t w before → TellsCall deed t w before (call_with deed old.machine w) result new new_told

-- A call that does this was served.
pub record IsServed (deed : Option Deed) (old_told new_told : Told) (old_faults new_faults : Faults) (result : Result Served CallFault) (old new : GuestState) : Type 0 where
  pub answer : AnswersCall deed result old new
  pub told : TellsDeed deed old_told result old new new_told
  pub faults : CausedIn source_of old_faults new_faults result
