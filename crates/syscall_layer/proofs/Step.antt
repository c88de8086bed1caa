-- A call as a step of the serial run.
use Rattle.std.proofs.Common.{◌≡◌, ◌≢◌, ℕ, ◌+◌, List, [], ◌∷◌, ◌++◌, map, refl, sym, ap, subst, ◌∙◌}
use Rattle.std.specs.Prelude.{Option, None, Some, Ok, Err}
use Rattle.std.proofs.lemmas.List.{append-nil}
use Rattle.sp_host.specs.Told.{Told}
use Rattle.sp_host.specs.Faults.{Caused, Faults}
use Rattle.sp_host.specs.declared.host.Port.{Port}
use Rattle.sp_host.specs.declared.host.Port.TheVariants.{Report}
use Rattle.guest_model.specs.Machine.{Machine}
use Rattle.guest_model.specs.Effect.{Effect, effect_of}
use Rattle.guest_model.specs.Call.{World, Sent, Called, Went, Exits, call_of, call_with}
use Rattle.guest_model.specs.Call as model
use Rattle.guest_model.specs.Calls.{Deed, Answers, Takes, Sends, Tells, Maps, Ends, deed_of}
use Rattle.guest_model.specs.Range.{Range}
use Rattle.guest_model.specs.Runs.{RunState, Running, Ended}
use Rattle.guest_model.specs.Serial.{Position, End, Exit, Unsupported, entry_at, entry_by, entry_by_call, step_of, sent_at, step_by, step_by_call, sent_by, sent_by_call}
use Rattle.call_record.specs.Record.{CallRecord}
use Rattle.call_playback.specs.Stores.{MarksStored}
use Rattle.guest_mem.specs.Frames.{Frames, marked_for_all}
use Rattle.guest_mem.proofs.Ranges.{marked_for_all-none}
use Rattle.rv_machine.specs.Guest.{GuestState}
use Rattle.syscall_layer.specs.Serve.{AnswersCall, FramesAfter, InputPart, IsRecordOf, LeavesPlayable, PartWritten, SendsTo, TellsCall, range_of, source_of, told_after}
use Rattle.syscall_layer.specs.Step.{CallGives, GoesOn, IsAt, IsOfGuest, LacksMemory, LeavesGuest, MayLackMemory, fault_of, run_source_of, world_of}
use Rattle.syscall_layer.specs.declared.fault.CallFault.{CallFault}
use Rattle.syscall_layer.specs.declared.fault.CallFault.TheVariants as calls
use Rattle.syscall_layer.specs.declared.fault.RunFault.TheVariants as faults
use Rattle.syscall_layer.specs.declared.server.Served.{Served}
use Rattle.syscall_layer.specs.declared.server.Served.TheVariants as served

-- a step from p: where it leads, what it sends, and the record that it leaves
pub record IsStep (p : Position) (state : RunState Position End) (sent : List Sent) (entries : List CallRecord) : Type 0 where
  pub leads : step_of p ≡ state
  pub sends : sent_at p ≡ sent
  pub records : entry_at p ≡ entries

pub step_with : (p : Position) (e : Effect) → effect_of p.machine ≡ e → IsStep p (step_by p e) (sent_by p e) (entry_by p e)
unfolding step_of sent_at entry_at
step_with p e h = record { leads = ap (step_by p) h; sends = ap (sent_by p) h; records = ap (entry_by p) h }

-- a call, by what it does
pub record StandsAt (p : Position) (m : Machine) : Type 0 where
  pub here : p.machine ≡ m
  pub call : effect_of m ≡ Effect.Call

with_called : (p : Position) (m : Machine) → StandsAt p m → IsStep p (step_by_call p (call_with (deed_of m) m p.world)) (sent_by_call (call_with (deed_of m) m p.world)) (entry_by_call (call_with (deed_of m) m p.world))
unfolding call_of
with_called p m at =
    let step = step_with p Effect.Call (ap effect_of at.here ∙ at.call) in
    let is = ap (λ (k : Machine). call_of k p.world) at.here in
    record { leads = step.leads ∙ ap (step_by_call p) is; sends = step.sends ∙ ap sent_by_call is; records = step.records ∙ ap entry_by_call is }

called_as : (p : Position) (m : Machine) (called : Called) → StandsAt p m → call_with (deed_of m) m p.world ≡ called → IsStep p (step_by_call p called) (sent_by_call called) (entry_by_call called)
called_as p m called at is =
    let step = with_called p m at in
    record { leads = step.leads ∙ ap (step_by_call p) is; sends = step.sends ∙ ap sent_by_call is; records = step.records ∙ ap entry_by_call is }

-- a step that goes on
pub goes : (t : Told) (p q : Position) (before sent : List Sent) (entries : List CallRecord) (new : Told) → IsStep p (Running q) sent entries → new ≡ told_after t q.world (before ++ sent) → GoesOn t p before q.machine q.calls new
goes t p q before sent entries new step told = (
  subst (λ (state : RunState Position End). IsAt state q.machine q.calls) (sym step.leads) (refl, refl),
  told ∙ (ap (λ (xs : List Sent). told_after t q.world (before ++ xs)) (sym step.sends) ∙ ap (λ (w : World). told_after t w (before ++ sent_at p)) (sym (ap world_of step.leads))),
)

-- a step that sends nothing
pub nothing_sent : (t : Told) (p : Position) (before : List Sent) (new : Told) → sent_at p ≡ [] → new ≡ told_after t p.world before → new ≡ told_after t p.world (before ++ sent_at p)
nothing_sent t p before new none told = told ∙ ap (told_after t p.world) (sym (ap (λ (xs : List Sent). before ++ xs) none ∙ append-nil before))

-- an instruction that completed
pub next_gives : (t : Told) (p : Position) (before : List Sent) (m next : Machine) (stored : List Range) (new : Told) → p.machine ≡ m → effect_of m ≡ Effect.Next next stored → new ≡ told_after t p.world before
    → GoesOn t p before next p.calls new
next_gives t p before m next stored new here e told =
    goes t p (record p { machine = next }) before [] [] new (step_with p (Effect.Next next stored) (ap effect_of here ∙ e)) (told ∙ ap (told_after t p.world) (sym (append-nil before)))

-- a call that went on
went_gives : (t : Told) (p : Position) (before : List Sent) (m : Machine) (now : GuestState) (new : Told) (entry : CallRecord) (deed : Option Deed) (called : Called) → StandsAt p m → call_with (deed_of m) m p.world ≡ called
    → TellsCall deed t p.world before called (Ok (served.Went entry)) now new → CallGives t p before (Ok (served.Went entry)) now.machine new
went_gives t p before m now new entry deed (Went next later given sent) at is tells =
    let step = called_as p m (Went next later given sent) at is in (
      subst (λ (k : Machine). GoesOn t p before k (p.calls + 1) new) (sym tells.0) (goes t p (record { machine = next; world = later; calls = p.calls + 1 }) before sent (given ∷ []) new step tells.2),
      step.records ∙ ap (λ (e : CallRecord). e ∷ []) (sym tells.1),
    )
went_gives t p before m now new entry deed (Exits status) at is tells = absurd tells
went_gives t p before m now new entry deed (model.Unsupported number) at is tells = absurd tells

-- one that ended the run
exit_gives : (t : Told) (p : Position) (before : List Sent) (m : Machine) (now : GuestState) (new : Told) (status : ℕ) (deed : Option Deed) (called : Called) → StandsAt p m → call_with (deed_of m) m p.world ≡ called
    → TellsCall deed t p.world before called (Ok (served.Exit status)) now new → CallGives t p before (Ok (served.Exit status)) now.machine new
exit_gives t p before m now new status deed (Went next later given sent) at is tells = absurd tells
exit_gives t p before m now new status deed (Exits given) at is tells =
    let step = called_as p m (Exits given) at is in
    (step.leads ∙ ap (λ (s : ℕ). Ended p (Exit s)) (sym tells.0), nothing_sent t p before new step.sends tells.1)
exit_gives t p before m now new status deed (model.Unsupported number) at is tells = absurd tells

unsupported_gives : (t : Told) (p : Position) (before : List Sent) (m : Machine) (now : GuestState) (after : Machine) (new : Told) (number pc : ℕ) (deed : Option Deed) (called : Called) → StandsAt p m → call_with (deed_of m) m p.world ≡ called
    → pc ≡ m.pc → TellsCall deed t p.world before called (Err (calls.Unsupported number)) now new → CallGives t p before (Err (faults.Unsupported number pc)) after new
unsupported_gives t p before m now after new number pc deed (Went next later given sent) at is at_pc tells = absurd tells
unsupported_gives t p before m now after new number pc deed (Exits given) at is at_pc tells = absurd tells
unsupported_gives t p before m now after new number pc deed (model.Unsupported given) at is at_pc tells =
    let step = called_as p m (model.Unsupported given) at is in
    let pc_is : p.machine.pc ≡ pc = ap (λ (k : Machine). k.pc) at.here ∙ sym at_pc in
    (step.leads ∙ (ap (λ (n : ℕ). Ended p (Unsupported n p.machine.pc)) (sym tells.0) ∙ ap (λ (a : ℕ). Ended p (Unsupported number a)) pc_is), nothing_sent t p before new step.sends tells.1)

input_gives : (t : Told) (p : Position) (before : List Sent) (m : Machine) (now : GuestState) (after : Machine) (new : Told) (called : Called) → StandsAt p m
    → TellsCall (deed_of m) t p.world before called (Err calls.InputFault) now new → CallGives t p before (Err faults.InputFault) after new
input_gives t p before m now after new called at tells = record {
  call = ap effect_of at.here ∙ at.call;
  part = subst (λ (k : Machine). InputPart (deed_of k) t p.world before new) (sym at.here) (input_part called tells);
}
  where
    input_part : (called : Called) → TellsCall (deed_of m) t p.world before called (Err calls.InputFault) now new → InputPart (deed_of m) t p.world before new
    input_part (Went next later given sent) h = h
    input_part (Exits status) h = h
    input_part (model.Unsupported number) h = h

output_gives : (t : Told) (p : Position) (before : List Sent) (m : Machine) (now : GuestState) (after : Machine) (new : Told) (port : Port) (deed : Option Deed) (called : Called) → StandsAt p m → call_with (deed_of m) m p.world ≡ called
    → TellsCall deed t p.world before called (Err (calls.OutputFault port)) now new → CallGives t p before (Err (faults.OutputFault port)) after new
output_gives t p before m now after new port deed (Went next later given sent) at is tells =
    let step = called_as p m (Went next later given sent) at is in
    subst (λ (xs : List Sent). PartWritten t p.world before port xs new) (sym step.sends) tells
output_gives t p before m now after new port deed (Exits given) at is tells = absurd tells
output_gives t p before m now after new port deed (model.Unsupported given) at is tells = absurd tells

no_memory_gives : (t : Told) (p : Position) (before : List Sent) (m : Machine) (now : GuestState) (new : Told) (called : Called) → StandsAt p m → MayLackMemory (deed_of m)
    → TellsCall (deed_of m) t p.world before called (Err calls.NoMemory) now new → LacksMemory t p before new
no_memory_gives t p before m now new called at takes tells = record {
  call = ap effect_of at.here ∙ at.call;
  takes = subst (λ (k : Machine). MayLackMemory (deed_of k)) (sym at.here) takes;
  told_is = told_is called tells;
}
  where
    told_is : (called : Called) → TellsCall (deed_of m) t p.world before called (Err calls.NoMemory) now new → new ≡ told_after t p.world before
    told_is (Went next later given sent) h = h
    told_is (Exits status) h = h
    told_is (model.Unsupported number) h = h

-- the guest stays where a call fails
fails_stays : (deed : Option Deed) (fault : CallFault) (old new : GuestState) → AnswersCall deed (Err fault) old new → new ≡ old
fails_stays None fault old new answer = answer.1
fails_stays (Some deed) (calls.Unsupported number) old new answer = absurd answer
fails_stays (Some deed) calls.InputFault old new answer = answer.1
fails_stays (Some deed) (calls.OutputFault port) old new answer = answer.1
fails_stays (Some deed) calls.NoMemory old new answer = answer.1

-- whatever the call does, the pages of what it stored are marked
marks_of : (deed : Deed) (entry : CallRecord) (m : Machine) (old new : Frames) → IsRecordOf deed m entry → FramesAfter deed entry.stored old new → MarksStored entry.stored old new
marks_of (Maps changed) entry m old new is after = record {
  written = after.0 ∙ sym (ap (λ (e : CallRecord). marked_for_all old.written (map range_of e.stored)) is ∙ marked_for_all-none old.written);
  count = after.1;
}
marks_of (Answers answer) entry m old new is after = record { written = after.written; count = after.count }
marks_of (Takes into) entry m old new is after = record { written = after.written; count = after.count }
marks_of (Sends port bytes answer) entry m old new is after = record { written = after.written; count = after.count }
marks_of (Tells at) entry m old new is after = record { written = after.written; count = after.count }
marks_of (Ends status) entry m old new is after = absurd is

-- the guest behind a call that was served
pub leaves_served : (deed : Option Deed) (answer : Served) (old new : GuestState) → AnswersCall deed (Ok answer) old new → LeavesPlayable {E = CallFault} (Ok answer) old.machine new.machine → LeavesGuest deed (Ok answer) old new
leaves_served None answer old new h plays = let no = h.0 in cc
leaves_served (Some deed) (served.Went entry) old new h plays = record {
  fits = plays.fits;
  next_is = plays.next_is;
  marks = marks_of deed entry old.machine old.frames new.frames h.record_is h.frames;
  origin = h.origin;
}
leaves_served (Some deed) (served.Exit status) old new h plays = h

pub leaves_fault : (deed : Option Deed) (fault : CallFault) (pc : ℕ) (old new : GuestState) → AnswersCall deed (Err fault) old new → LeavesGuest deed (Err (fault_of fault pc)) old new
leaves_fault None fault pc old new h = fails_stays None fault old new h
leaves_fault (Some deed) fault pc old new h = fails_stays (Some deed) fault old new h

-- what memory may be lacking for
may_lack : (deed : Option Deed) (old new : GuestState) → AnswersCall deed (Err calls.NoMemory) old new → MayLackMemory deed
may_lack None old new answer = let no = answer.0 in cc
may_lack (Some deed) old new answer = answer.0

-- the port of a fault is one of the guest's
guests_port : (port : Port) (deed : Deed) → SendsTo port deed → port ≢ Report
guests_port port (Sends number bytes answer) sends = sends.1
guests_port port (Answers answer) sends = absurd sends
guests_port port (Takes into) sends = absurd sends
guests_port port (Tells at) sends = absurd sends
guests_port port (Maps changed) sends = absurd sends
guests_port port (Ends status) sends = absurd sends

output_port : (port : Port) (deed : Option Deed) (old new : GuestState) → AnswersCall deed (Err (calls.OutputFault port)) old new → port ≢ Report
output_port port None old new answer = let no = answer.0 in cc
output_port port (Some deed) old new answer = guests_port port deed answer.0

-- a call that was served
pub served_gives : (t : Told) (p : Position) (before : List Sent) (m : Machine) (now : GuestState) (new : Told) (answer : Served) (called : Called) → StandsAt p m → call_with (deed_of m) m p.world ≡ called
    → TellsCall (deed_of m) t p.world before called (Ok answer) now new → CallGives t p before (Ok answer) now.machine new
served_gives t p before m now new (served.Went entry) called at is tells = went_gives t p before m now new entry (deed_of m) called at is tells
served_gives t p before m now new (served.Exit status) called at is tells = exit_gives t p before m now new status (deed_of m) called at is tells

-- a call that was not served
pub fails_gives : (t : Told) (p : Position) (before : List Sent) (m : Machine) (old now : GuestState) (after : Machine) (new : Told) (fault : CallFault) (pc : ℕ) (deed : Option Deed) (called : Called) → StandsAt p m
    → deed_of m ≡ deed → call_with (deed_of m) m p.world ≡ called → old.machine ≡ m → pc ≡ now.machine.pc → AnswersCall deed (Err fault) old now → TellsCall deed t p.world before called (Err fault) now new
    → CallGives t p before (Err (fault_of fault pc)) after new
fails_gives t p before m old now after new (calls.Unsupported number) pc deed called at deed_is is here at_pc answer tells =
    unsupported_gives t p before m now after new number pc deed called at is (at_pc ∙ (ap (λ (g : GuestState). g.machine.pc) (fails_stays deed (calls.Unsupported number) old now answer) ∙ ap (λ (k : Machine). k.pc) here)) tells
fails_gives t p before m old now after new calls.InputFault pc deed called at deed_is is here at_pc answer tells =
    input_gives t p before m now after new called at (subst (λ (d : Option Deed). TellsCall d t p.world before called (Err calls.InputFault) now new) (sym deed_is) tells)
fails_gives t p before m old now after new (calls.OutputFault port) pc deed called at deed_is is here at_pc answer tells =
    output_gives t p before m now after new port deed called at is tells
fails_gives t p before m old now after new calls.NoMemory pc deed called at deed_is is here at_pc answer tells =
    (no_memory_gives t p before m now new called at (subst MayLackMemory (sym deed_is) (may_lack deed old now answer)) (subst (λ (d : Option Deed). TellsCall d t p.world before called (Err calls.NoMemory) now new) (sym deed_is) tells))

pub fails_caused : (fault : CallFault) (pc : ℕ) (before now : Faults) → Caused (source_of fault) before now → Caused (run_source_of (fault_of fault pc)) before now
fails_caused (calls.Unsupported number) pc before now caused = caused
fails_caused calls.InputFault pc before now caused = caused
fails_caused (calls.OutputFault port) pc before now caused = caused
fails_caused calls.NoMemory pc before now caused = caused

pub fails_of_guest : (fault : CallFault) (pc : ℕ) (deed : Option Deed) (old now : GuestState) → AnswersCall deed (Err fault) old now → IsOfGuest (fault_of fault pc)
fails_of_guest (calls.Unsupported number) pc deed old now answer = tt
fails_of_guest calls.InputFault pc deed old now answer = tt
fails_of_guest (calls.OutputFault port) pc deed old now answer = output_port port deed old now answer
fails_of_guest calls.NoMemory pc deed old now answer = tt
