-- Calls that were served, by what they do.
use Rattle.std.proofs.Common.{◌≡◌, ◌≢◌, ℕ, true, List, [], ◌∷◌, ◌++◌, length, map, refl, sym, ap, subst, ◌∙◌}
use Rattle.std.specs.Prelude.{Result, Ok, Err, Some, None, slice_index}
use Rattle.std.proofs.lemmas.Bool.{true≢false}
use Rattle.std.proofs.lemmas.List.{append-nil}
use Rattle.call_record.specs.Record.{CallRecord, Stored}
use Rattle.sp_host.specs.Faults.{Faults, Caused, Faulted, To}
use Rattle.sp_host.specs.Told.{Told, PartSent, WhereTold, input_taken, moment_taken, sent}
use Rattle.sp_host.specs.declared.host.Port.{Port}
use Rattle.sp_host.specs.declared.host.Port.TheVariants.{Report}
use Rattle.guest_model.specs.Call as model
use Rattle.guest_model.specs.Call.{World, Sent, Called, Went, Exits, call_by, filled, finished, input_after, machine_after, record_of, store_all, stored_at, time_bytes, moment_of, moment_after, with_space}
use Rattle.guest_model.specs.Calls.{Deed, Answers, Takes, Sends, Tells, Maps, Ends, call_number, is_output}
use Rattle.guest_model.specs.Errors.{failure}
use Rattle.guest_model.specs.Maps.{Changed}
use Rattle.guest_model.specs.Range.{Range, range, total_size}
use Rattle.guest_model.specs.Space.{with_bytes}
use Rattle.guest_model.specs.declared.platform.TheConstants.{TIMESPEC_SIZE}
use Rattle.guest_mem.specs.Frames.{TakesFrames}
use Rattle.guest_mem.proofs.Ranges.{takes_none}
use Rattle.rv_machine.specs.Guest.{GuestState}
use Rattle.syscall_layer.specs.Input.{FaultTakes, FillsRanges}
use Rattle.syscall_layer.specs.Maps.{ChangesAreas}
use Rattle.syscall_layer.specs.Serve.{IsServed, TakesMemory, TellsCall, port_number, range_of, source_of, told_after}
use Rattle.syscall_layer.specs.declared.server.Served.{Served}
use Rattle.syscall_layer.specs.declared.server.Served.TheVariants as served
use Rattle.syscall_layer.specs.declared.fault.CallFault.{CallFault}
use Rattle.syscall_layer.specs.declared.fault.CallFault.TheVariants as faults
use Rattle.syscall_layer.proofs.Sending.{told_sent}

-- nothing was sent
nothing_sent : (t now : Told) (w : World) (before : List Sent) → now ≡ told_after t w before → now ≡ told_after t w (before ++ [])
nothing_sent t now w before is = is ∙ ap (told_after t w) (sym (append-nil before))

-- a call that only answers
pub answered : (deed : Deed) (answer : ℕ) (t : Told) (f : Faults) (old new : GuestState) (s : Served) → deed ≡ Answers answer → s ≡ served.Went (record_of old.machine answer [])
    → new.machine ≡ finished old.machine answer → new.frames ≡ old.frames → new.origin ≡ old.origin → IsServed (Some deed) t t f f (Ok s) old new
answered deed answer t f old new s does is next same came =
    subst (λ (d : Deed). IsServed (Some d) t t f f (Ok s) old new) (sym does)
    (subst (λ (k : Served). IsServed (Some (Answers answer)) t t f f (Ok k) old new) (sym is)
    (record {
      answer = record { record_is = refl; machine_is = next; frames = takes_none old.frames new.frames same; origin = came };
      told = λ at w before here. (next, refl, nothing_sent at t w before here);
      faults = refl;
    }))

-- one that fails a test
pub failed : (deed : Deed) (number answer : ℕ) (t : Told) (f : Faults) (old new : GuestState) (s : Served) → deed ≡ Answers (failure number) → answer ≡ failure number → s ≡ served.Went (record_of old.machine answer [])
    → new.machine ≡ finished old.machine answer → new.frames ≡ old.frames → new.origin ≡ old.origin → IsServed (Some deed) t t f f (Ok s) old new
failed deed number answer t f old new s does is = answered deed answer t f old new s (does ∙ ap (λ (n : ℕ). Answers n) (sym is))

-- one that finds no memory
pub no_memory : (deed : Deed) (t now : Told) (f g : Faults) (old : GuestState) → TakesMemory deed → now ≡ t → g ≡ f → IsServed (Some deed) t now f g (Err faults.NoMemory) old old
no_memory deed t now f g old takes same still = record { answer = (takes, refl); told = λ at w before here. not_asked at w before now old (call_by deed old.machine w) (same ∙ here); faults = still }
  where
    not_asked : (at : Told) (w : World) (before : List Sent) (k : Told) (new : GuestState) (called : Called) → k ≡ told_after at w before → TellsCall (Some deed) at w before called (Err faults.NoMemory) new k
    not_asked at w before k new (Went next later entry sent) h = h
    not_asked at w before k new (Exits status) h = h
    not_asked at w before k new (model.Unsupported number) h = h

-- the same call by another name
pub served_as : (deed given : Deed) (t now : Told) (f g : Faults) (r : Result Served CallFault) (old new : GuestState) → given ≡ deed → IsServed (Some deed) t now f g r old new → IsServed (Some given) t now f g r old new
served_as deed given t now f g r old new is done = subst (λ (d : Deed). IsServed (Some d) t now f g r old new) (sym is) done

-- a call that changes the areas
pub changed_areas : (changed : Changed) (t : Told) (f : Faults) (old new : GuestState) (s : Served) → ChangesAreas changed old new s → IsServed (Some (Maps changed)) t t f f (Ok s) old new
changed_areas changed t f old new s changes =
    subst (λ (k : Served). IsServed (Some (Maps changed)) t t f f (Ok k) old new) (sym changes.record_is)
    (record {
      answer = record { record_is = refl; machine_is = changes.machine_is; frames = (changes.written, changes.count); origin = changes.origin };
      told = λ at w before here. (changes.machine_is, refl, nothing_sent at t w before here);
      faults = refl;
    })

-- a call that ends the run
pub ended : (status : ℕ) (t : Told) (f : Faults) (g : GuestState) → IsServed (Some (Ends status)) t t f f (Ok (served.Exit status)) g g
ended status t f g = record { answer = (refl, refl); told = λ at w before here. (refl, here); faults = refl }

-- a call of no row
pub unsupported : (number : ℕ) (t : Told) (f : Faults) (g : GuestState) → number ≡ call_number g.machine → IsServed None t t f f (Err (faults.Unsupported number)) g g
unsupported number t f g is = record { answer = (ap (λ (n : ℕ). Err (faults.Unsupported n)) is, refl); told = λ at w before here. (is, here); faults = refl }

-- a call that sends, and what it sends went out
pub sent_all : (deed : Deed) (port : Port) (number answer : ℕ) (bytes : List ℕ) (t now : Told) (f g : Faults) (old new : GuestState) (s : Served) → deed ≡ Sends number bytes answer → port_number port ≡ number → port ≢ Report
    → s ≡ served.Went (record_of old.machine answer []) → new.machine ≡ finished old.machine answer → new.frames ≡ old.frames → new.origin ≡ old.origin → now ≡ sent port bytes t → g ≡ f → IsServed (Some deed) t now f g (Ok s) old new
sent_all deed port number answer bytes t now f g old new s does names guests is next same came told still =
    subst (λ (d : Deed). IsServed (Some d) t now f g (Ok s) old new) (sym does)
    (subst (λ (k : Served). IsServed (Some (Sends number bytes answer)) t now f g (Ok k) old new) (sym is)
    (record {
      answer = record { record_is = refl; machine_is = next; frames = takes_none old.frames new.frames same; origin = came };
      told = λ at w before here. (next, refl, told ∙ ap (sent port bytes) here ∙ told_sent port number bytes at w before names guests);
      faults = still;
    }))

-- and only a part of it did
pub sent_part : (deed : Deed) (port : Port) (number answer : ℕ) (bytes : List ℕ) (t now : Told) (f g : Faults) (old : GuestState) → deed ≡ Sends number bytes answer → port_number port ≡ number → port ≢ Report
    → PartSent port bytes t now → Faulted (To port) f g → IsServed (Some deed) t now f g (Err (faults.OutputFault port)) old old
sent_part deed port number answer bytes t now f g old does names guests part faulted =
    subst (λ (d : Deed). IsServed (Some d) t now f g (Err (faults.OutputFault port)) old old) (sym does)
    (record {
      answer = ((sym names, guests), refl);
      told = λ at w before here. record {
        bytes = bytes;
        sends = ap (λ (n : ℕ). record { port = n; bytes = bytes } ∷ []) (sym names);
        part = subst (λ (k : Told). PartSent port bytes k now) here part;
      };
      faults = faulted;
    })

-- a call that takes from the input
pub taken : (into : List Range) (count : ℕ) (writes : List Stored) (t now : Told) (f g : Faults) (old new : GuestState) (s : Served) → FillsRanges into t count writes → now ≡ input_taken (total_size into) t → g ≡ f
    → s ≡ served.Went (record_of old.machine count writes)
    → new.machine ≡ finished (with_space old.machine (with_bytes old.machine.space (store_all old.machine.space.bytes writes))) count
    → TakesFrames old.frames new.frames (map range_of writes) → new.origin ≡ old.origin → IsServed (Some (Takes into)) t now f g (Ok s) old new
taken into count writes t now f g old new s fills told same is next frames came =
    let known : record_of old.machine count writes ≡ record_of old.machine (length fills.bytes) (filled into fills.bytes) =
    ap (λ (k : ℕ). record_of old.machine k writes) fills.counted ∙ ap (record_of old.machine (length fills.bytes)) fills.fills in
    subst (λ (k : Served). IsServed (Some (Takes into)) t now f g (Ok k) old new) (sym is)
    (record {
      answer = record { record_is = (fills.bytes, fills.few, known); machine_is = next; frames = frames; origin = came };
      told = λ at w before here.
          let first = fills.taken w.input (ap (λ (k : Told). k.input) here) in
          let entry = known ∙ ap (λ (bs : List ℕ). record_of old.machine (length bs) (filled into bs)) first in (
            next ∙ ap (λ (e : CallRecord). machine_after old.machine (Takes into) e) entry,
            entry,
            nothing_sent at now (input_after w (total_size into)) before (told ∙ ap (input_taken (total_size into)) here),
          );
      faults = same;
    })

-- one that stops after a part, or finds no memory
pub taken_in_part : (into : List Range) (e : CallFault) (t now : Told) (f g : Faults) (old : GuestState) → FaultTakes e (total_size into) t now → Caused (source_of e) f g → IsServed (Some (Takes into)) t now f g (Err e) old old
taken_in_part into (faults.Unsupported number) t now f g old cut caused = absurd cut
taken_in_part into (faults.OutputFault port) t now f g old cut caused = absurd cut
taken_in_part into faults.NoMemory t now f g old same still = no_memory (Takes into) t now f g old tt same still
taken_in_part into faults.InputFault t now f g old part faulted = record {
  answer = (tt, refl);
  told = λ at w before here. record { count = part.count; few = part.few; told_is = part.takes ∙ ap (input_taken part.count) here };
  faults = faulted;
}

-- the time, as what fills a buffer of its size
pub time_fills : (at moment : ℕ) → stored_at at (time_bytes moment) ≡ filled (range at TIMESPEC_SIZE ∷ []) (time_bytes moment)
time_fills at moment = refl

-- a call that tells the time
pub told_time : (deed : Deed) (at moment : ℕ) (writes : List Stored) (t now : Told) (f g : Faults) (old new : GuestState) (s : Served) → deed ≡ Tells at → writes ≡ stored_at at (time_bytes moment)
    → WhereTold t.moments (λ left. moment ≡ slice_index left 0) → now ≡ moment_taken t → g ≡ f → s ≡ served.Went (record_of old.machine 0 writes)
    → new.machine ≡ finished (with_space old.machine (with_bytes old.machine.space (store_all old.machine.space.bytes writes))) 0
    → TakesFrames old.frames new.frames (map range_of writes) → new.origin ≡ old.origin → IsServed (Some deed) t now f g (Ok s) old new
told_time deed at moment writes t now f g old new s does writes_are first told still is next frames came =
    let known : record_of old.machine 0 writes ≡ record_of old.machine 0 (stored_at at (time_bytes moment)) = ap (record_of old.machine 0) writes_are in
    subst (λ (d : Deed). IsServed (Some d) t now f g (Ok s) old new) (sym does)
    (subst (λ (k : Served). IsServed (Some (Tells at)) t now f g (Ok k) old new) (sym is)
    (record {
      answer = record { record_is = (moment, known); machine_is = next; frames = frames; origin = came };
      told = λ from w before here.
          let same : moment ≡ moment_of w = first w.moments (ap (λ (k : Told). k.moments) here) in
          let entry = known ∙ ap (λ (n : ℕ). record_of old.machine 0 (stored_at at (time_bytes n))) same in (
            next ∙ ap (λ (e : CallRecord). machine_after old.machine (Tells at) e) entry,
            entry,
            nothing_sent from now (moment_after w) before (told ∙ ap moment_taken here),
          );
      faults = still;
    }))

-- the port of an output is not that of reports
pub output_port : (port : Port) (descriptor : ℕ) → port_number port ≡ descriptor → is_output descriptor ≡ true → port ≢ Report
output_port port descriptor names output is =
    let none : descriptor ≡ 0 = sym names ∙ ap port_number is in
    true≢false (sym output ∙ ap is_output none)
