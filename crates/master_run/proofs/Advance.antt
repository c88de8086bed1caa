-- A part of a run: the play of its records, and the run where it is told.
use Rattle.std.proofs.Common.{◌≡◌, ◌⊎◌, inl, inr, ℕ, ◌+◌, ◌-◌, ◌^◌, ◌<◌, ◌≤◌, Bool, true, List, [], ◌∷◌, ◌++◌, length, sym, ap, subst, ◌∙◌, arith, append_assoc, length-append}
use Rattle.std.specs.Prelude.{Option, None, Some, Ok}
use Rattle.std.proofs.lemmas.Bool.{cases_lt}
use Rattle.call_record.specs.Record.{CallRecord}
use Rattle.cow_pages.specs.Marks.{unmarked}
use Rattle.guest_model.specs.Effect.{Call, effect_of, stored_by}
use Rattle.guest_model.specs.Machine.{Machine}
use Rattle.guest_model.specs.Play.{Halt, Script, Spot, entry_for, play_of, play_step, spot, written_at, written_of}
use Rattle.guest_model.specs.Runs.{RunState, Running}
use Rattle.guest_model.proofs.Follows.{slice_get_next}
use Rattle.guest_model.proofs.Runs.{after-next, along-next}
use Rattle.guest_mem.specs.Frames.{marked_for_all}
use Rattle.guest_mem.proofs.Ranges.{marked_for_all-append}
use Rattle.rv_machine.specs.Guest.{GuestState}
use Rattle.rv_machine.specs.Ran.{machine_after, stored_along}
use Rattle.syscall_layer.specs.Step.{GoesByRecord, LeavesGuest}
use Rattle.syscall_layer.specs.declared.server.Served.TheVariants as served
use Rattle.guest_model.specs.Calls.{Deed}
use Rattle.boundary_verify.specs.Job.{FitsAt}
use Rattle.slice_runner.specs.Turn.{IsTurn}
use Rattle.slice_runner.proofs.Turns.{call_turn}
use Rattle.master_run.specs.Progress.{PlaysFrom, PlaysTo, script_with}
use Rattle.master_run.specs.declared.progress.Progress.{Progress}
use Rattle.master_run.proofs.Stretch.{Carries, carries, fits_along, play_goes, play_writes, with_machine}

-- one step more of a play
pub plays_step : (script : Script) (start : Spot) (k : ℕ) (old new : GuestState) (calls later : ℕ) → PlaysTo script start k old calls → IsTurn script old calls true new later
    → FitsAt script (Running (spot old.machine calls)) → PlaysTo script start (k + 1) new later
plays_step script start k old new calls later before turn fit = record {
  there = after-next (play_step script) k (Running start) (spot old.machine calls) before.there ∙ turn.plays;
  fits = λ j lt. by j (cases_lt j k) lt;
  written = turn.marks.written
      ∙ ap (λ (marks : List Bool). marked_for_all marks (written_at script (spot old.machine calls))) before.written
      ∙ sym (marked_for_all-append (unmarked (2 ^ 20)) (written_of script k start) (written_at script (spot old.machine calls)))
      ∙ ap (marked_for_all (unmarked (2 ^ 20))) (sym (along-next (play_step script) (written_at script) k (Running start) (spot old.machine calls) before.there));
}
  where
    by : (j : ℕ) → (j < k) ⊎ (k ≤ j) → j < k + 1 → FitsAt script (play_of script j start)
    by j (inl lt) below = before.fits j lt
    by j (inr le) below =
        let same : j ≡ k = omega (arith, le, below) in
        subst (λ (x : RunState Spot Halt). FitsAt script x) (sym (ap (λ (i : ℕ). play_of script i start) same ∙ before.there)) fit

-- the record of the call stands behind those of the calls before it
record_there : (first calls : ℕ) (log more : List CallRecord) (entry : CallRecord) → calls ≡ first + length log → entry_for (script_with first ((log ++ entry ∷ []) ++ more)) calls ≡ Some entry
record_there first calls log more entry count =
    let place : calls - first ≡ length log = omega arith in
    rw (place, append_assoc log (entry ∷ []) more) (slice_get_next log entry more)

-- behind a call
pub plays_call : (start : Spot) (k : ℕ) (old new : Progress) (entry : CallRecord) → PlaysFrom start k old → effect_of old.guest.machine ≡ Call → GoesByRecord entry old.guest new.guest
    → new.calls ≡ old.calls + 1 → new.log ≡ old.log ++ entry ∷ [] → PlaysFrom start (k + 1) new
plays_call start k old new entry before call goes counted logged = record {
  plays = λ more.
      let script = script_with start.calls ((old.log ++ entry ∷ []) ++ more) in
      let there = record_there start.calls old.calls old.log more entry before.count in
      let same : old.log ++ entry ∷ more ≡ (old.log ++ entry ∷ []) ++ more = sym (append_assoc old.log (entry ∷ []) more) in
      let here : PlaysTo script start k old.guest old.calls = subst (λ (es : List CallRecord). PlaysTo (script_with start.calls es) start k old.guest old.calls) same (before.plays (entry ∷ more)) in
      let turn = call_turn script old.guest new.guest old.calls entry call there goes.next_is goes.marks goes.origin in
      let fit : FitsAt script (Running (spot old.guest.machine old.calls)) = fits_by script old.guest.machine old.calls entry there goes.fits in
      let one : PlaysTo script start (k + 1) new.guest (old.calls + 1) = plays_step script start k old.guest new.guest old.calls (old.calls + 1) here turn fit in
      let counts : PlaysTo script start (k + 1) new.guest new.calls = subst (λ (n : ℕ). PlaysTo script start (k + 1) new.guest n) (sym counted) one in
      subst (λ (es : List CallRecord). PlaysTo (script_with start.calls (es ++ more)) start (k + 1) new.guest new.calls) (sym logged) counts;
  count = (let size : length (old.log ++ entry ∷ []) ≡ length old.log + 1 = simp length-append in omega (arith, counted, before.count, size, ap length logged));
}
  where
    fits_by : (script : Script) (m : Machine) (calls : ℕ) (e : CallRecord) → entry_for script calls ≡ Some e → Rattle.guest_model.specs.Fits.fits m e ≡ true → FitsAt script (Running (spot m calls))
    fits_by script m calls e there fit other is found = subst (λ (x : CallRecord). Rattle.guest_model.specs.Fits.fits m x ≡ true) (some_same (sym there ∙ found)) fit
      where
        some_same : {x y : CallRecord} → Some x ≡ Some y → x ≡ y
        some_same h = cc

-- behind instructions
plays_along : (script : Script) (start : Spot) (k n : ℕ) (old new : GuestState) (calls : ℕ) → PlaysTo script start k old calls → machine_after n old.machine ≡ Running new.machine
    → new.frames.written ≡ marked_for_all old.frames.written (stored_along n old.machine) → PlaysTo script start (k + n) new calls
plays_along script start k n old new calls before leads marks =
    let c : Carries (play_step script) with_machine (written_at script) (λ h. stored_by (effect_of h)) (play_goes script) (play_writes script) (Running start) k n (spot old.machine calls) old.machine new.machine =
    carries (play_step script) with_machine (written_at script) (λ h. stored_by (effect_of h)) (play_goes script) (play_writes script) (Running start) k n (spot old.machine calls) old.machine new.machine before.there leads in
    record {
      there = c.there;
      fits = λ j lt. by j (cases_lt j k) lt;
      written = marks
          ∙ ap (λ (m : List Bool). marked_for_all m (stored_along n old.machine)) before.written
          ∙ sym (marked_for_all-append (unmarked (2 ^ 20)) (written_of script k start) (stored_along n old.machine))
          ∙ ap (marked_for_all (unmarked (2 ^ 20))) (sym c.said);
    }
  where
    by : (j : ℕ) → (j < k) ⊎ (k ≤ j) → j < k + n → FitsAt script (play_of script j start)
    by j (inl lt) below = before.fits j lt
    by j (inr le) below = fits_along script start k n calls old.machine new.machine before.there leads j le below

pub plays_run : (start : Spot) (k n : ℕ) (old new : Progress) → PlaysFrom start k old → machine_after n old.guest.machine ≡ Running new.guest.machine
    → new.guest.frames.written ≡ marked_for_all old.guest.frames.written (stored_along n old.guest.machine) → new.calls ≡ old.calls → new.log ≡ old.log → PlaysFrom start (k + n) new
plays_run start k n old new before leads marks counted logged = record {
  plays = λ more.
      let one : PlaysTo (script_with start.calls (old.log ++ more)) start (k + n) new.guest old.calls = plays_along (script_with start.calls (old.log ++ more)) start k n old.guest new.guest old.calls (before.plays more) leads marks in
      let counts : PlaysTo (script_with start.calls (old.log ++ more)) start (k + n) new.guest new.calls = subst (λ (c : ℕ). PlaysTo (script_with start.calls (old.log ++ more)) start (k + n) new.guest c) (sym counted) one in
      subst (λ (es : List CallRecord). PlaysTo (script_with start.calls (es ++ more)) start (k + n) new.guest new.calls) (sym logged) counts;
  count = counted ∙ before.count ∙ ap (λ (es : List CallRecord). start.calls + length es) (sym logged);
}

-- what a call that went on leaves
pub goes_by : (deed : Option Deed) (entry : CallRecord) (old new : GuestState) → LeavesGuest deed (Ok (served.Went entry)) old new → GoesByRecord entry old new
goes_by None entry old new leaves = absurd leaves
goes_by (Some deed) entry old new leaves = leaves
