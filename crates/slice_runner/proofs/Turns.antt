-- One step of a play, as the guest and the tool make it.
use Rattle.std.proofs.Common.{◌≡◌, ℕ, ◌+◌, Bool, true, false, List, [], ◌++◌, map, refl, sym, ap, subst, ◌∙◌, arith}
use Rattle.std.specs.Prelude.{Option, None, Some, Result, Ok, Err, IfOk}
use Rattle.std.specs.declared.alloc.AllocError.{AllocError}
use Rattle.std.proofs.lemmas.List.{append-nil}
use Rattle.call_record.specs.Record.{CallRecord}
use Rattle.guest_model.specs.Effect.{Effect, Next, Call, Fault, effect_of, stored_by}
use Rattle.guest_model.specs.Machine.{Machine}
use Rattle.guest_model.specs.Play.{Halt, Faulted, Unrecorded, Script, Spot, entry_for, machine_of, play_by, play_by_entry, play_step, played, played_item, range_of, spot, written_at, written_by_entry, written_in_play}
use Rattle.guest_model.specs.Runs.{RunState, Running, Ended}
use Rattle.guest_mem.specs.Frames.{Frames, HasAllFrames, marked_for_all}
use Rattle.guest_mem.proofs.Ranges.{has_none, marked_for_all-none}
use Rattle.insert_points.specs.Plan.{PlanFields}
use Rattle.insert_points.specs.declared.call.Event.{Event}
use Rattle.rv_machine.specs.Guest.{GuestState}
use Rattle.rv_machine.specs.Step.{Gives, kind_number}
use Rattle.rv_machine.specs.declared.step.FaultKind.{FaultKind}
use Rattle.rv_machine.specs.declared.step.Stepped.TheVariants as answers
use Rattle.call_playback.specs.Stores.{MarksStored}
use Rattle.tool_step.specs.Steps.{TakesEvents, step_events, trace_events}
use Rattle.tool_step.proofs.Parts.{all_is}
use Rattle.tool_step.proofs.Taking.{takes_as, takes_join}
use Rattle.slice_runner.specs.Turn.{HaltsAt, IsTurn, MarksWritten, Plays, events_left}

-- the frames of a step suffice for its instruction
has_by : (f : Frames) (script : Script) (s : Spot) (effect : Effect) → HasAllFrames f (written_in_play script s effect) → HasAllFrames f (stored_by effect)
has_by f script s (Next next stored) has = has
has_by f script s Call has = has_none f
has_by f script s (Fault kind) has = has_none f

pub has_for_step : (f : Frames) (script : Script) (s : Spot) → HasAllFrames f (written_at script s) → HasAllFrames f (stored_by (effect_of s.machine))
unfolding written_at
has_for_step f script s has = has_by f script s (effect_of s.machine) has

-- what a step writes, and where it leads
written_by : (script : Script) (s : Spot) (effect : Effect) → effect_of s.machine ≡ effect → written_at script s ≡ written_in_play script s effect
unfolding written_at
written_by script s effect is = ap (written_in_play script s) is

leads_by : (script : Script) (s : Spot) (effect : Effect) → effect_of s.machine ≡ effect → play_step script s ≡ play_by script s effect
unfolding play_step
leads_by script s effect is = ap (play_by script s) is

-- nothing is marked where nothing was stored
marks_none : (script : Script) (s : Spot) (old new : Frames) → written_at script s ≡ [] → new ≡ old → MarksWritten script s old new
marks_none script s old new none same = record {
  written = ap (λ (f : Frames). f.written) same ∙ sym (ap (marked_for_all old.written) none ∙ marked_for_all-none old.written);
  count = ap (λ (f : Frames). f.count) same;
}

halts : (s : Spot) (x : RunState Spot Halt) (halt : Halt) → x ≡ Ended s halt → HaltsAt s x
halts s x halt is = subst (HaltsAt s) (sym is) refl

-- a step that completed
pub next_turn : (script : Script) (old new : GuestState) (calls : ℕ) → Gives (effect_of old.machine) answers.Next old new → IsTurn script old calls true new calls
next_turn script old new calls gives =
    let s = spot old.machine calls in
    let written : written_at script s ≡ stored_by (effect_of old.machine) = written_by script s _ gives.0 in
    record {
      plays = leads_by script s _ gives.0;
      marks = record {
        written = gives.1.0.written ∙ ap (marked_for_all old.frames.written) (sym written);
        count = gives.1.0.count;
      };
      origin = gives.1.1;
      not_less = omega arith;
      one_more = omega arith;
    }

-- a step that faulted
pub fault_turn : (script : Script) (old new : GuestState) (calls : ℕ) (kind : FaultKind) → Gives (effect_of old.machine) (answers.Fault kind) old new → IsTurn script old calls false new calls
fault_turn script old new calls kind gives =
    let s = spot old.machine calls in record {
      plays = (halts s (play_step script s) (Faulted (kind_number kind)) (leads_by script s _ gives.0), ap (λ (g : GuestState). spot g.machine calls) gives.1);
      marks = marks_none script s old.frames new.frames (written_by script s _ gives.0) (ap (λ (g : GuestState). g.frames) gives.1);
      origin = ap (λ (g : GuestState). g.origin) gives.1;
      not_less = omega arith;
      one_more = omega arith;
    }

-- a call for which no record is left
pub none_turn : (script : Script) (old : GuestState) (calls : ℕ) → effect_of old.machine ≡ Call → entry_for script calls ≡ None → IsTurn script old calls false old calls
none_turn script old calls is none =
    let s = spot old.machine calls in record {
      plays = (halts s (play_step script s) Unrecorded (leads_by script s Call is ∙ ap (play_by_entry s) none), refl);
      marks = marks_none script s old.frames old.frames (written_by script s Call is ∙ ap written_by_entry none) refl;
      origin = refl;
      not_less = omega arith;
      one_more = omega arith;
    }

-- a call that was played
pub call_turn : (script : Script) (old new : GuestState) (calls : ℕ) (entry : CallRecord) → effect_of old.machine ≡ Call → entry_for script calls ≡ Some entry → new.machine ≡ played old.machine entry
    → MarksStored entry.stored old.frames new.frames → new.origin ≡ old.origin → IsTurn script old calls true new (calls + 1)
call_turn script old new calls entry is found plays marks origin =
    let s = spot old.machine calls in
    let written : written_at script s ≡ map range_of entry.stored = written_by script s Call is ∙ ap written_by_entry found in
    record {
      plays = leads_by script s Call is ∙ ap (play_by_entry s) found ∙ ap (λ (m : Machine). Running (spot m (calls + 1))) (sym plays);
      marks = record {
        written = marks.written ∙ ap (marked_for_all old.frames.written) (sym written);
        count = marks.count;
      };
      origin = origin;
      not_less = omega arith;
      one_more = omega arith;
    }

pub has_for_call : (f : Frames) (script : Script) (s : Spot) (entry : CallRecord) → effect_of s.machine ≡ Call → entry_for script s.calls ≡ Some entry → HasAllFrames f (written_at script s)
    → HasAllFrames f (map range_of entry.stored)
has_for_call f script s entry is found has = subst (HasAllFrames f) (written_by script s Call is ∙ ap written_by_entry found) has

-- the machine after a step that went so, where it completed
abbrev pub completion_by : Bool → Machine → Option Machine
completion_by true after = Some after
completion_by false after = None

completed : (plan : PlanFields) (m : Machine) (s : Spot) (x : RunState Spot Halt) → HaltsAt s x → step_events plan m (machine_of x) ≡ step_events plan m None
completed plan m s (Running other) h = absurd h
completed plan m s (Ended last halt) h = refl

-- the events of the play's step are those of the machine's
pub events_by : (plan : PlanFields) (script : Script) (old new : Spot) (on : Bool) → Plays script old on new → step_events plan old.machine (completion_by on new.machine) ≡ trace_events plan (played_item script old)
events_by plan script old new true plays = ap (λ (x : RunState Spot Halt). step_events plan old.machine (machine_of x)) (sym plays)
events_by plan script old new false plays = sym (completed plan old.machine old (play_step script old) plays.0)

-- those before a call, and those that are left then
call_events : (plan : PlanFields) (m after : Machine) (on : Bool) → step_events plan m None ++ events_left plan m on after ≡ step_events plan m (completion_by on after)
call_events plan m after true = sym (all_is plan m after)
call_events plan m after false = append-nil (step_events plan m None)

module _ {L : Type 0} (stands : List Event → L → Type 0) where
  pub turn_takes : (plan : PlanFields) (script : Script) (old new : Spot) (on : Bool) (before after : L) → Plays script old on new → TakesEvents stands (step_events plan old.machine (completion_by on new.machine)) before after
      → TakesEvents stands (trace_events plan (played_item script old)) before after
  turn_takes plan script old new on before after plays takes =
      takes_as stands (step_events plan old.machine (completion_by on new.machine)) (trace_events plan (played_item script old)) before after (events_by plan script old new on plays) takes

  -- the events of a call that was tried, and then those that were left
  pub call_takes : (plan : PlanFields) (script : Script) (old : GuestState) (calls : ℕ) (new : GuestState) (later : ℕ) (r : Result Bool AllocError) (before middle after : L)
      → IfOk r (λ on. IsTurn script old calls on new later) → TakesEvents stands (step_events plan old.machine None) before middle
      → IfOk r (λ on. TakesEvents stands (events_left plan old.machine on new.machine) middle after)
      → IfOk r (λ on. TakesEvents stands (trace_events plan (played_item script (spot old.machine calls))) before after)
  call_takes plan script old calls new later (Err e) before middle after turn early late = tt
  call_takes plan script old calls new later (Ok on) before middle after turn early late =
      turn_takes plan script (spot old.machine calls) (spot new.machine later) on before after turn.plays
      (takes_as stands (step_events plan old.machine None ++ events_left plan old.machine on new.machine) (step_events plan old.machine (completion_by on new.machine)) before after (call_events plan old.machine new.machine on)
      (takes_join stands (step_events plan old.machine None) (events_left plan old.machine on new.machine) before middle after early late))

  -- the same, where the guest stands at the call as it stood before it was tried
  pub call_takes_at : (plan : PlanFields) (script : Script) (old mid : GuestState) (calls : ℕ) (new : GuestState) (later : ℕ) (r : Result Bool AllocError) (before middle after : L) → mid ≡ old
      → IfOk r (λ on. IsTurn script mid calls on new later) → TakesEvents stands (step_events plan old.machine None) before middle
      → IfOk r (λ on. TakesEvents stands (events_left plan mid.machine on new.machine) middle after)
      → IfOk r (λ on. TakesEvents stands (trace_events plan (played_item script (spot old.machine calls))) before after)
  call_takes_at plan script old mid calls new later r before middle after same turn early late =
      call_takes plan script old calls new later r before middle after
      (subst (λ (g : GuestState). IfOk r (λ on. IsTurn script g calls on new later)) same turn) early
      (subst (λ (g : GuestState). IfOk r (λ on. TakesEvents stands (events_left plan g.machine on new.machine) middle after)) same late)
