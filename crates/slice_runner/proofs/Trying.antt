-- The play of a job that is tried.
use Rattle.std.proofs.Common.{◌≡◌, ℕ, ◌+◌, ◌-◌, ◌≤◌, ◌<◌, ◌^◌, ◌⊎◌, inl, inr, Bool, true, false, List, length, map, refl, sym, ap, subst, ◌∙◌, arith}
use Rattle.std.specs.Prelude.{Option, None, Some, Ok, Err, min}
use Rattle.std.specs.Option.{unwrap_or}
use Rattle.std.proofs.lemmas.Bool.{cases_lt}
use Rattle.call_record.specs.Record.{CallRecord}
use Rattle.cow_pages.specs.Marks.{count_marked}
use Rattle.cow_pages.proofs.MarkLists.{count_marked-unmarked}
use Rattle.guest_model.specs.Effect.{Call, effect_of, stored_by}
use Rattle.guest_model.specs.Fits.{fits}
use Rattle.guest_model.specs.Machine.{Machine}
use Rattle.guest_model.specs.Play.{Halt, Script, Spot, entry_for, play_step, range_of, spot, written_of}
use Rattle.guest_model.specs.Range.{pages_among}
use Rattle.guest_model.specs.Runs.{RunState, Running, Ended, state_of}
use Rattle.guest_model.specs.declared.platform.TheConstants.{MOST_PAGES}
use Rattle.guest_mem.specs.Frames.{Frames, HasAllFrames}
use Rattle.guest_mem.proofs.Few.{few_for_effect}
use Rattle.rv_machine.specs.Guest.{GuestState}
use Rattle.rv_machine.specs.Snapshot.{guest_from}
use Rattle.rv_machine.specs.Step.{Gives}
use Rattle.rv_machine.specs.declared.step.FaultKind.{FaultKind}
use Rattle.rv_machine.specs.declared.step.Stepped.TheVariants as answers
use Rattle.call_playback.specs.Stores.{MarksStored}
use Rattle.call_playback.proofs.Records.{few_for_record}
use Rattle.guest_model.specs.Play.{played}
use Rattle.boundary_verify.specs.Job.{FitsAt, JobFields, Lasts, TakesAll, boundary_of, path_of, script_of_job}
use Rattle.boundary_verify.specs.Path.{Boundary, Meets, Path, path_after}
use Rattle.boundary_verify.specs.Path as paths
use Rattle.slice_runner.specs.Checked.{EndsJob, EndsShort, FaultGives, HasRoomForStep, Passes, TakesMisfit, TryGives, Within}
use Rattle.slice_runner.specs.Turn.{HaltsAt, IsTurn, KnowsFrames}
use Rattle.slice_runner.specs.declared.checked.JobFault.{JobFault}
use Rattle.slice_runner.specs.declared.checked.JobFault.TheVariants.{BadRecord, NoMemory, NotReached, Peak}
use Rattle.slice_runner.proofs.Frames.{pages_marked}
use Rattle.slice_runner.proofs.Slices.{after_more, marks_more, played_more, played_none}
use Rattle.slice_runner.proofs.SoFar.{Played, Tried}
use Rattle.slice_runner.proofs.Turns.{call_turn, fault_turn, next_turn, none_turn}

-- one step never lacks a frame
pub room_for_instruction : (f : Frames) (m : Machine) → HasRoomForStep f → HasAllFrames f (stored_by (effect_of m))
room_for_instruction f m (inl all) = inl all
room_for_instruction f m (inr free) = inr (omega (arith, few_for_effect f m (effect_of m) refl, free))

pub room_for_record : (f : Frames) (m : Machine) (entry : CallRecord) → fits m entry ≡ true → HasRoomForStep f → HasAllFrames f (map range_of entry.stored)
room_for_record f m entry fit (inl all) = inl all
room_for_record f m entry fit (inr free) = inr (omega (arith, few_for_record f.framed m entry fit, free))

-- a step that completed
pub tried_next : (script : Script) (old new : GuestState) (calls : ℕ) → Gives (effect_of old.machine) answers.Next old new → TryGives script old calls new calls (Ok true)
tried_next script old new calls gives = (λ entry call found. absurd (cc (gives.0, call)), next_turn script old new calls gives)

-- a step that faulted
pub tried_fault : (script : Script) (old new : GuestState) (calls : ℕ) (kind : FaultKind) → Gives (effect_of old.machine) (answers.Fault kind) old new → TryGives script old calls new calls (Ok false)
tried_fault script old new calls kind gives = (λ entry call found. absurd (cc (gives.0, call)), fault_turn script old new calls kind gives)

-- a call for which no record is left
pub tried_none : (script : Script) (old : GuestState) (calls : ℕ) → effect_of old.machine ≡ Call → entry_for script calls ≡ None → TryGives script old calls old calls (Ok false)
tried_none script old calls is none = (λ entry call found. absurd (cc (none, found)), none_turn script old calls is none)

-- a call that was played by a record that fits
pub tried_call : (script : Script) (old new : GuestState) (calls : ℕ) (entry : CallRecord) → effect_of old.machine ≡ Call → entry_for script calls ≡ Some entry → fits old.machine entry ≡ true
    → new.machine ≡ played old.machine entry → MarksStored entry.stored old.frames new.frames → new.origin ≡ old.origin → TryGives script old calls new (calls + 1) (Ok true)
tried_call script old new calls entry is found fit plays marks origin = (
  λ other call there. subst (λ (e : CallRecord). fits old.machine e ≡ true) (ap (λ (o : Option CallRecord). unwrap_or o entry) (sym found ∙ there)) fit,
  call_turn script old new calls entry is found plays marks origin,
)

-- the record that is left is that of the same list
pub same_entry : (first calls : ℕ) (records others : List CallRecord) (o : Option CallRecord) → others ≡ records → o ≡ entry_for (record { first = first; entries = others }) calls
    → entry_for (record { first = first; entries = records }) calls ≡ o
same_entry first calls records others o same is = ap (λ (es : List CallRecord). entry_for (record { first = first; entries = es }) calls) (sym same) ∙ sym is

-- the frames that are left suffice for one more step
pub has_room : (f : Frames) (peak : ℕ) → f.count ≡ min peak MOST_PAGES + 31 → f.count ≤ f.free + count_marked f.written → count_marked f.written ≤ peak → HasRoomForStep f
has_room f peak count enough few =
    elim (cases_lt peak MOST_PAGES) [
      | inl lt ↦ inr (omega (arith, lt, count, enough, few))
      | inr le ↦ inl (omega (arith, le, count))
    ]

pages_now : (job : JobFields) (frames k : ℕ) (guest : GuestState) (calls : ℕ) → Played job frames k guest calls → count_marked guest.frames.written ≡ pages_among (written_of (script_of_job job) k (path_of job).start)
pages_now job frames k guest calls played = ap count_marked played.written ∙ pages_marked (written_of (script_of_job job) k (path_of job).start) (2 ^ 20) refl

pub room_now : (job : JobFields) (frames k : ℕ) (guest : GuestState) (calls : ℕ) → frames ≡ min job.peak MOST_PAGES + 31 → Tried job frames k guest calls → KnowsFrames guest → HasRoomForStep guest.frames
room_now job frames k guest calls are tried knows =
    has_room guest.frames job.peak (tried.played.count ∙ are) knows.enough (omega (arith, pages_now job frames k guest calls tried.played, tried.few))

-- the pages behind one step more
pub pages_next : (job : JobFields) (frames k : ℕ) (old new : GuestState) (calls later : ℕ) (on : Bool) → Played job frames k old calls → IsTurn (script_of_job job) old calls on new later
    → count_marked new.frames.written ≡ pages_among (written_of (script_of_job job) (k + 1) (path_of job).start)
pages_next job frames k old new calls later on played turn =
    ap count_marked (marks_more job k old new calls later on played turn) ∙ pages_marked (written_of (script_of_job job) (k + 1) (path_of job).start) (2 ^ 20) refl

no_pages : (job : JobFields) (frames : ℕ) (guest : GuestState) → Played job frames 0 guest job.position → count_marked guest.frames.written ≤ job.peak → pages_among (written_of (script_of_job job) 0 (path_of job).start) ≤ job.peak
no_pages job frames guest played few = omega (arith, few, pages_now job frames 0 guest job.position played)

none_before : (j : ℕ) → j < 0 → ⊥
none_before j lt = omega (arith, lt)

-- the start of a play
pub tried_none_yet : (job : JobFields) (frames : ℕ) (guest : GuestState) → guest ≡ guest_from job.start frames → Tried job frames 0 guest job.position
tried_none_yet job frames guest is =
    let played = played_none job frames guest is in
    let none : count_marked guest.frames.written ≡ 0 = ap (λ (g : GuestState). count_marked g.frames.written) is ∙ count_marked-unmarked (2 ^ 20) in
    record {
      played = played;
      fits = λ j lt. absurd (none_before j lt);
      few = no_pages job frames guest played (omega (arith, none));
    }

pub passes : (job : JobFields) (frames k : ℕ) (guest : GuestState) (calls : ℕ) → Tried job frames k guest calls → Passes (path_of job) job.peak k
passes job frames k guest calls tried = record {
  goes_on = (spot guest.machine calls, tried.played.there);
  fits = tried.fits;
  few = tried.few;
  unmatched = tried.played.unmatched;
}

-- the records of one step more fit
fits_more : (path : Path) (k : ℕ) (s : Spot) → path_after path k ≡ Running s → ((j : ℕ) → j < k → FitsAt path.script (path_after path j)) → FitsAt path.script (Running s) → (j : ℕ) → j < k + 1
    → FitsAt path.script (path_after path j)
fits_more path k s there fits next j lt = go (cases_lt j k)
  where
    go : (j < k) ⊎ (k ≤ j) → FitsAt path.script (path_after path j)
    go (inl before) = fits j before
    go (inr le) =
        let same : k ≡ j = omega (arith, le, lt) in
        subst (λ (n : ℕ). FitsAt path.script (path_after path n)) same (subst (FitsAt path.script) (sym there) next)

-- a record that does not fit
pub fault_found : (job : JobFields) (frames k within : ℕ) (old new : GuestState) (calls later : ℕ) (fault : JobFault) → Tried job frames k old calls → k < within
    → TryGives (script_of_job job) old calls new later (Err fault) → FaultGives (path_of job) job.peak within fault
fault_found job frames k within old new calls later (BadRecord index) tried lt gives =
    (k, (lt, (passes job frames k old calls tried, subst (TakesMisfit (script_of_job job) index) (sym tried.played.there) gives)))
fault_found job frames k within old new calls later (Peak pages) tried lt gives = absurd gives
fault_found job frames k within old new calls later (NotReached steps) tried lt gives = absurd gives
fault_found job frames k within old new calls later NoMemory tried lt gives = absurd gives

-- too many pages
pub peak_passed : (job : JobFields) (frames k within : ℕ) (old new : GuestState) (calls later : ℕ) (on : Bool) (pages : ℕ) → Tried job frames k old calls → k < within
    → TryGives (script_of_job job) old calls new later (Ok on) → pages ≡ count_marked new.frames.written → job.peak < pages → FaultGives (path_of job) job.peak within (Peak pages)
peak_passed job frames k within old new calls later on pages tried lt gives are many = (
  k,
  (
    lt,
    (
      passes job frames k old calls tried,
      record {
        fits = subst (FitsAt (script_of_job job)) (sym tried.played.there) gives.0;
        pages_are = are ∙ pages_next job frames k old new calls later on tried.played gives.1;
        many = many;
      },
    ),
  ),
)

-- the play after one step more, where it ended
ended_after : (path : Path) (k : ℕ) (s : Spot) → path_after path k ≡ Running s → HaltsAt s (play_step path.script s) → (halt : Halt) × (path_after path (k + 1) ≡ Ended s halt)
ended_after path k s there halts = go (play_step path.script s) refl halts
  where
    go : (x : RunState Spot Halt) → play_step path.script s ≡ x → HaltsAt s x → (halt : Halt) × (path_after path (k + 1) ≡ Ended s halt)
    go (Running other) e h = absurd h
    go (Ended last halt) e h = (halt, after_more path k s (Ended last halt) there e ∙ ap (λ (q : Spot). Ended q halt) h)

-- the end of the job is there
met_by : (job : JobFields) (k : ℕ) (old new : GuestState) (calls later : ℕ) (on : Bool) → path_after (path_of job) k ≡ Running (spot old.machine calls) → IsTurn (script_of_job job) old calls on new later
    → EndsJob job (spot new.machine later) on
    → Meets (boundary_of job.end) (path_after (path_of job) (k + 1)) × TakesAll (boundary_of job.end) (script_of_job job) (path_after (path_of job) (k + 1))
met_by job k old new calls later true there turn end =
    let path = path_of job in
    let x = path_after path (k + 1) in
    let next : x ≡ Running (spot new.machine later) = after_more path k (spot old.machine calls) (Running (spot new.machine later)) there turn.plays in
    (subst (λ (b : Boundary). Meets b x) (sym end) next, subst (λ (b : Boundary). TakesAll b path.script x) (sym end) tt)
met_by job k old new calls later false there turn end =
    let path = path_of job in
    let s = spot old.machine calls in
    let x = path_after path (k + 1) in
    let over = ended_after path k s there turn.plays.0 in
    let left : (state_of x).calls - job.position ≡ length job.records =
    ap (λ (y : RunState Spot Halt). (state_of y).calls - job.position) over.1 ∙ ap (λ (q : Spot). q.calls - job.position) (sym turn.plays.1) ∙ end.1 in
    (subst (λ (b : Boundary). Meets b x) (sym end.0) (s, over.0, over.1), subst (λ (b : Boundary). TakesAll b path.script x) (sym end.0) left)

pub end_found : (job : JobFields) (frames k within : ℕ) (old new : GuestState) (calls later : ℕ) (on : Bool) (pages : ℕ) → Tried job frames k old calls → k < within → within ≤ 2 ^ 40
    → TryGives (script_of_job job) old calls new later (Ok on) → pages ≡ count_marked new.frames.written → pages ≤ job.peak → EndsJob job (spot new.machine later) on
    → Within (path_of job) job.peak within (λ n. Lasts (path_of job) job.peak (n + 1))
end_found job frames k within old new calls later on pages tried lt most gives are few end =
    let path = path_of job in
    let s = spot old.machine calls in
    let met = met_by job k old new calls later on tried.played.there gives.1 end in
    let same : k + 1 - 1 ≡ k = omega arith in (
      k,
      (
        lt,
        (
          passes job frames k old calls tried,
          record {
            begun = omega arith;
            short = omega (arith, lt, most);
            goes_on = rw same (s, tried.played.there);
            fits = fits_more path k s tried.played.there tried.fits gives.0;
            few = omega (arith, are, few, pages_next job frames k old new calls later on tried.played gives.1);
            met = met.0;
            taken = met.1;
          },
        ),
      ),
    )

-- a play that ended and is not at the end of the job
short_by : (b : Boundary) (job : JobFields) (x : RunState Spot Halt) (s : Spot) (halt : Halt) → x ≡ Ended s halt → ((b ≡ paths.AtEnd) × (s.calls - job.position ≡ length job.records) → ⊥) → Meets b x
    → TakesAll b (script_of_job job) x → ⊥
short_by (paths.At end) job x s halt over differs met taken = cc (over, met)
short_by paths.AtEnd job x s halt over differs met taken = differs (refl, ap (λ (y : RunState Spot Halt). (state_of y).calls - job.position) (sym over) ∙ taken)

pub ended_short : (job : JobFields) (frames k within : ℕ) (old new : GuestState) (calls later : ℕ) (steps : ℕ) → Tried job frames k old calls → k < within
    → TryGives (script_of_job job) old calls new later (Ok false) → (EndsJob job (spot new.machine later) false → ⊥) → steps ≡ k + 1 → FaultGives (path_of job) job.peak within (NotReached steps)
ended_short job frames k within old new calls later steps tried lt gives differs is =
    let path = path_of job in
    let s = spot old.machine calls in
    let over = ended_after path k s tried.played.there gives.1.plays.0 in
    let no_end : (boundary_of job.end ≡ paths.AtEnd) × (s.calls - job.position ≡ length job.records) → ⊥ =
    λ h. differs (h.0, ap (λ (q : Spot). q.calls - job.position) gives.1.plays.1 ∙ h.1) in
    let short : EndsShort path (k + 1) = record {
      over = (s, over.0, over.1);
      short = short_by (boundary_of job.end) job (path_after path (k + 1)) s over.0 over.1 no_end;
    } in
    inr (k, (lt, (passes job frames k old calls tried, (is, subst (EndsShort path) (sym is) short))))

-- one step more, which is not the end
pub tried_more : (job : JobFields) (frames k : ℕ) (old new : GuestState) (calls later : ℕ) (pages : ℕ) → Tried job frames k old calls → TryGives (script_of_job job) old calls new later (Ok true)
    → pages ≡ count_marked new.frames.written → pages ≤ job.peak → (EndsJob job (spot new.machine later) true → ⊥) → Tried job frames (k + 1) new later
tried_more job frames k old new calls later pages tried gives are few differs = record {
  played = played_more job k old new calls later tried.played gives.1 differs;
  fits = fits_more (path_of job) k (spot old.machine calls) tried.played.there tried.fits gives.0;
  few = omega (arith, are, few, pages_next job frames k old new calls later true tried.played gives.1);
}

-- a loop that ended made all its steps
pub same_steps : (steps within : ℕ) → steps ≤ within → within ≤ steps → steps ≡ within
same_steps steps within le ge = omega (arith, le, ge)
