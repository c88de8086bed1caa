-- The jobs that a master makes are jobs.
use Rattle.std.proofs.Common.{◌≡◌, ◌⊎◌, inl, inr, ℕ, ◌+◌, ◌-◌, ◌^◌, ◌<◌, ◌≤◌, List, [], ◌∷◌, ◌++◌, length, refl, sym, ap, subst, ◌∙◌, arith}
use Rattle.std.specs.Prelude.{None, slice_get}
use Rattle.std.proofs.lemmas.List.{append-nil}
use Rattle.std.proofs.lemmas.Bool.{cases_lt}
use Rattle.call_record.specs.Record.{CallRecord}
use Rattle.cow_pages.specs.Marks.{count_marked, unmarked}
use Rattle.guest_model.specs.Effect.{Effect, effect_of}
use Rattle.guest_model.specs.Play.{Halt, Faulted, Script, Spot, Unrecorded, entry_for, play_by, play_by_entry, play_of, play_step, spot, written_at, written_by_entry, written_in_play, written_of}
use Rattle.guest_model.specs.Range.{Range, pages_among}
use Rattle.guest_model.specs.Runs.{RunState, Running, Ended, state_of}
use Rattle.guest_model.proofs.Runs.{after-next, after-zero, along-next, along-zero, running_earlier}
use Rattle.guest_mem.specs.Frames.{free_frames, marked_for_all}
use Rattle.guest_mem.proofs.Ranges.{marked_for_all-none}
use Rattle.rv_machine.specs.Guest.{GuestState}
use Rattle.rv_machine.specs.Step.{kind_number}
use Rattle.rv_machine.specs.declared.step.End.{End}
use Rattle.rv_machine.specs.declared.step.End.TheVariants.{Exit, Signal}
use Rattle.boundary_verify.specs.Job.{FitsAt, JobFields, Lasts, boundary_of, path_of}
use Rattle.boundary_verify.specs.Path.{At, AtEnd, Boundary, Path}
use Rattle.slice_runner.proofs.Frames.{pages_marked}
use Rattle.master_run.specs.Progress.{Advances, PlaysFrom, PlaysTo, StandsAtEnd, script_with}
use Rattle.master_run.specs.declared.progress.Progress.{Progress}

-- behind a list nothing stands
none_behind : {A : Type 0} (xs : List A) → slice_get xs (length xs) ≡ None
none_behind [] = refl
none_behind (x ∷ xs) = none_behind xs

-- before its first step
pub plays_none : (l : Progress) (frames : ℕ) → l.log ≡ [] → l.guest.frames ≡ free_frames frames → PlaysFrom (spot l.guest.machine l.calls) 0 l
plays_none l frames none free = record {
  plays = λ more. record {
    there = after-zero (play_step (script_with l.calls (l.log ++ more))) (Running (spot l.guest.machine l.calls));
    fits = λ j lt. absurd (omega (arith, lt));
    written = ap (λ (f : _). f.written) free ∙ sym (marked_for_all-none (unmarked (2 ^ 20)))
        ∙ ap (marked_for_all (unmarked (2 ^ 20))) (sym (along-zero (play_step (script_with l.calls (l.log ++ more))) (written_at (script_with l.calls (l.log ++ more))) (Running (spot l.guest.machine l.calls))));
  };
  count = omega (arith, ap length none);
}

-- the play of a part of a run, from its start
pub plays_part : (old new : Progress) (frames : ℕ) → Advances old new → old.log ≡ [] → old.guest.frames ≡ free_frames frames → PlaysFrom (spot old.guest.machine old.calls) (new.position - old.position) new
plays_part old new frames goes none free =
    let start = spot old.guest.machine old.calls in
    let steps : 0 + (new.position - old.position) ≡ new.position - old.position = omega arith in
    subst (λ (n : ℕ). PlaysFrom start n new) steps (goes.plays start 0 (plays_none old frames none free))

-- by the records so far
plays_now : (start : Spot) (n : ℕ) (l : Progress) → PlaysFrom start n l → PlaysTo (script_with start.calls l.log) start n l.guest l.calls
plays_now start n l plays = subst (λ (es : List CallRecord). PlaysTo (script_with start.calls es) start n l.guest l.calls) (append-nil l.log) (plays.plays [])

pages_are : (script : Script) (start : Spot) (n : ℕ) (g : GuestState) (calls : ℕ) → PlaysTo script start n g calls → pages_among (written_of script n start) ≡ count_marked g.frames.written
pages_are script start n g calls plays = sym (ap count_marked plays.written ∙ pages_marked (written_of script n start) (2 ^ 20) refl)

lasts_to : (script : Script) (start : Spot) (n peak : ℕ) (g : GuestState) (calls : ℕ) → PlaysTo script start n g calls → 0 < n → n ≤ 2 ^ 40 → peak ≡ count_marked g.frames.written
    → Lasts (record { start = start; script = script; boundary = At (spot g.machine calls) }) peak n
lasts_to script start n peak g calls plays some short is = record {
  begun = omega (arith, some);
  short = short;
  goes_on = running_earlier (play_step script) (n - 1) n (Running start) (omega arith) (spot g.machine calls, plays.there);
  fits = plays.fits;
  few = omega (arith, is, pages_are script start n g calls plays);
  met = plays.there;
  taken = tt;
}

-- the step that ends a play
record Halts (script : Script) (s : Spot) : Type 0 where
  pub halt : Halt
  pub leads : play_step script s ≡ Ended s halt
  pub writes : written_at script s ≡ []
  pub fit : FitsAt script (Running s)

halts_by : (script : Script) (s : Spot) (effect : Effect) (halt : Halt) → effect_of s.machine ≡ effect → play_by script s effect ≡ Ended s halt → written_in_play script s effect ≡ [] → FitsAt script (Running s) → Halts script s
unfolding play_step written_at
halts_by script s effect halt is leads writes fit = record { halt = halt; leads = ap (play_by script s) is ∙ leads; writes = ap (written_in_play script s) is ∙ writes; fit = fit }

halts : (end : End) (script : Script) (g : GuestState) (calls : ℕ) → StandsAtEnd end g → entry_for script calls ≡ None → Halts script (spot g.machine calls)
halts (Exit status) script g calls stands none =
    halts_by script (spot g.machine calls) Effect.Call Unrecorded stands (ap (play_by_entry (spot g.machine calls)) none) (ap written_by_entry none)
    (λ entry call found. absurd (cc (none, found)))
halts (Signal kind pc) script g calls stands none =
    halts_by script (spot g.machine calls) (Effect.Fault (kind_number kind)) (Faulted (kind_number kind)) stands refl refl
    (λ entry call found. absurd (cc (stands, call)))

lasts_out : (script : Script) (start : Spot) (n peak : ℕ) (g : GuestState) (calls : ℕ) → PlaysTo script start n g calls → Halts script (spot g.machine calls) → calls - script.first ≡ length script.entries → n < 2 ^ 40
    → peak ≡ count_marked g.frames.written → Lasts (record { start = start; script = script; boundary = AtEnd }) peak (n + 1)
lasts_out script start n peak g calls plays h all short is =
    let over : play_of script (n + 1) start ≡ Ended (spot g.machine calls) h.halt = after-next (play_step script) n (Running start) (spot g.machine calls) plays.there ∙ h.leads in
    let same : written_of script (n + 1) start ≡ written_of script n start =
    along-next (play_step script) (written_at script) n (Running start) (spot g.machine calls) plays.there ∙ ap (λ (rs : List Range). written_of script n start ++ rs) h.writes ∙ append-nil (written_of script n start) in
    let steps : n + 1 - 1 ≡ n = omega arith in
    record {
      begun = omega arith;
      short = omega (arith, short);
      goes_on = (spot g.machine calls, ap (λ (k : ℕ). play_of script k start) steps ∙ plays.there);
      fits = λ k lt. by k (cases_lt k n) lt;
      few = omega (arith, is, pages_are script start n g calls plays, ap pages_among same);
      met = (spot g.machine calls, h.halt, over);
      taken = ap (λ (x : RunState Spot Halt). (state_of x).calls - script.first) over ∙ all;
    }
  where
    by : (k : ℕ) → (k < n) ⊎ (n ≤ k) → k < n + 1 → FitsAt script (play_of script k start)
    by k (inl lt) less = plays.fits k lt
    by k (inr le) less =
        let at : k ≡ n = omega (arith, le, less) in
        subst (λ (x : RunState Spot Halt). FitsAt script x) (sym (ap (λ (i : ℕ). play_of script i start) at ∙ plays.there)) h.fit

pages_out : (script : Script) (start : Spot) (n : ℕ) (g : GuestState) (calls : ℕ) → PlaysTo script start n g calls → Halts script (spot g.machine calls) → pages_among (written_of script (n + 1) start) ≡ count_marked g.frames.written
pages_out script start n g calls plays h =
    let same : written_of script (n + 1) start ≡ written_of script n start =
    along-next (play_step script) (written_at script) n (Running start) (spot g.machine calls) plays.there ∙ ap (λ (rs : List Range). written_of script n start ++ rs) h.writes ∙ append-nil (written_of script n start) in
    ap pages_among same ∙ pages_are script start n g calls plays

-- the job of a part of a run: where it starts, and what its calls recorded
pub record IsJobOf (job : JobFields) (old new : Progress) : Type 0 where
  pub start : job.start.machine ≡ old.guest.machine
  pub position : job.position ≡ old.calls
  pub records : job.records ≡ new.log
  pub peak : job.peak ≡ count_marked new.guest.frames.written

path_to : (job : JobFields) (old new : Progress) (boundary : Boundary) → IsJobOf job old new → boundary_of job.end ≡ boundary
    → record { start = spot old.guest.machine old.calls; script = script_with old.calls new.log; boundary = boundary } ≡ path_of job
path_to job old new boundary is end = λ i. record {
  start = spot (sym is.start i) (sym is.position i);
  script = record { first = sym is.position i; entries = sym is.records i };
  boundary = sym end i;
}

-- how many steps it lasts, and how many pages it writes
pub record LastsSo (job : JobFields) (n : ℕ) : Type 0 where
  pub lasts : Lasts (path_of job) job.peak n
  pub peak : job.peak ≡ pages_among (written_of (path_of job).script n (path_of job).start)

lasts_so : (job : JobFields) (path : Path) (n : ℕ) → path ≡ path_of job → Lasts path job.peak n → job.peak ≡ pages_among (written_of path.script n path.start) → LastsSo job n
lasts_so job path n same lasts peak = record {
  lasts = subst (λ (x : Path). Lasts x job.peak n) same lasts;
  peak = subst (λ (x : Path). job.peak ≡ pages_among (written_of x.script n x.start)) same peak;
}

pub lasts_cut : (job : JobFields) (old new : Progress) (n : ℕ) → IsJobOf job old new → boundary_of job.end ≡ At (spot new.guest.machine new.calls) → PlaysFrom (spot old.guest.machine old.calls) n new → 0 < n → n ≤ 2 ^ 40 → LastsSo job n
lasts_cut job old new n is end plays some short =
    let start = spot old.guest.machine old.calls in
    let script = script_with old.calls new.log in
    let now : PlaysTo script start n new.guest new.calls = plays_now start n new plays in
    lasts_so job (record { start = start; script = script; boundary = At (spot new.guest.machine new.calls) }) n (path_to job old new (At (spot new.guest.machine new.calls)) is end)
    (lasts_to script start n job.peak new.guest new.calls now some short is.peak) (is.peak ∙ sym (pages_are script start n new.guest new.calls now))

pub lasts_end : (job : JobFields) (old new : Progress) (n : ℕ) (end : End) → IsJobOf job old new → boundary_of job.end ≡ AtEnd → PlaysFrom (spot old.guest.machine old.calls) n new → StandsAtEnd end new.guest → n < 2 ^ 40 → LastsSo job (n + 1)
lasts_end job old new n end is at plays stands short =
    let start = spot old.guest.machine old.calls in
    let script = script_with old.calls new.log in
    let now : PlaysTo script start n new.guest new.calls = plays_now start n new plays in
    let all : new.calls - old.calls ≡ length new.log = omega (arith, plays.count) in
    let none : entry_for script new.calls ≡ None = rw all (none_behind new.log) in
    let h : Halts script (spot new.guest.machine new.calls) = halts end script new.guest new.calls stands none in
    lasts_so job (record { start = start; script = script; boundary = AtEnd }) (n + 1) (path_to job old new AtEnd is at)
    (lasts_out script start n job.peak new.guest new.calls now h all short is.peak) (is.peak ∙ sym (pages_out script start n new.guest new.calls now h))
