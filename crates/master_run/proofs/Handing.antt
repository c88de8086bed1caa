-- What a turn says of the run.
use Rattle.std.proofs.Common.{◌≡◌, ℕ, ◌+◌, ◌-◌, ◌/◌, ◌^◌, ◌<◌, ◌≤◌, Bool, List, [], ◌∷◌, ◌++◌, refl, sym, ap, subst, ◌∙◌, arith}
use Rattle.std.specs.Prelude.{Err}
use Rattle.std.proofs.Math.Nat.{lt-div-mul-add}
use Rattle.sp_host.specs.Told.{Told}
use Rattle.cow_pages.specs.Marks.{unmarked}
use Rattle.guest_model.specs.Machine.{Machine}
use Rattle.guest_model.specs.Play.{Spot, spot, spot_of}
use Rattle.guest_model.specs.Runs.{RunState, Running, state_of}
use Rattle.guest_model.specs.Serial.{End, Position, entries_of, entry_at, position_at, run_of, sent_of, step_of}
use Rattle.guest_model.proofs.Runs.{along-zero}
use Rattle.guest_mem.specs.Frames.{marked_for_all}
use Rattle.guest_mem.proofs.Ranges.{marked_for_all-none}
use Rattle.syscall_layer.specs.Serve.{PartWritten}
use Rattle.syscall_layer.specs.declared.fault.RunFault.{RunFault}
use Rattle.syscall_layer.specs.declared.fault.RunFault.TheVariants as faults
use Rattle.boundary_verify.specs.Cuts.{AreCuts, AreFirstCuts, CutLimits, HasNoCut, IsNextCut, is_cut, writes_at}
use Rattle.boundary_verify.specs.Job.{JobFields, boundary_of, path_of}
use Rattle.boundary_verify.specs.Path.{At, AtEnd, Boundary, last_path, path_between, script_of}
use Rattle.boundary_verify.proofs.Cuts.{cut_more, cuts_all}
use Rattle.master_run.specs.Answers.{PacerState}
use Rattle.master_run.specs.Inside.{IsAtStart, seen_of}
use Rattle.master_run.specs.Master.{HasRunTo, MasterState, limits_of}
use Rattle.master_run.specs.Master as seen
use Rattle.master_run.specs.declared.master.Stage.TheVariants as stages
use Rattle.master_run.specs.Progress.{FindsCut, Reaches, RunsOut, RunsTo, TriedWithin, Walks, script_with}
use Rattle.master_run.specs.Turn.{HandsOutOfRun, HasAllCuts}
use Rattle.master_run.specs.declared.limits.Limits.{Limits}
use Rattle.master_run.specs.declared.progress.Progress.{Progress}
use Rattle.master_run.proofs.Jobs.{IsJobOf}
use Rattle.master_run.proofs.Polls.{cut_same, quotient_below}

-- a later position has no smaller quotient
quotient_rises : (s e w : ℕ) → 0 < w → s ≤ e → s / w ≤ e / w
quotient_rises s e w some le = quotient_below s (e / w) w (omega (arith, le, lt-div-mul-add {a = e} some)) some

-- the first cuts rest on the answers up to the last of them
within : (limits : CutLimits) (a : ℕ → Bool) (p : Position) (e b : ℕ) (cuts : List ℕ) → AreFirstCuts limits a p e b cuts → b ≤ e
within limits a p e b [] h = omega (arith, h)
within limits a p e b (c ∷ cuts) h = omega (arith, h.0.later, within limits a p e c cuts h.1)

next_same : (limits : CutLimits) (a d : ℕ → Bool) (p : Position) (b c n : ℕ) → 0 < limits.poll → c / limits.poll ≤ n → ((k : ℕ) → k ≤ n → d k ≡ a k) → IsNextCut limits a p b c → IsNextCut limits d p b c
next_same limits a d p b c n some few agree h = record {
  later = h.later;
  none_before = λ s more less. cut_same limits d a p b s (agree (s / limits.poll) (omega (arith, few, quotient_rises s c limits.poll some (omega (arith, less))))) ∙ h.none_before s more less;
  is = cut_same limits d a p b c (agree (c / limits.poll) few) ∙ h.is;
}

first_same : (limits : CutLimits) (a d : ℕ → Bool) (p : Position) (e b : ℕ) (cuts : List ℕ) → 0 < limits.poll → ((k : ℕ) → k ≤ e / limits.poll → d k ≡ a k) → AreFirstCuts limits a p e b cuts → AreFirstCuts limits d p e b cuts
first_same limits a d p e b [] some agree h = h
first_same limits a d p e b (c ∷ cuts) some agree h = (
  next_same limits a d p b c (e / limits.poll) some (quotient_rises c e limits.poll some (within limits a p e c cuts h.1)) agree h.0,
  first_same limits a d p e c cuts some agree h.1,
)

module _ (limits : Limits) (t : Told) (p : Position) (first : PacerState) where
  -- at a cut no call and no write was made since
  pub runs_at_cut : (old : Progress) (cuts : List ℕ) (m : MasterState) (told : Told) (now : PacerState) (start : _) → IsAtStart limits old start → m.position ≡ old.position → m.machine ≡ old.guest.machine → m.calls ≡ old.calls → HasRunTo t p first m told now
      → RunsTo t p old.position old told
  runs_at_cut old cuts m told now start at place machine calls h =
      let none : old.position - old.position ≡ 0 = omega arith in
      let last = position_at old.position p in
      record {
        position = h.position;
        stands = ap (λ (n : ℕ). run_of n p) (sym place) ∙ h.stands;
        machine = h.machine ∙ machine;
        calls = h.calls ∙ calls;
        told_is = h.told_is ∙ ap (λ (n : ℕ). Rattle.syscall_layer.specs.Serve.told_after t h.position.world (sent_of n p)) place;
        entries = at.log ∙ sym (along-zero step_of entry_at (Running last)) ∙ ap (λ (n : ℕ). entries_of n last) (sym none);
        marks = ap (λ (f : _). f.written) at.frames ∙ sym (marked_for_all-none (unmarked (2 ^ 20)))
            ∙ ap (marked_for_all (unmarked (2 ^ 20))) (sym (along-zero step_of writes_at (Running last)) ∙ ap (λ (n : ℕ). Rattle.boundary_verify.specs.Cuts.writes_of n last) (sym none));
      }

  -- the path of a job of the run
  there : (b : ℕ) (old : Progress) (told : Told) → RunsTo t p b old told → b ≡ old.position → spot_of (position_at b p) ≡ spot old.guest.machine old.calls
  there b old told runs is =
      let q : position_at b p ≡ runs.position = ap (λ (x : RunState Position End). state_of x) (ap (λ (n : ℕ). run_of n p) is ∙ runs.stands) in
      ap spot_of q ∙ (λ i. spot (runs.machine i) (runs.calls i))

  path_same : (job : JobFields) (old new : Progress) (told : Told) (script : _) (boundary : Boundary) → IsJobOf job old new → RunsTo t p old.position old told → boundary_of job.end ≡ boundary
      → script ≡ script_with old.calls new.log → path_of job ≡ record { start = spot_of (position_at old.position p); script = script; boundary = boundary }
  path_same job old new told script boundary is runs end scripts =
      let start = there old.position old told runs refl in
      λ i. record {
        start = ((λ j. spot (is.start j) (is.position j)) ∙ sym start) i;
        script = ((λ j. script_with (is.position j) (is.records j)) ∙ sym scripts) i;
        boundary = end i;
      }

  calls_there : (old : Progress) (told : Told) → RunsTo t p old.position old told → (position_at old.position p).calls ≡ old.calls
  calls_there old told runs = ap (λ (s : Spot). s.calls) (there old.position old told runs refl)

  pub path_cut : (job : JobFields) (old new : Progress) (told later : Told) → IsJobOf job old new → RunsTo t p old.position old told → RunsTo t p old.position new later
      → boundary_of job.end ≡ At (spot new.guest.machine new.calls) → path_of job ≡ path_between p old.position new.position
  path_cut job old new told later is runs now end =
      let q : position_at new.position p ≡ now.position = ap (λ (x : RunState Position End). state_of x) now.stands in
      path_same job old new told (script_of p old.position new.position) (At (spot_of (position_at new.position p))) is runs
      (end ∙ ap At (sym (ap spot_of q ∙ (λ i. spot (now.machine i) (now.calls i)))))
      (λ i. script_with (calls_there old told runs i) (sym now.entries i))

  pub path_end : (job : JobFields) (old new : Progress) (told later : Told) (end : End) → IsJobOf job old new → RunsTo t p old.position old told → RunsOut t p old.position end new later
      → boundary_of job.end ≡ AtEnd → path_of job ≡ last_path p old.position new.position
  path_end job old new told later end is runs now at =
      path_same job old new told (script_of p old.position (new.position + 1)) AtEnd is runs at (λ i. script_with (calls_there old told runs i) (sym now.entries i))

  -- behind the next cut
  pub behind_cut : (old new : Progress) (cuts : List ℕ) (m : MasterState) (told later : Told) (now shown : PacerState) (h : HasRunTo t p first m told now) → m.position ≡ old.position → m.cuts ≡ cuts → m.limits ≡ limits
      → FindsCut limits t p old.position first h.answers new later shown → (s : Rattle.master_run.specs.Master.Standing)
      → HasRunTo t p first (record { machine = new.guest.machine; position = new.position; calls = new.calls; cuts = cuts ++ new.position ∷ []; limits = limits; standing = s }) later shown
  behind_cut old new cuts m told later now shown h place same bounds f s =
      let poll : 0 < limits.poll = omega (arith, limits.poll_range.0) in
      let were : AreFirstCuts (limits_of limits) h.answers p old.position 0 cuts = subst (λ (x : ℕ). AreFirstCuts (limits_of limits) h.answers p x 0 cuts) place (subst (λ (xs : List ℕ). AreFirstCuts (limits_of limits) h.answers p m.position 0 xs) same
      (subst (λ (l : Limits). AreFirstCuts (limits_of l) h.answers p m.position 0 m.cuts) bounds h.cuts)) in
      let are = first_same (limits_of limits) h.answers f.walks.later p old.position 0 cuts poll f.walks.agrees were in
      record {
        position = f.runs.position;
        stands = f.runs.stands;
        machine = f.runs.machine;
        calls = f.runs.calls;
        told_is = f.runs.told_is;
        answers = f.walks.later;
        answered = f.walks.answered;
        cuts = cut_more (limits_of limits) f.walks.later p 0 old.position new.position cuts are (record { later = f.later; none_before = f.walks.none; is = f.cut });
      }

  -- no cut is missing
  pub all_cuts : (old new : Progress) (cuts : List ℕ) (m : MasterState) (told : Told) (now shown : PacerState) (h : HasRunTo t p first m told now) → m.position ≡ old.position → m.cuts ≡ cuts → m.limits ≡ limits → old.position ≤ new.position
      → Walks limits p old.position first h.answers new.position (new.position + 1) shown → (machine : Machine) (s : Rattle.master_run.specs.Master.Standing)
      → HasAllCuts p first (record { machine = machine; position = new.position; calls = new.calls; cuts = cuts; limits = limits; standing = s }) shown
  all_cuts old new cuts m told now shown h place same bounds le w machine s =
      let poll : 0 < limits.poll = omega (arith, limits.poll_range.0) in
      let were : AreFirstCuts (limits_of limits) h.answers p old.position 0 cuts = subst (λ (x : ℕ). AreFirstCuts (limits_of limits) h.answers p x 0 cuts) place (subst (λ (xs : List ℕ). AreFirstCuts (limits_of limits) h.answers p m.position 0 xs) same
      (subst (λ (l : Limits). AreFirstCuts (limits_of l) h.answers p m.position 0 m.cuts) bounds h.cuts)) in
      record {
        answers = w.later;
        answered = w.answered;
        cuts = cuts_all (limits_of limits) w.later p new.position 0 old.position cuts (first_same (limits_of limits) h.answers w.later p old.position 0 cuts poll w.agrees were) le w.none;
      }

  -- where the run came to no cut
  pub fault_hands : (old new : Progress) (cuts : List ℕ) (m : MasterState) (told later : Told) (now shown : PacerState) (h : HasRunTo t p first m told now) (fault : RunFault) → m ≡ seen_of limits old cuts stages.Over → new.position ≤ limits.budget
      → TriedWithin limits.budget (Err fault) new.position → old.position ≤ new.position → Reaches limits t p old.position first h.answers (Err fault) new later shown
      → HandsOutOfRun t p first m (Err fault) (seen_of limits new cuts (stages.Refused fault)) later shown
  fault_hands old new cuts m told later now shown h (faults.Unsupported number pc) same bound tried le reaches = record {
    ends = reaches.1.ends;
    within = tried;
    told_is = reaches.1.told_is;
    all = all_cuts old new cuts m told now shown h (ap (λ (k : MasterState). k.position) same) (ap (λ (k : MasterState). k.cuts) same) (ap (λ (k : MasterState). k.limits) same) le reaches.0 new.guest.machine (seen.Refused (faults.Unsupported number pc));
  }
  fault_hands old new cuts m told later now shown h (faults.BudgetSpent n) same bound tried le reaches = record {
    position = reaches.runs.position;
    stands = reaches.runs.stands;
    whole = reaches.whole;
    budget = reaches.budget;
    told_is = reaches.runs.told_is;
    all = all_cuts old new cuts m told now shown h (ap (λ (k : MasterState). k.position) same) (ap (λ (k : MasterState). k.cuts) same) (ap (λ (k : MasterState). k.limits) same) le reaches.walks new.guest.machine (seen.Refused (faults.BudgetSpent n));
  }
  fault_hands old new cuts m told later now shown h faults.InputFault same bound tried le reaches = record {
    position = reaches.1.position;
    stands = reaches.1.stands;
    within = tried;
    holds = reaches.1.holds;
    all = all_cuts old new cuts m told now shown h (ap (λ (k : MasterState). k.position) same) (ap (λ (k : MasterState). k.cuts) same) (ap (λ (k : MasterState). k.limits) same) le reaches.0 new.guest.machine (seen.Refused faults.InputFault);
  }
  fault_hands old new cuts m told later now shown h (faults.OutputFault port) same bound tried le reaches = record {
    position = reaches.1.position;
    stands = reaches.1.stands;
    within = tried;
    holds = reaches.1.holds;
    all = all_cuts old new cuts m told now shown h (ap (λ (k : MasterState). k.position) same) (ap (λ (k : MasterState). k.cuts) same) (ap (λ (k : MasterState). k.limits) same) le reaches.0 new.guest.machine (seen.Refused (faults.OutputFault port));
  }
  fault_hands old new cuts m told later now shown h faults.NoMemory same bound tried le reaches = record {
    position = reaches.position;
    stands = reaches.stands;
    within = bound;
    told_is = reaches.told_is;
  }
