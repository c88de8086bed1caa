-- The jobs that a master hands out, one after the other.
use Rattle.std.proofs.Common.{◌≡◌, ℕ, ◌+◌, ◌<◌, ◌≤◌, List, [], ◌∷◌, ◌++◌, length, refl, sym, ap, subst, ◌∙◌, inl, inr, append_assoc, arith, length-append, Ok, Err}
use Rattle.std.specs.Prelude.{Option, None, Some}
use Rattle.std.proofs.lemmas.List.{append-nil}
use Rattle.sp_host.specs.Told.{Told}
use Rattle.guest_model.specs.Machine.{Machine}
use Rattle.guest_model.specs.Serial.{Position, position_at}
use Rattle.boundary_verify.specs.Job.{JobFields}
use Rattle.boundary_verify.specs.Pieces.{HoldsForFirst, HoldsForPaths}
use Rattle.boundary_verify.proofs.Joins.{path_more, paths_all}
use Rattle.master_run.specs.Answers.{PacerState}
use Rattle.master_run.specs.Master.{HasRunTo, MasterState, Ready, start_at}
use Rattle.master_run.specs.Turn.{EndsAtCut, EndsWithRun, HandsOut, HandsOutOfRun}
use Rattle.master_run.specs.declared.master.Turn.{Turn}
use Rattle.master_run.specs.declared.limits.Limits.{Limits}
use Rattle.master_run.specs.declared.master.Turn.TheVariants as turns
use Rattle.rv_machine.specs.declared.step.End.{End}
use Rattle.sp_report.specs.Lines.{end_by}
use Rattle.syscall_layer.specs.Serve.{told_after}
use Rattle.syscall_layer.specs.declared.fault.RunFault.{RunFault}
use Rattle.syscall_layer.specs.declared.fault.RunFault.TheVariants as faults
use Rattle.window_run.specs.Jobs.{FillTells, HandsJobs, IsJobOf, IsRun, and_one}
use Rattle.sliced_run.specs.Sliced.{SlicedFail}
use Rattle.sliced_run.specs.Turns.{StaysReady, StopsWithin}
use Rattle.sliced_run.proofs.Faults.{ends_within, fails}
use Rattle.window_run.proofs.Lists.{jobs_push}

-- no job yet
handed_none : (old : MasterState) → old.position ≤ old.limits.budget → old.standing ≡ Ready → HandsJobs old [] None old
handed_none old within ready = record { are = refl; count = omega arith; within = within; limits = refl; ready = ready }

-- a job up to the next cut
handed_job : (first old new : MasterState) (jobs : List JobFields) (job : JobFields) → HandsJobs first jobs None old → EndsAtCut old job new → new.limits ≡ old.limits → new.standing ≡ Ready → HandsJobs first (jobs ++ job ∷ []) None new
handed_job first old new jobs job h is limits ready =
    let size : length (jobs ++ job ∷ []) ≡ length jobs + 1 = simp length-append in
    let cuts : length (old.cuts ++ new.position ∷ []) ≡ length old.cuts + 1 = simp length-append in
    record {
      are = jobs_push (length first.cuts) first.position old.position new.position jobs job h.are (omega (arith, is.starts.index, h.count)) is.later is.starts.lasts;
      count = omega (arith, size, cuts, h.count, ap length is.cuts);
      within = subst (λ (l : Limits). new.position ≤ l.budget) h.limits is.within;
      limits = limits ∙ h.limits;
      ready = ready;
    }

-- the job up to the end of the run
handed_last : (first old new : MasterState) (jobs : List JobFields) (job : JobFields) (end : End) → HandsJobs first jobs None old → EndsWithRun old job new → new.limits ≡ old.limits → HandsJobs first (jobs ++ job ∷ []) (Some end) new
handed_last first old new jobs job end h is limits =
    let size : length (jobs ++ job ∷ []) ≡ length jobs + 1 = simp length-append in
    let within : new.position < first.limits.budget = subst (λ (l : Limits). new.position < l.budget) h.limits is.within in
    record {
      are = jobs_push (length first.cuts) first.position old.position (new.position + 1) jobs job h.are (omega (arith, is.starts.index, h.count)) (omega (arith, is.later)) is.starts.lasts;
      count = omega (arith, size, h.count, ap length is.cuts);
      within = omega (arith, within);
      limits = limits ∙ h.limits;
      ready = tt;
    }

-- the job of a turn, and the end that it tells
abbrev pub job_of : Turn → JobFields
job_of (turns.Job job) = job
job_of (turns.Last job end) = job

abbrev pub end_of : Turn → Option End
end_of (turns.Job job) = None
end_of (turns.Last job end) = Some end

handed_more : (first old new : MasterState) (jobs : List JobFields) (turn : Turn) → HandsJobs first jobs None old → HandsOut old turn new → new.limits ≡ old.limits → StaysReady turn new → HandsJobs first (jobs ++ job_of turn ∷ []) (end_of turn) new
handed_more first old new jobs (turns.Job job) h is limits ready = handed_job first old new jobs job h is limits ready
handed_more first old new jobs (turns.Last job end) h is limits ready = handed_last first old new jobs job end h is limits

module _ (t : Told) (p : Position) (first : PacerState) (all : List JobFields) (jobs : List JobFields) (old new : MasterState) (now later : Told) (before shown : PacerState) where
  -- the run goes on behind a job, or is over behind its last one
  run_more : (turn : Turn) → IsRun t p first (all ++ jobs) None old now before → HandsOut old turn new → HandsOutOfRun t p first old (Ok turn) new later shown → IsRun t p first (all ++ (jobs ++ job_of turn ∷ [])) (end_of turn) new later shown
  run_more (turns.Job job) h is gives =
      let paths = path_more IsJobOf p 0 old.position new.position old.cuts (all ++ jobs) job h.1 gives.1 in (
        gives.0,
        subst (λ (js : List JobFields). HoldsForFirst IsJobOf p new.position 0 new.cuts js) (append_assoc all jobs (job ∷ []))
            (subst (λ (cuts : List ℕ). HoldsForFirst IsJobOf p new.position 0 cuts ((all ++ jobs) ++ job ∷ [])) (sym is.cuts) paths),
      )
  run_more (turns.Last job end) h is gives =
      let paths = paths_all IsJobOf p new.position 0 old.position old.cuts (all ++ jobs) job h.1 gives.1 in (
        gives.0,
        subst (λ (js : List JobFields). HoldsForPaths IsJobOf p new.position 0 new.cuts js) (append_assoc all jobs (job ∷ []))
            (subst (λ (cuts : List ℕ). HoldsForPaths IsJobOf p new.position 0 cuts ((all ++ jobs) ++ job ∷ [])) (sym is.cuts) paths),
      )

-- want of memory where the master stands
pub lacks : (t : Told) (p : Position) (first : PacerState) (all : List JobFields) (end : Option End) (m : MasterState) (told : Told) (now : PacerState) (budget : ℕ) → IsRun t p first all end m told now → and_one end m.position ≤ budget
    → SlicedFail t (record { start = p; budget = budget }) faults.NoMemory told
lacks t p first all None m told now budget h within =
    let run : HasRunTo t p first m told now = h.0 in
    inl (record { steps = m.position; within = within; position = run.position; stands = run.stands; told_is = run.told_is })
lacks t p first all (Some end) m told now budget h within =
    inr (position_at m.position p, end, ends_within t p first (end_by end) m told now budget h.0 (omega (arith, within)))

-- a run before its first step
pub run_none : (t : Told) (p : Position) (first : PacerState) (m : MasterState) (machine : Machine) (limits : Limits) (told : Told) → m ≡ start_at machine limits → told ≡ told_after t p.world [] → HasRunTo t p first m (told_after t p.world []) first
    → IsRun t p first [] None m told first
run_none t p first m machine limits told start is h = (
  subst (λ (k : Told). HasRunTo t p first m k first) (sym is) h,
  subst (λ (k : MasterState). HoldsForFirst IsJobOf p k.position 0 k.cuts []) (sym start) refl,
)

-- These jobs were handed out by a master that stood so, where the run was told so: each run that was made up to there goes on
-- with them to where it is told now.
pub record Fills (first : MasterState) (from : Told) (begin : PacerState) (jobs : List JobFields) (end : Option End) (m : MasterState) (told : Told) (now : PacerState) : Type 0 where
  pub handed : HandsJobs first jobs end m
  pub run : (t : Told) (p : Position) (start : PacerState) (all : List JobFields) → IsRun t p start all None first from begin → IsRun t p start (all ++ jobs) end m told now

-- no job yet
pub fills_none : (m : MasterState) (told : Told) (now : PacerState) (jobs : List JobFields) → m.position ≤ m.limits.budget → m.standing ≡ Ready → jobs ≡ [] → Fills m told now jobs None m told now
fills_none m told now jobs within ready none =
    subst (λ (js : List JobFields). Fills m told now js None m told now) (sym none) (record {
      handed = handed_none m within ready;
      run = λ t p start all h. subst (λ (js : List JobFields). IsRun t p start js None m told now) (sym (append-nil all)) h;
    })

-- the job of one more turn
pub fills_more : {first old new : MasterState} {from told later : Told} {begin now shown : PacerState} {jobs js : List JobFields} {turn shape : Turn} → Fills first from begin jobs None old told now → turn ≡ shape → js ≡ jobs ++ job_of shape ∷ []
    → HandsOut old turn new → StaysReady turn new → new.limits ≡ old.limits
    → ((t : Told) (p : Position) (start : PacerState) → HasRunTo t p start old told now → HandsOutOfRun t p start old (Ok turn) new later shown × StopsWithin (Ok turn) new) → Fills first from begin js (end_of shape) new later shown
fills_more {first} {old} {new} {from} {told} {later} {begin} {now} {shown} {jobs} {js} {turn} {shape} h is items hands ready limits gives =
    let more : Fills first from begin (jobs ++ job_of turn ∷ []) (end_of turn) new later shown = record {
      handed = handed_more first old new jobs turn h.handed hands limits ready;
      run = λ t p start all were.
          let run = h.run t p start all were in run_more t p start all jobs old new told later now shown turn run hands (gives t p start run.0).0;
    } in
    subst (λ (ks : List JobFields). Fills first from begin ks (end_of shape) new later shown) (sym items) (subst (λ (u : Turn). Fills first from begin (jobs ++ job_of u ∷ []) (end_of u) new later shown) is more)

module _ {first m : MasterState} {from told : Told} {begin now : PacerState} {jobs : List JobFields} {end : Option End} (h : Fills first from begin jobs end m told now) where
  -- want of memory behind them
  pub fill_lacks : FillTells first from begin (Err faults.NoMemory) m told now
  fill_lacks = record { gives = λ t p start all were. lacks t p start (all ++ jobs) end m told now first.limits.budget (h.run t p start all were) h.handed.within }

-- a fault of the master behind them
pub fill_fails : {first old new : MasterState} {from told later : Told} {begin now shown : PacerState} {jobs : List JobFields} {fault : RunFault} → Fills first from begin jobs None old told now → new.limits ≡ old.limits
    → ((t : Told) (p : Position) (start : PacerState) → HasRunTo t p start old told now → HandsOutOfRun t p start old (Err fault) new later shown × StopsWithin (Err fault) new) → FillTells first from begin (Err fault) new later shown
fill_fails {first} {old} {new} {from} {told} {later} {begin} {now} {shown} {jobs} {fault} h limits gives = record {
  gives = λ t p start all were.
      let run = h.run t p start all were in
      let stops = gives t p start run.0 in fails t p start old new fault later shown first.limits.budget stops.0 stops.1 (ap (λ (l : Limits). l.budget) (limits ∙ h.handed.limits));
}
