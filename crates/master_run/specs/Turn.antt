-- What a master hands out.
use Rattle.std.specs.Prelude.{◌≡◌, ℕ, ◌+◌, ◌-◌, ◌/◌, ◌<◌, ◌≤◌, Bool, List, [], ◌∷◌, ◌++◌, length, Result, Ok, Err}
use Rattle.sp_host.specs.Told.{Told}
use Rattle.guest_model.specs.Call.{Sent}
use Rattle.guest_model.specs.Play.{spot, written_of}
use Rattle.guest_model.specs.Range.{pages_among}
use Rattle.guest_model.specs.Runs.{Running}
use Rattle.guest_model.specs.Serial.{End, EndsAt, Position, Unsupported, position_at, run_of, sent_at, sent_of}
use Rattle.sp_report.specs.Lines.{end_by}
use Rattle.syscall_layer.specs.Serve.{PartWritten, told_after}
use Rattle.syscall_layer.specs.Step.{StopsInput}
use Rattle.syscall_layer.specs.declared.fault.RunFault.{RunFault}
use Rattle.syscall_layer.specs.declared.fault.RunFault.TheVariants as faults
use Rattle.boundary_verify.specs.Cuts.{AreCuts}
use Rattle.boundary_verify.specs.Job.{JobFields, Lasts, boundary_of, path_of}
use Rattle.boundary_verify.specs.Path.{At, AtEnd, IsMatch, last_path, path_between}
use Rattle.master_run.specs.Answers.{HasAnswered, PacerState}
use Rattle.master_run.specs.Master.{HasRunTo, MasterState, Over, Ready, limits_of}
use Rattle.master_run.specs.declared.master.Turn.{Turn}
use Rattle.master_run.specs.declared.master.Turn.TheVariants.{Job, Last}

-- the job starts where the master stood, has the next number, and writes so many pages in so many steps
pub record StartsAt (old : MasterState) (steps : ℕ) (job : JobFields) : Type 0 where
  pub index : job.index ≡ length old.cuts
  pub start : job.start.machine ≡ old.machine
  pub position : job.position ≡ old.calls
  pub lasts : Lasts (path_of job) job.peak steps
  pub peak : job.peak ≡ pages_among (written_of (path_of job).script steps (path_of job).start)

-- the job ends at the next cut, at which the master stands now
pub record EndsAtCut (old : MasterState) (job : JobFields) (new : MasterState) : Type 0 where
  pub starts : StartsAt old (new.position - old.position) job
  pub later : old.position < new.position
  pub within : new.position ≤ old.limits.budget
  pub end : boundary_of job.end ≡ At (spot new.machine new.calls)
  pub cuts : new.cuts ≡ old.cuts ++ new.position ∷ []
  pub ready : new.standing ≡ Ready

-- the job ends with the run, the last position of which is now the master's
pub record EndsWithRun (old : MasterState) (job : JobFields) (new : MasterState) : Type 0 where
  pub starts : StartsAt old (new.position + 1 - old.position) job
  pub later : old.position ≤ new.position
  pub within : new.position < old.limits.budget
  pub end : boundary_of job.end ≡ AtEnd
  pub cuts : new.cuts ≡ old.cuts
  pub over : new.standing ≡ Over

-- whatever the host is
abbrev pub HandsOut : MasterState → Turn → MasterState → Type 0
HandsOut old (Job job) new = EndsAtCut old job new
HandsOut old (Last job end) new = EndsWithRun old job new

-- the match of a job that ends at a cut is at most so many steps, also in a run that never ends
abbrev pub IsMetWithin : ℕ → Turn → Type 0
IsMetWithin distance (Job job) = (s : ℕ) → IsMatch (path_of job) s → s ≤ distance
IsMetWithin distance (Last job end) = Unit {0}

-- the pacer was asked up to the master's position, and no cut is missing up to there
pub record HasAllCuts (p : Position) (first : PacerState) (new : MasterState) (now : PacerState) : Type 0 where
  pub answers : ℕ → Bool
  pub answered : HasAnswered answers (new.position / new.limits.poll) first now
  pub cuts : AreCuts (limits_of new.limits) answers p new.position new.cuts

-- the run ended so, by the step from the master's position
pub record RunIsOver (t : Told) (p : Position) (first : PacerState) (end : End) (new : MasterState) (told : Told) (now : PacerState) : Type 0 where
  pub ends : EndsAt p new.position end
  pub within : new.position < new.limits.budget
  pub told_is : told ≡ told_after t (position_at new.position p).world (sent_of (new.position + 1) p)
  pub all : HasAllCuts p first new now

-- the step from the master's position was not made
pub record RunStops (p : Position) (first : PacerState) (new : MasterState) (now : PacerState) (P : Position → List Sent → Type 0) : Type 0 where
  pub position : Position
  pub stands : run_of new.position p ≡ Running position
  pub within : new.position < new.limits.budget
  pub holds : P position (sent_of new.position p)
  pub all : HasAllCuts p first new now

-- the budget is spent at the master's position, which is no cut that was not handed out
pub record RunIsSpent (t : Told) (p : Position) (first : PacerState) (n : ℕ) (new : MasterState) (told : Told) (now : PacerState) : Type 0 where
  pub position : Position
  pub stands : run_of new.position p ≡ Running position
  pub whole : new.position ≡ new.limits.budget
  pub budget : n ≡ new.limits.budget
  pub told_is : told ≡ told_after t position.world (sent_of new.position p)
  pub all : HasAllCuts p first new now

-- memory was wanting at the master's position
pub record RunLacks (t : Told) (p : Position) (new : MasterState) (told : Told) : Type 0 where
  pub position : Position
  pub stands : run_of new.position p ≡ Running position
  pub within : new.position ≤ new.limits.budget
  pub told_is : told ≡ told_after t position.world (sent_of new.position p)

-- What is handed out of the run from p where it is told, and what is told then: the path of the job is that between the last cut
-- and the next one, or to the end of the run; or why the run came to neither.
abbrev pub HandsOutOfRun : Told → Position → PacerState → MasterState → Result Turn RunFault → MasterState → Told → PacerState → Type 0
HandsOutOfRun t p first old (Ok (Job job)) new told now = HasRunTo t p first new told now × (path_of job ≡ path_between p old.position new.position)
HandsOutOfRun t p first old (Ok (Last job end)) new told now = RunIsOver t p first (end_by end) new told now × (path_of job ≡ last_path p old.position new.position)
HandsOutOfRun t p first old (Err (faults.Unsupported number pc)) new told now = RunIsOver t p first (Unsupported number pc) new told now
HandsOutOfRun t p first old (Err (faults.BudgetSpent n)) new told now = RunIsSpent t p first n new told now
HandsOutOfRun t p first old (Err faults.InputFault) new told now = RunStops p first new now (λ q before. StopsInput t q before told)
HandsOutOfRun t p first old (Err (faults.OutputFault port)) new told now = RunStops p first new now (λ q before. PartWritten t q.world before port (sent_at q) told)
HandsOutOfRun t p first old (Err faults.NoMemory) new told now = RunLacks t p new told
