-- The jobs that a master handed out, and the pieces of those that were run and merged.
use Rattle.std.specs.Prelude.{◌≡◌, ℕ, ◌+◌, ◌-◌, ◌*◌, ◌<◌, ◌≤◌, List, [], ◌∷◌, ◌++◌, length, map, Option, None, Some, Result, Ok, Err, IfOk}
use Rattle.std.specs.List.{AllZip}
use Rattle.std.specs.declared.alloc.AllocError.{AllocError}
use Rattle.sp_host.specs.Told.{Told}
use Rattle.guest_model.specs.Serial.{Position, TraceItem}
use Rattle.insert_points.specs.Plan.{PlanFields}
use Rattle.insert_points.specs.declared.call.Event.{Event}
use Rattle.boundary_verify.specs.Job.{JobFields, Lasts, path_of}
use Rattle.boundary_verify.specs.Lines.{IsLineOf}
use Rattle.boundary_verify.specs.Path.{Path}
use Rattle.boundary_verify.specs.Pieces.{HoldsForFirst, HoldsForPaths, IsPiece}
use Rattle.master_run.specs.Answers.{PacerState}
use Rattle.master_run.specs.Master.{HasRunTo, MasterState, Ready}
use Rattle.master_run.specs.Turn.{RunIsOver}
use Rattle.ordered_merge.specs.declared.merger.SliceLine.{SliceLine}
use Rattle.rv_machine.specs.declared.step.End.{End}
use Rattle.slice_runner.specs.Piece.{IsPieceOf}
use Rattle.sp_report.specs.Lines.{end_by}
use Rattle.syscall_layer.specs.declared.fault.RunFault.{RunFault}
use Rattle.tool_law.specs.declared.piece.Piece.{Piece}
use Rattle.tool_step.specs.Steps.{trace_events}
use Rattle.sliced_run.specs.Sliced.{SlicedFail, joined_items, line_by}
use Rattle.window_run.specs.declared.window.Window.{Window}

-- jobs with the numbers from n on, of as many steps as lie between neighbouring positions from b up to e
abbrev pub AreJobs : ℕ → ℕ → List JobFields → ℕ → Type 0
AreJobs n b [] e = b ≡ e
AreJobs n b (job ∷ jobs) e = (c : ℕ) × (job.index ≡ n) × (b < c) × Lasts (path_of job) job.peak (c - b) × AreJobs (n + 1) c jobs e

-- one more, where the run ended
abbrev pub and_one : Option End → ℕ → ℕ
and_one None n = n
and_one (Some end) n = n + 1

abbrev pub IsReady : Option End → MasterState → Type 0
IsReady None m = m.standing ≡ Ready
IsReady (Some end) m = Unit {0}

-- The jobs were handed out by a master that stood so, and they end where it stands now, or with its run. Each but the last one
-- of a run ends at a cut.
pub record HandsJobs (old : MasterState) (jobs : List JobFields) (end : Option End) (new : MasterState) : Type 0 where
  pub are : AreJobs (length old.cuts) old.position jobs (and_one end new.position)
  pub count : length old.cuts + length jobs ≡ and_one end (length new.cuts)
  pub within : and_one end new.position ≤ old.limits.budget
  pub limits : new.limits ≡ old.limits
  pub ready : IsReady end new

-- the job is that of the path
abbrev pub IsJobOf : Path → JobFields → Type 0
IsJobOf path job = path_of job ≡ path

-- the run was made up to where the master stands, or ended there, and all its jobs so far are these
abbrev pub IsRun : Told → Position → PacerState → List JobFields → Option End → MasterState → Told → PacerState → Type 0
IsRun t p first all None m told now = HasRunTo t p first m told now × HoldsForFirst IsJobOf p m.position 0 m.cuts all
IsRun t p first all (Some end) m told now = RunIsOver t p first (end_by end) m told now × HoldsForPaths IsJobOf p m.position 0 m.cuts all

abbrev pub FillGives : Told → Position → PacerState → List JobFields → ℕ → Result Window RunFault → MasterState → Told → PacerState → Type 0
FillGives t p first all budget (Ok w) m told now = IsRun t p first (all ++ w.jobs.items) w.end m told now
FillGives t p first all budget (Err fault) m told now = SlicedFail t (record { start = p; budget = budget }) fault told

-- what filling a window tells, where the run so far is told
pub record FillTells (old : MasterState) (from : Told) (before : PacerState) (result : Result Window RunFault) (m : MasterState) (told : Told) (now : PacerState) : Type 0 where
  pub gives : (t : Told) (p : Position) (first : PacerState) (all : List JobFields) → IsRun t p first all None old from before → FillGives t p first all old.limits.budget result m told now

module _ {L S : Type 0} (stands : List Event → L → Type 0) (is_value : List Event → S → Type 0) (plan : PlanFields) where
  -- the state stands for the pieces of these jobs, which have e steps, and the lines are theirs
  pub record HasMerged (jobs : List JobFields) (e : ℕ) (shared : S) (lines : List SliceLine) : Type 0 where
    pub pieces : List (List TraceItem)
    pub are_pieces : AllZip (λ items job. IsPiece (path_of job) items) pieces jobs
    pub are_lines : AllZip (λ line job. IsLineOf (path_of job) line) (map line_by lines) jobs
    pub value : is_value (trace_events plan (joined_items pieces)) shared
    pub few : length (trace_events plan (joined_items pieces)) ≤ 24 * e

  -- the pieces of these jobs, of positions up to f, were merged behind those of the jobs before them
  pub record MergesJobs (jobs : List JobFields) (f : ℕ) (old : S) (before : List SliceLine) (new : S) (lines : List SliceLine) : Type 0 where
    pub count : length lines ≡ length before + length jobs
    pub merged : (done : List JobFields) (e : ℕ) → AreJobs (length before) e jobs f → HasMerged done e old before → HasMerged (done ++ jobs) f new lines

-- what a slice gave is the piece of its job, where it gave one
abbrev pub IsResultOf : {T L S : Type 0} → (List Event → L → Type 0) → PlanFields → JobFields → Result (Piece T L S) AllocError → Type 0
IsResultOf stands plan job r = IfOk r (IsPieceOf stands plan job)
