-- What a run that is cut into slices answers, and what it does to what a host tells and to what a pacer shows.
use Rattle.std.specs.Prelude.{◌≡◌, ◌⊎◌, ℕ, ◌/◌, ◌<◌, ◌≤◌, Bool, false, List, map, Option, Result, Ok, Err}
use Rattle.std.specs.List.{flat_map}
use Rattle.sp_host.specs.Tally.{Tally}
use Rattle.sp_host.specs.Told.{Told}
use Rattle.guest_model.specs.Runs.{Running}
use Rattle.guest_model.specs.Serial.{Position, TraceItem, run_of, sent_of, trace_of}
use Rattle.guest_model.specs.Serial as serial
use Rattle.boundary_verify.specs.Cuts.{AreCuts}
use Rattle.boundary_verify.specs.Lines.{AreLines, Line}
use Rattle.master_run.specs.Answers.{HasAnswered, PacerState}
use Rattle.master_run.specs.Master.{limits_of}
use Rattle.master_run.specs.declared.limits.Limits.{Limits}
use Rattle.ordered_merge.specs.declared.finished.Finished.{Finished}
use Rattle.ordered_merge.specs.declared.merger.SliceLine.{SliceLine}
use Rattle.rv_machine.specs.declared.step.End.{End}
use Rattle.serial_run.specs.Run.{EndsAt, RunFails}
use Rattle.serial_run.specs.Start.{Run}
use Rattle.slice_runner.specs.Piece.{counts_of}
use Rattle.sp_report.specs.Lines.{end_by}
use Rattle.syscall_layer.specs.Serve.{told_after}
use Rattle.syscall_layer.specs.declared.fault.RunFault.{RunFault}
use Rattle.syscall_layer.specs.declared.fault.RunFault.TheVariants as faults

-- a pacer that shows this
abbrev pub shows : ℕ → Tally → Option (ℕ → Bool) → PacerState
shows period tally answers = record { period = period; tally = tally; answers = answers }

-- what is told of a slice, as a line of its run
abbrev pub line_by : SliceLine → Line
line_by l = record { steps = l.steps; calls = l.calls; hits = counts_of l.hits }

-- A run came to its end: how it ended, what the state stands for, where the run was cut, its lines, and what is told then. The
-- cuts are those that the pacer's answers and the limits make due, and no other.
pub record SlicedEnd {T L S : Type 0} (is_value : List TraceItem → S → Type 0) (t : Told) (limits : Limits) (r : Run) (first : PacerState) (f : Finished T L S) (new : Told) (now : PacerState) : Type 0 where
  pub last : Position
  pub ends : EndsAt t r last (end_by f.end) new
  pub value : is_value (trace_of r.budget r.start) f.shared
  -- the last position of the run
  pub steps : ℕ
  pub within : steps < r.budget
  pub by_step : serial.EndsAt r.start steps (end_by f.end)
  pub answers : ℕ → Bool
  pub answered : HasAnswered answers (steps / limits.poll) first now
  pub cuts : AreCuts (limits_of limits) answers r.start steps f.cuts.items
  pub lines : AreLines r.start steps 0 f.cuts.items (map line_by f.lines.items)

-- the outside stands between two steps of the run, or before its first one
pub record StandsBetween (t : Told) (r : Run) (new : Told) : Type 0 where
  pub steps : ℕ
  pub within : steps ≤ r.budget
  pub position : Position
  pub stands : run_of steps r.start ≡ Running position
  pub told_is : new ≡ told_after t position.world (sent_of steps r.start)

-- What a run that did not come to an end answers, and what is told then: what the serial run does, but for want of memory, which
-- comes between two steps of the run or behind its end.
abbrev pub SlicedFail : Told → Run → RunFault → Told → Type 0
SlicedFail t r (faults.Unsupported number pc) new = RunFails false t r (faults.Unsupported number pc) new
SlicedFail t r (faults.BudgetSpent n) new = RunFails false t r (faults.BudgetSpent n) new
SlicedFail t r faults.InputFault new = RunFails false t r faults.InputFault new
SlicedFail t r (faults.OutputFault port) new = RunFails false t r (faults.OutputFault port) new
SlicedFail t r faults.NoMemory new = StandsBetween t r new ⊎ ((last : Position) × (end : End) × EndsAt t r last (end_by end) new)

abbrev pub SlicedGives : {T L S : Type 0} → (List TraceItem → S → Type 0) → Told → Limits → Run → PacerState → Result (Finished T L S) RunFault → Told → PacerState → Type 0
SlicedGives is_value t limits r first (Ok f) new now = SlicedEnd is_value t limits r first f new now
SlicedGives is_value t limits r first (Err fault) new now = SlicedFail t r fault new

-- the trace of pieces, one after the other
abbrev pub joined_items : List (List TraceItem) → List TraceItem
joined_items pieces = flat_map (λ items. items) pieces
