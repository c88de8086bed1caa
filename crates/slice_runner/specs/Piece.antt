-- What a slice gives.
use Rattle.std.specs.Prelude.{◌≡◌, ◌≤◌, ℕ, ◌-◌, ◌*◌, List, length}
use Rattle.guest_model.specs.Runs.{state_of}
use Rattle.guest_model.specs.Tests.{HitCounts}
use Rattle.insert_points.specs.Plan.{PlanFields}
use Rattle.insert_points.specs.declared.call.Event.{Event}
use Rattle.tool_law.specs.Law.{KeepsMeaning}
use Rattle.tool_law.specs.declared.piece.Hits.{Hits}
use Rattle.tool_law.specs.declared.piece.Piece.{Piece}
use Rattle.tool_step.specs.Steps.{trace_events}
use Rattle.boundary_verify.specs.Job.{JobFields, path_of}
use Rattle.boundary_verify.specs.Path.{AreHitsOf, IsMatch, path_after, path_trace}

abbrev pub counts_of : Hits → HitCounts
counts_of hits = record { quick = hits.quick; registers = hits.registers; stack = hits.stack; whole = hits.whole }

-- the piece is that of the job's path up to its match, which is at some distance: the local stands for the events of the path's trace, and the numbers
-- are those of its instructions, of its calls, and of the positions that pass the tests. A step has at most 24 events
pub record IsPieceOf {T L S : Type 0} (stands : List Event → L → Type 0) (plan : PlanFields) (job : JobFields) (piece : Piece T L S) : Type 0 where
  pub distance : ℕ
  pub exact : IsMatch (path_of job) distance
  pub index : piece.index ≡ job.index
  pub local : stands (trace_events plan (path_trace (path_of job) distance)) piece.local
  pub few : length (trace_events plan (path_trace (path_of job) distance)) ≤ 24 * distance
  pub steps : piece.steps ≡ length (path_trace (path_of job) distance)
  pub calls : piece.calls ≡ (state_of (path_after (path_of job) distance)).calls - job.position
  pub hits : AreHitsOf (path_of job) distance (counts_of piece.hits)

-- the piece has these numbers, and a local that stands for what the given one stood for
pub record IsPieceWith {T L S : Type 0} (stands : List Event → L → Type 0) (job : JobFields) (local : L) (steps calls : ℕ) (hits : Hits) (piece : Piece T L S) : Type 0 where
  pub index : piece.index ≡ job.index
  pub local_is : KeepsMeaning stands local piece.local
  pub steps_are : piece.steps ≡ steps
  pub calls_are : piece.calls ≡ calls - job.position
  pub hits_are : piece.hits ≡ hits
