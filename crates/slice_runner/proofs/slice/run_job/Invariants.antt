use Rattle.slice_runner.specs.Piece.{counts_of}
use Rattle.boundary_verify.specs.Job.{path_of}
use Rattle.slice_runner.proofs.SoFar.{Heard, Played, Tested}
use Rattle.slice_runner.proofs.slice.run_job.Given as goal

abbrev pub invariant-loop-turn : goal.invariant-loop-turn
invariant-loop-turn g l = record {
  played : Played l.job l.job.peak l.turn l.guest l.calls;
  heard : Heard (g.T.Tool.is_local l.tool) l.plan (path_of l.job) l.turn l.local;
  tested : Tested l.job l.turn (counts_of l.hits);
}
