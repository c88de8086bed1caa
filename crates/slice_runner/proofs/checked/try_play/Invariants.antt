use Rattle.slice_runner.specs.Checked.{fields_of}
use Rattle.slice_runner.proofs.SoFar.{Tried}
use Rattle.slice_runner.proofs.checked.try_play.Given as goal

abbrev pub invariant-loop-steps : goal.invariant-loop-steps
invariant-loop-steps l = Tried (fields_of l.draft) l.frames l.steps l.guest l.calls
