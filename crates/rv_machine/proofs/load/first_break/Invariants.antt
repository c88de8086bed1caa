use Rattle.std.proofs.Common.{◌≡◌, take}
use Rattle.rv_machine.specs.Load.{first_break}
use Rattle.rv_machine.proofs.load.first_break.Given as goal

-- the greatest end so far
abbrev pub invariant-loop-segment : goal.invariant-loop-segment
invariant-loop-segment l = l.heap ≡ first_break (take l.segment-index l.segments)
