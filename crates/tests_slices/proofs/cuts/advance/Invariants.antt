use Rattle.std.proofs.Common.{◌≡◌}
use Rattle.tests_slices.proofs.cuts.advance.Given as goal

abbrev pub invariant-loop-i : goal.invariant-loop-i
invariant-loop-i l = (l.guest.frames.count ≡ 16384) × (l.guest.origin ≡ l.initial.guest.origin)
