use Rattle.std.proofs.Common.{◌≡◌}
use Rattle.slice_bench.proofs.advance.Given as goal

abbrev pub invariant-loop-step : goal.invariant-loop-step
invariant-loop-step l = (l.guest.frames.count ≡ 16384) × (l.guest.origin ≡ l.initial.guest.origin)
