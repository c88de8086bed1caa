use Rattle.std.proofs.Common.{◌≡◌}
use Rattle.pages_bench.proofs.write_pages.Given as goal

abbrev pub invariant-loop-i : goal.invariant-loop-i
invariant-loop-i l = l.pages.origin ≡ l.initial.pages.origin
