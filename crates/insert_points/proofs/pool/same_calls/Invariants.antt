use Rattle.std.proofs.Common.{◌≡◌, take}
use Rattle.insert_points.proofs.pool.same_calls.Given as goal

abbrev pub invariant-loop-k : goal.invariant-loop-k
invariant-loop-k l = take l.k l.a ≡ take l.k l.b
