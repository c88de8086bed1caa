use Rattle.std.proofs.Common.{◌≡◌, ◌<◌, ◌≤◌, ◌+◌, ◌%◌, ◌^◌, ℕ, get_or}
use Rattle.tool_counts.proofs.op_mix.add_counts.Given as goal

abbrev pub invariant-loop-k : goal.invariant-loop-k
invariant-loop-k l = record {
  done : (k : ℕ) → k < l.k → get_or l.counts k 0 ≡ (get_or l.fn.counts k 0 + get_or l.more k 0) % 2 ^ 64;
  rest : (k : ℕ) → l.k ≤ k → get_or l.counts k 0 ≡ get_or l.fn.counts k 0;
}
