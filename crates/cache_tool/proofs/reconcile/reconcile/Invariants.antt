use Rattle.std.proofs.Common.{◌≡◌, ◌≤◌, length}
use Rattle.tool_parts.proofs.Pairs.{IsSumming, IsZipping}
use Rattle.cache_tool.specs.Slice.{first_hits, first_misses, kept_after}
use Rattle.cache_tool.proofs.reconcile.reconcile.Given as goal

abbrev pub invariant-loop-at : goal.invariant-loop-at
invariant-loop-at l = record {
  few_hits : l.hits ≤ l.at;
  few_misses : l.misses ≤ l.at;
  kept : length l.fn.kept.items ≡ length l.touched → IsZipping kept_after l.touched l.fn.kept.items l.kept.items l.at;
  hit : length l.fn.kept.items ≡ length l.touched → IsSumming kept_after l.touched l.fn.kept.items first_hits l.kept.items l.at l.hits;
  missed : length l.fn.kept.items ≡ length l.touched → IsSumming kept_after l.touched l.fn.kept.items first_misses l.kept.items l.at l.misses;
}
