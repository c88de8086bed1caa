use Rattle.std.proofs.Common.{◌≡◌, ◌<◌, ◌^◌, ℕ, nat_eq}
use Rattle.std.specs.FinMap as table
use Rattle.std.specs.List.{IsDistinct}
use Rattle.std.specs.Map.{keys_of, lookup}
use Rattle.std.specs.Prelude.{unwrap_or}
use Rattle.tool_counts.specs.Profile.{Counts, both}
use Rattle.tool_counts.proofs.Tallies.{IsAdding}
use Rattle.tool_counts.proofs.block_profile.add_all.Given as goal

abbrev pub invariant-loop-head : goal.invariant-loop-head
invariant-loop-head l = record {
  can : (goal.iterator-loop-head).can_next l.head-iterator;
  ends : (goal.iterator-loop-head).is_finite l.head-iterator;
  distinct : IsDistinct nat_eq (keys_of l.head-iterator);
  adding : (t : Counts) → l.initial.counts.entries ≡ table.entries t
      → ((q : ℕ) → unwrap_or (both (table.get t q) (lookup (nat_eq q) l.more.entries)) 0 < 2 ^ 64)
      → (u : Counts) × IsAdding t u l.more.entries l.counts.entries l.head-iterator;
}
