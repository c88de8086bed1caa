use Rattle.std.proofs.Common.{◌≡◌, ◌+◌, ◌-◌, ◌≤◌, ◌<◌, ◌%◌, length}
use Rattle.cow_pages.proofs.Placed.{PlacedTo}
use Rattle.cow_pages.proofs.place.placed_table.Given as goal

abbrev pub invariant-loop-done : goal.invariant-loop-done
invariant-loop-done l = record {
  inside : l.done ≤ length l.source;
  start : 0 < l.done → l.done < length l.source → (l.at + l.done) % 4096 ≡ 0;
  bytes : PlacedTo l.table l.placed l.source l.at l.done;
}

abbrev pub decreases-loop-done : goal.decreases-loop-done
decreases-loop-done l = length l.source - l.done
