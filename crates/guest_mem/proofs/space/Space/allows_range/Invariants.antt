use Rattle.std.proofs.Common.{◌≡◌, ℕ, ◌-◌, ◌<◌, ◌≤◌, true}
use Rattle.guest_model.specs.Areas.{is_permitted}
use Rattle.guest_mem.proofs.space.Space.allows_range.Given as goal

abbrev pub invariant-loop-from : goal.invariant-loop-from
invariant-loop-from l = record {
  start : l.at ≤ l.from;
  bound : l.from ≤ 4294967296;
  permitted : (q : ℕ) → l.at ≤ q → q < l.from → is_permitted l.access l.self.space.areas q ≡ true;
}

abbrev pub decreases-loop-from : goal.decreases-loop-from
decreases-loop-from l = l.end - l.from
