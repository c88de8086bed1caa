use Rattle.std.proofs.Common.{◌≡◌, ◌-◌, ◌<◌, ◌≤◌, true, false}
use Rattle.std.specs.List.{AllWithin, HoldsAt}
use Rattle.guest_model.specs.Maps.{ends_low}
use Rattle.guest_mem.proofs.areas.behind_heap.Given as goal

abbrev pub invariant-loop-i : goal.invariant-loop-i
invariant-loop-i l = record {
  none : AllWithin (λ x. ends_low x ≡ false) l.areas l.behind l.i;
  found : 0 < l.behind → HoldsAt (λ x. ends_low x ≡ true) l.areas (l.behind - 1);
  within : l.behind ≤ l.i;
}
