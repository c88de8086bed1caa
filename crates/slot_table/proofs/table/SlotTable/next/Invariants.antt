use Rattle.std.proofs.Common.{◌≡◌, ℕ, ◌-◌, ◌<◌, ◌≤◌, ◌^◌, false}
use Rattle.slot_table.specs.Slots.{is_changed, slot_at}
use Rattle.slot_table.proofs.table.SlotTable.next.Given as goal

abbrev pub invariant-loop-page : goal.invariant-loop-page
invariant-loop-page l = record {
  from : l.from ≤ l.page;
  end : l.page ≤ 2 ^ 20;
  none : (q : ℕ) → l.from ≤ q → q < l.page → is_changed (slot_at l.self q) ≡ false;
}

abbrev pub decreases-loop-page : goal.decreases-loop-page
decreases-loop-page l = 1048576 - l.page
