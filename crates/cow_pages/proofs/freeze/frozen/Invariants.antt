use Rattle.std.proofs.Common.{◌≡◌, ◌-◌, ◌<◌, ◌≤◌, ◌^◌, true}
use Rattle.slot_table.specs.Slots.{is_changed, slot_at}
use Rattle.cow_pages.proofs.Tables.{FrozenBelow, NamedBelow}
use Rattle.cow_pages.proofs.freeze.frozen.Given as goal

abbrev pub invariant-loop-page : goal.invariant-loop-page
invariant-loop-page l = record {
  end : l.page ≤ 2 ^ 20;
  some : l.page < 2 ^ 20 → is_changed (slot_at l.slots l.page) ≡ true;
  below : FrozenBelow l.slots l.pool.bytes l.table l.frozen l.page;
  named : NamedBelow l.slots l.changed.items l.page;
}

abbrev pub decreases-loop-page : goal.decreases-loop-page
decreases-loop-page l = 1048576 - l.page
