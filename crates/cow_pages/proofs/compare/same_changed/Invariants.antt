use Rattle.std.proofs.Common.{◌≡◌, ℕ, ◌-◌, ◌/◌, ◌<◌, ◌≤◌, ◌^◌, true}
use Rattle.slot_table.specs.Slots.{is_changed, slot_at}
use Rattle.cow_pages.specs.Laid.{byte_in, table_byte}
use Rattle.cow_pages.proofs.compare.same_changed.Given as goal

abbrev pub invariant-loop-page : goal.invariant-loop-page
invariant-loop-page l = record {
  end : l.page ≤ 2 ^ 20;
  some : l.page < 2 ^ 20 → is_changed (slot_at l.slots l.page) ≡ true;
  same : (a : ℕ) → a / 4096 < l.page → is_changed (slot_at l.slots (a / 4096)) ≡ true → byte_in l.slots l.pool.bytes l.table a ≡ table_byte l.end a;
}

abbrev pub decreases-loop-page : goal.decreases-loop-page
decreases-loop-page l = 1048576 - l.page
