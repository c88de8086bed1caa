use Rattle.std.proofs.Common.{◌≡◌, ℕ, ◌/◌, ◌<◌, ◌^◌, false, get_or}
use Rattle.slot_table.specs.Slots.{is_changed, slot_at}
use Rattle.cow_pages.specs.Laid.{byte_in, table_byte}
use Rattle.cow_pages.proofs.compare.same_listed.Given as goal

abbrev pub invariant-loop-k : goal.invariant-loop-k
invariant-loop-k l = (j : ℕ) → j < l.k → (a : ℕ) → a < 2 ^ 32 → a / 4096 ≡ get_or l.pages.items j 0 → is_changed (slot_at l.slots (a / 4096)) ≡ false → byte_in l.slots l.pool.bytes l.table a ≡ table_byte l.end a
