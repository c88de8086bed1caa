use Rattle.std.proofs.Common.{◌≡◌, ℕ, ◌-◌, ◌≤◌, ◌^◌, cond, length}
use Rattle.frame_pool.specs.Bytes.{is_among}
use Rattle.slot_table.specs.declared.slot.Slot.TheVariants.{Placed}
use Rattle.slot_table.specs.Slots.{slot_at}
use Rattle.cow_pages.proofs.place.mark_placed.Given as goal

abbrev pub invariant-loop-page : goal.invariant-loop-page
invariant-loop-page l = record {
  from : l.from ≤ l.page;
  len : length l.slots ≡ 2 ^ 20;
  slots : (q : ℕ) → slot_at l.slots q ≡ cond (is_among l.from (l.page - l.from) q) Placed (slot_at l.initial.slots q);
}
