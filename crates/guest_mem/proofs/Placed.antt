-- An area that the loader adds: below the break and before the heap, or above the maps.
use Rattle.std.proofs.Common.{◌≡◌, ℕ, ◌+◌, ◌-◌, ◌/◌, ◌<◌, ◌≤◌, ◌⊎◌, true, false, List, length, inl, inr, ◌∙◌, arith}
use Rattle.std.specs.List.{IsAfterLastMatch, insert}
use Rattle.std.proofs.lemmas.Bool.{cases_lt}
use Rattle.std.proofs.lemmas.Bool.Decides.{nat_tests}
use Rattle.guest_model.specs.Added.{mapped_pages, area_size}
use Rattle.guest_model.specs.Areas.{holds, rounded_up}
use Rattle.guest_model.specs.Maps.{ends_low}
use Rattle.guest_model.specs.declared.platform.TheConstants.{MAPS_START, MAPS_END}
use Rattle.guest_model.specs.declared.Area.{Area}
use Rattle.cow_pages.specs.Contents.{Contents}
use Rattle.guest_mem.specs.Memory.{IsApart}
use Rattle.guest_mem.specs.Sound.{IsSound, IsOnOneSide, is_unused}
use Rattle.guest_model.specs.Valid.{IsWhole}
use Rattle.guest_mem.specs.declared.rights.Rights.{Rights}
use Rattle.guest_mem.proofs.Added.{IsAdded, all_insert, is_mapped-insert, is_permitted-insert, pages_insert}
use Rattle.guest_mem.proofs.Heap.{heap_low, heap_with_before, heap_with_high, some_behind, not_low, rounded_bound}

-- what the loader is told of a new area
pub record IsNew (x : Area) (xs : List Area) (heap_break : ℕ) : Type 0 where
  pub whole : IsWhole x
  pub apart : IsApart x xs
  pub place : (x.end ≤ heap_break) ⊎ (0x7FE00000 ≤ x.start)
  pub few : mapped_pages xs + area_size x / 4096 ≤ 16384

low_unused : (x : Area) (brk next a : ℕ) → x.end ≤ brk → MAPS_START ≤ next → brk ≤ MAPS_START → is_unused brk next a ≡ true → holds x a ≡ false
low_unused x brk next a le low bound h = grind (arith, nat_tests)

high_unused : (x : Area) (brk next a : ℕ) → MAPS_END ≤ x.start → is_unused brk next a ≡ true → holds x a ≡ false
high_unused x brk next a le h = grind (arith, nat_tests)

-- n is the place behind the heap
pub added_new : (x : Area) (xs : List Area) (rights : List Rights) (pages : Contents) (brk next i n : ℕ) → IsSound xs rights pages brk next → IsNew x xs brk
    → IsAfterLastMatch ends_low xs n → n ≤ length xs → (x.end ≤ MAPS_START → i < n) → IsAdded x xs (insert xs i x) brk next brk next
added_new x xs rights pages brk next i n sound new last within before =
    let bound = sound.heap_bound in
    let next_low = sound.next.low in
    let order = new.whole.order in
    let some = some_behind xs n last (heap_low (rounded_up brk) xs sound.heap (rounded_bound brk bound)) in
    record {
      whole = new.whole;
      apart = new.apart;
      mapped = is_mapped-insert xs i x;
      permitted = λ access. is_permitted-insert access xs i x;
      all_whole = all_insert IsWhole xs i x new.whole sound.whole;
      few_pages = omega (arith, pages_insert xs i x, new.few);
      sides = all_insert IsOnOneSide xs i x (elim new.place [ inl low ↦ inl (omega arith) | inr high ↦ inr (omega arith) ]) sound.sides;
      heap_bound = bound;
      heap = elim (cases_lt MAPS_START x.end) [
        | inl high ↦ heap_with_high (rounded_up brk) xs i x (not_low x high) (rounded_bound brk bound) sound.heap
        | inr low ↦ heap_with_before (rounded_up brk) xs i (n - 1) x x (omega arith) (last.1 some x) (let lt = before low in omega arith) ∙ sound.heap
      ];
      next = sound.next;
      unused = λ a h. (h, elim new.place [ inl low ↦ low_unused x brk next a low next_low bound h | inr high ↦ high_unused x brk next a high h ]);
    }
