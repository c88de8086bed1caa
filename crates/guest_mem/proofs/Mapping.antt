-- A new map.
use Rattle.std.proofs.Common.{◌≡◌, ℕ, ◌+◌, ◌-◌, ◌*◌, ◌/◌, ◌%◌, ◌<◌, ◌≤◌, true, false, cond, List, [], get_or, inr, ap, ◌∙◌, arith}
use Rattle.std.specs.List.{insert, position_or_len}
use Rattle.std.proofs.lemmas.Bool.Decides.{nat_tests}
use Rattle.guest_model.specs.Added.{comes_before, with_area, mapped_pages, area_size}
use Rattle.guest_model.specs.Areas.{holds, is_mapped, rounded_up}
use Rattle.guest_model.specs.Maps.{map_area, mapped}
use Rattle.guest_model.specs.declared.platform.TheConstants.{MAPS_START, MAPS_END}
use Rattle.guest_model.specs.Space.{Space}
use Rattle.guest_model.specs.declared.Area.{Area}
use Rattle.cow_pages.specs.Contents.{Contents}
use Rattle.frame_pool.specs.Bytes.{is_among}
use Rattle.guest_mem.specs.Mapped.{space_over}
use Rattle.guest_mem.specs.Sound.{IsSound, IsOnOneSide, is_unused}
use Rattle.guest_model.specs.Valid.{IsWhole}
use Rattle.guest_mem.specs.declared.rights.Rights.{Rights}
use Rattle.guest_mem.proofs.Added.{IsAdded, IsWithin, all_insert, is_mapped-insert, is_permitted-insert, pages_insert, space_added}
use Rattle.guest_mem.proofs.Heap.{heap_with_high, not_low, rounded_bound}

-- nothing is given, so each byte stays
pub none_given : (at : ℕ) (all : List ℕ) (q : ℕ) → get_or all q 0 ≡ cond (is_among at 0 q) (get_or [] (q - at) 0) (get_or all q 0)
none_given at all q = grind (arith, nat_tests)

-- a range where maps will stand
pub map_unused : (x : Area) (brk next a : ℕ) → next ≤ x.start → x.end ≤ MAPS_END → holds x a ≡ true → is_unused brk next a ≡ true
map_unused x brk next a le end h = grind (arith, nat_tests)

later_unused : (x : Area) (brk next a : ℕ) → x.start ≡ next → next ≤ x.end → MAPS_START ≤ next → is_unused brk x.end a ≡ true → (is_unused brk next a ≡ true) × (holds x a ≡ false)
later_unused x brk next a start order low h = (grind (arith, nat_tests), grind (arith, nat_tests))

-- what is known of a new map
pub record IsNewMap (x : Area) (xs : List Area) (next_map : ℕ) : Type 0 where
  pub start : x.start ≡ next_map
  pub some : x.start < x.end
  pub page : x.end % 4096 ≡ 0
  pub within : x.end ≤ MAPS_END
  pub few : mapped_pages xs + area_size x / 4096 ≤ 16384

pub map_added : (x : Area) (xs : List Area) (rights : List Rights) (pages : Contents) (brk next i : ℕ) → IsSound xs rights pages brk next → IsNewMap x xs next → IsAdded x xs (insert xs i x) brk next brk x.end
map_added x xs rights pages brk next i sound new =
    let start = new.start in
    let some = new.some in
    let page = new.page in
    let within = new.within in
    let next_page = sound.next.page in
    let next_low = sound.next.low in
    let bound = sound.heap_bound in
    let whole : IsWhole x = record { start = omega arith; end = page; order = omega arith; fits = omega arith } in
    record {
      whole = whole;
      apart = λ a h. sound.unused_free a (map_unused x brk next a (omega arith) within h);
      mapped = is_mapped-insert xs i x;
      permitted = λ access. is_permitted-insert access xs i x;
      all_whole = all_insert IsWhole xs i x whole sound.whole;
      few_pages = omega (arith, pages_insert xs i x, new.few);
      sides = all_insert IsOnOneSide xs i x (inr (omega arith)) sound.sides;
      heap_bound = bound;
      heap = heap_with_high (rounded_up brk) xs i x (not_low x (omega arith)) (rounded_bound brk bound) sound.heap;
      next = record { page = page; low = omega arith; high = within };
      unused = λ a h. later_unused x brk next a start (omega arith) next_low h;
    }

pub map_unwritten : (x : Area) (xs : List Area) (rights : List Rights) (pages : Contents) (brk next : ℕ) → IsSound xs rights pages brk next → IsNewMap x xs next
    → (page : ℕ) → holds x (4096 * page) ≡ true → get_or pages.frames.written page false ≡ false
map_unwritten x xs rights pages brk next sound new page h = let start = new.start in sound.unused_unwritten page (map_unused x brk next (4096 * page) (omega arith) new.within h)

pub space_mapped : (s : Space) (xs : List Area) (all : List ℕ) (brk next i size prot : ℕ) → space_over xs all brk next ≡ s → i ≡ position_or_len (comes_before (map_area next size prot)) xs
    → ((a : ℕ) → is_mapped xs a ≡ false → get_or all a 0 ≡ 0) → IsAdded (map_area next size prot) xs (insert xs i (map_area next size prot)) brk next brk (next + size) → 0 < size
    → space_over (insert xs i (map_area next size prot)) all brk (next + size) ≡ mapped s size prot
space_mapped s xs all brk next i size prot e place rest added some =
    let inside : IsWithin (map_area next size prot) next 0 = record { from = omega arith; within = omega arith } in
    ap (λ (t : Space). let u : Space = record t { next_map = next + size } in u)
    (space_added s (map_area next size prot) xs all all brk next brk (next + size) i next [] e place rest added inside (none_given next all))
    ∙ ap (λ (t : Space). let u : Space = record (with_area s (map_area t.next_map size prot) t.next_map []) { next_map = t.next_map + size } in u) e
