-- A heap that grows.
use Rattle.std.proofs.Common.{◌≡◌, ℕ, zero, suc, ◌+◌, ◌-◌, ◌*◌, ◌/◌, ◌%◌, ◌<◌, ◌≤◌, ◌==◌, ◌&&◌, ◌||◌, true, false, Bool, List, [], ◌∷◌, length, get_or, set, replicate, refl, inl, sym, ap, ◌∙◌, arith, get_or-set_same, get_or-set_other}
use Rattle.std.specs.List.{IsAfterLastMatch, list_any}
use Rattle.std.proofs.Math.Bool.{or_assoc}
use Rattle.std.proofs.Math.ListN.{length-set}
use Rattle.std.proofs.lemmas.Bool.{eq-eqb, eqb-true}
use Rattle.std.proofs.lemmas.Bool.Decides.{nat_tests}
use Rattle.std.proofs.lemmas.List.Elements.{All-set}
use Rattle.std.proofs.lemmas.List.Sums.{sum_by-set}
use Rattle.guest_model.specs.Added.{mapped_pages, area_size}
use Rattle.guest_model.specs.Areas.{holds, is_mapped, permits, rounded_up}
use Rattle.guest_model.specs.Bytes.{Bytes, put_bytes}
use Rattle.guest_model.specs.Maps.{ends_low, heap_ended, grown}
use Rattle.guest_model.specs.declared.platform.TheConstants.{MAPS_START}
use Rattle.guest_model.specs.Space.{Space}
use Rattle.guest_model.specs.declared.Access.{Access}
use Rattle.guest_model.specs.declared.Access.TheVariants.{Read, Write, Execute}
use Rattle.guest_model.specs.declared.Area.{Area}
use Rattle.cow_pages.specs.Contents.{Contents}
use Rattle.guest_mem.specs.Mapped.{space_over}
use Rattle.guest_mem.specs.Sound.{IsSound, IsOnOneSide, is_unused}
use Rattle.guest_model.specs.Valid.{IsWhole}
use Rattle.guest_mem.specs.declared.rights.Rights.{Rights}
use Rattle.guest_mem.proofs.Added.{IsAdded, IsWithin, bytes_added, turned}
use Rattle.guest_mem.proofs.Heap.{NoneLow, heap_low, heap_at, ended_at, some_behind, rounded_bound}
use Rattle.guest_mem.proofs.Mapping.{none_given}
use Rattle.guest_mem.proofs.Stored.{put_none}

-- the list with another element in one place
any_set : (p : Area → Bool) (xs : List Area) (h : ℕ) (y d : Area) (more : Bool) → h < length xs → p y ≡ (more || p (get_or xs h d)) → list_any p (set xs h y) ≡ (more || list_any p xs)
any_set p [] h y d more lt e = absurd (omega arith)
any_set p (x ∷ xs) zero y d more lt e = ap (λ t. t || list_any p xs) e ∙ or_assoc more (p x) (list_any p xs)
any_set p (x ∷ xs) (suc h) y d more lt e = ap (λ t. p x || t) (any_set p xs h y d more (omega arith) e) ∙ turned (p x) more (list_any p xs)

longer : (x : Area) (end a : ℕ) → x.start ≤ x.end → x.end ≤ end → holds (record x { end = end }) a ≡ (holds (record x { start = x.end; end = end }) a || holds x a)
longer x end a order le = grind (arith, nat_tests)

both : (p h k : Bool) → (p && (h || k)) ≡ ((p && h) || (p && k))
both true h k = refl
both false h k = refl

-- the addresses that an area gains by another end
abbrev pub gained : Area → ℕ → Area
gained x end = record x { start = x.end; end = end }

abbrev pub ended : Area → ℕ → Area
ended x end = record x { end = end }

longer_permitted : (access : Access) (x : Area) (end a : ℕ) → x.start ≤ x.end → x.end ≤ end
    → (permits access (ended x end) && holds (ended x end) a) ≡ ((permits access (gained x end) && holds (gained x end) a) || (permits access x && holds x a))
longer_permitted Read x end a order le = ap (λ t. x.read && t) (longer x end a order le) ∙ both x.read (holds (gained x end) a) (holds x a)
longer_permitted Write x end a order le = ap (λ t. x.write && t) (longer x end a order le) ∙ both x.write (holds (gained x end) a) (holds x a)
longer_permitted Execute x end a order le = ap (λ t. x.execute && t) (longer x end a order le) ∙ both x.execute (holds (gained x end) a) (holds x a)

rounded_page : (a : ℕ) → rounded_up a % 4096 ≡ 0
rounded_page a = omega arith

pub rounded_order : (a b : ℕ) → a ≤ b → rounded_up a ≤ rounded_up b
rounded_order a b le = omega arith

gained_unused : (x : Area) (brk next to a : ℕ) → x.end ≡ rounded_up brk → rounded_up to ≤ MAPS_START → holds (gained x (rounded_up to)) a ≡ true → is_unused brk next a ≡ true
gained_unused x brk next to a e le h = grind (arith, nat_tests, e)

still_unused : (x : Area) (brk next to a : ℕ) → x.end ≡ rounded_up brk → rounded_up brk ≤ rounded_up to → MAPS_START ≤ next → rounded_up to ≤ MAPS_START → is_unused to next a ≡ true → (is_unused brk next a ≡ true) × (holds (gained x (rounded_up to)) a ≡ false)
still_unused x brk next to a e le low bound h = (grind (arith, nat_tests), grind (arith, nat_tests))

low_ended : (x : Area) (end : ℕ) → end ≤ MAPS_START → ends_low (ended x end) ≡ true
low_ended x end le = grind (arith, nat_tests)

more_pages : (s m e : ℕ) → s % 4096 ≡ 0 → m % 4096 ≡ 0 → s ≤ m → m ≤ e → (e - s) / 4096 ≡ (m - s) / 4096 + (e - m) / 4096
more_pages s m e f g le lf = omega arith

pub some_low : (xs : List Area) (rights : List Rights) (pages : Contents) (brk next n : ℕ) → IsSound xs rights pages brk next → IsAfterLastMatch ends_low xs n → 1 ≤ n
some_low xs rights pages brk next n sound last = some_behind xs n last (heap_low (rounded_up brk) xs sound.heap (rounded_bound brk sound.heap_bound))

pub gained_unwritten : (x : Area) (xs : List Area) (rights : List Rights) (pages : Contents) (brk next to : ℕ) → IsSound xs rights pages brk next → x.end ≡ rounded_up brk → to ≤ MAPS_START
    → (page : ℕ) → holds (gained x (rounded_up to)) (4096 * page) ≡ true → get_or pages.frames.written page false ≡ false
gained_unwritten x xs rights pages brk next to sound ends high page h = sound.unused_unwritten page (gained_unused x brk next to (4096 * page) ends (rounded_bound to high) h)

-- where the heap stands: its place is before n
pub record IsHeapAt (x : Area) (xs : List Area) (n : ℕ) (brk : ℕ) : Type 0 where
  pub some : 0 < n
  pub within : n ≤ length xs
  pub low : ends_low x ≡ true
  pub none : NoneLow xs n
  pub ends : x.end ≡ rounded_up brk

pub heap_is : (xs : List Area) (rights : List Rights) (pages : Contents) (brk next n : ℕ) (d : Area) → IsSound xs rights pages brk next → IsAfterLastMatch ends_low xs n → n ≤ length xs → IsHeapAt (get_or xs (n - 1) d) xs n brk
heap_is xs rights pages brk next n d sound last within =
    let some = some_low xs rights pages brk next n sound last in
    let behind : suc (n - 1) ≡ n = omega arith in
    let none : NoneLow xs (suc (n - 1)) = λ k e ge lt. last.0 k e (omega arith) lt in
    let low = last.1 some d in
    record {
      some = some;
      within = within;
      low = low;
      none = last.0;
      ends = eqb-true _ _ (sym (heap_at (rounded_up brk) xs (n - 1) d (omega arith) low none) ∙ sound.heap);
    }

none_set : (xs : List Area) (n : ℕ) (y : Area) → 0 < n → NoneLow xs n → NoneLow (set xs (n - 1) y) n
none_set xs n y some none = λ k d ge lt.
    ap ends_low (get_or-set_other xs (n - 1) k y d (λ e. absurd (omega (arith, e))))
    ∙ none k d ge (omega (arith, lt, length-set xs (n - 1) y))

pub heap_seen : (xs seen : List Area) (rights : List Rights) (pages : Contents) (brk next n : ℕ) (d : Area) → IsSound xs rights pages brk next → seen ≡ xs → IsAfterLastMatch ends_low seen n → n ≤ length seen → IsHeapAt (get_or xs (n - 1) d) xs n brk
heap_seen xs seen rights pages brk next n d sound e last within = heap_is xs rights pages brk next n d sound (rw e at last) (omega (arith, within, ap length e))

pub grown_added : (xs : List Area) (rights : List Rights) (pages : Contents) (brk next to n : ℕ) (d : Area) → IsSound xs rights pages brk next → IsHeapAt (get_or xs (n - 1) d) xs n brk
    → brk ≤ to → to ≤ MAPS_START → mapped_pages xs + (rounded_up to - rounded_up brk) / 4096 ≤ 16384
    → IsAdded (gained (get_or xs (n - 1) d) (rounded_up to)) xs (set xs (n - 1) (ended (get_or xs (n - 1) d) (rounded_up to))) brk next to next
unfolding mapped_pages
grown_added xs rights pages brk next to n d sound heap order high few =
    let x = get_or xs (n - 1) d in
    let some = heap.some in
    let within = heap.within in
    let ends = heap.ends in
    let end = rounded_up to in
    let there : n - 1 < length xs = omega arith in
    let whole = sound.whole (n - 1) d there in
    let start_page = whole.start in
    let end_page = whole.end in
    let x_order = whole.order in
    let bound = rounded_bound to high in
    let page = rounded_page to in
    let up = rounded_order brk to order in
    let le : x.end ≤ end = omega (arith, ends, up) in
    let behind : suc (n - 1) ≡ n = omega arith in
    let sum = sum_by-set (λ y. area_size y / 4096) xs (n - 1) (ended x end) d there in
    let new_heap = get_or-set_same xs (n - 1) (ended x end) d there in
    let none : NoneLow (set xs (n - 1) (ended x end)) (suc (n - 1)) = λ k e ge lt. none_set xs n (ended x end) some heap.none k e (omega arith) lt in
    record {
      whole = record { start = end_page; end = page; order = le; fits = omega arith };
      apart = λ a h. sound.unused_free a (gained_unused x brk next to a ends bound h);
      mapped = λ a. any_set (λ y. holds y a) xs (n - 1) (ended x end) d (holds (gained x end) a) there (longer x end a x_order le);
      permitted = λ access a. any_set (λ y. permits access y && holds y a) xs (n - 1) (ended x end) d (permits access (gained x end) && holds (gained x end) a) there (longer_permitted access x end a x_order le);
      all_whole = All-set IsWhole xs (n - 1) (ended x end) (record { start = start_page; end = page; order = omega arith; fits = omega arith }) sound.whole;
      few_pages = omega (arith, sum, more_pages x.start x.end end start_page end_page x_order le, few, ends);
      sides = All-set IsOnOneSide xs (n - 1) (ended x end) (inl bound) sound.sides;
      heap_bound = high;
      heap =
          heap_at end (set xs (n - 1) (ended x end)) (n - 1) d (omega (arith, there, length-set xs (n - 1) (ended x end))) (ap ends_low new_heap ∙ low_ended x end bound) none
          ∙ ap (λ (y : Area). y.end == end) new_heap ∙ eq-eqb end end refl;
      next = sound.next;
      unused = λ a h. still_unused x brk next to a ends up sound.next.low bound h;
    }

pub space_grown : (s : Space) (xs : List Area) (all : List ℕ) (brk next to n : ℕ) (d : Area) → space_over xs all brk next ≡ s → ((a : ℕ) → is_mapped xs a ≡ false → get_or all a 0 ≡ 0)
    → IsHeapAt (get_or xs (n - 1) d) xs n brk
    → IsAdded (gained (get_or xs (n - 1) d) (rounded_up to)) xs (set xs (n - 1) (ended (get_or xs (n - 1) d) (rounded_up to))) brk next to next
    → space_over (set xs (n - 1) (ended (get_or xs (n - 1) d) (rounded_up to))) all to next ≡ grown s to
space_grown s xs all brk next to n d e rest heap added =
    let x = get_or xs (n - 1) d in
    let y = ended x (rounded_up to) in
    let some = heap.some in
    let within = heap.within in
    let inside : IsWithin (gained x (rounded_up to)) x.end 0 = record { from = omega arith; within = let order = added.whole.order in omega arith } in
    let none : NoneLow xs (suc (n - 1)) = λ k f ge lt. heap.none k f (omega arith) lt in
    let bytes = bytes_added s (gained x (rounded_up to)) xs (set xs (n - 1) y) all all brk next to next x.end [] e rest added inside (none_given x.end all)
    ∙ put_none (put_bytes s.bytes x.end (replicate (rounded_up to - x.end) 0)) x.end
    ∙ ap (λ k. put_bytes s.bytes k (replicate (rounded_up to - k) 0)) heap.ends in
    ap (λ (b : Bytes). let t : Space = record { bytes = b; areas = set xs (n - 1) y; heap_break = to; next_map = next } in t) bytes
    ∙ ap (λ (l : List Area). let t : Space = record { bytes = put_bytes s.bytes (rounded_up brk) (replicate (rounded_up to - rounded_up brk) 0); areas = l; heap_break = to; next_map = next } in t)
    (ended_at (rounded_up to) xs (n - 1) d (omega arith) heap.low none)
    ∙ ap (λ (t : Space). let u : Space = record { bytes = put_bytes s.bytes (rounded_up t.heap_break) (replicate (rounded_up to - rounded_up t.heap_break) 0); areas = heap_ended (rounded_up to) t.areas; heap_break = to; next_map = t.next_map } in u) e
