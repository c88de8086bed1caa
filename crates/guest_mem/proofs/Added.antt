-- A space to which an area is added.
use Rattle.std.proofs.Common.{◌≡◌, ℕ, zero, suc, ◌+◌, ◌-◌, ◌*◌, ◌/◌, ◌%◌, ◌^◌, ◌<◌, ◌≤◌, ◌&&◌, ◌||◌, true, false, cond, Bool, List, ◌∷◌, length, get_or, take, drop, replicate, refl, sym, ap, subst, ◌∙◌, inl, inr, arith, Some, None}
use Rattle.std.specs.Prelude.{nat_le, nat_lt}
use Rattle.std.specs.List.{All, insert, list_any, position_or_len}
use Rattle.std.specs.FinMap as map
use Rattle.std.proofs.lemmas.Bool.{cases_Bool, true≢false, or_parts, false_from_ne_true}
use Rattle.std.proofs.lemmas.Bool.Decides.{nat_tests}
use Rattle.std.proofs.lemmas.List.{take-append-drop, get_or-take, length-replicate}
use Rattle.std.proofs.lemmas.List.Elements.{All-append, All-take, All-drop}
use Rattle.std.proofs.lemmas.List.Sums.{position_or_len_is, fails_before_first, sum_by-insert}
use Rattle.std.proofs.lemmas.List.Folds.{list_any-append}
use Rattle.guest_model.specs.Areas.{is_mapped, holds, permits, is_permitted, rounded_up}
use Rattle.guest_model.specs.Bytes.{Bytes, put_bytes}
use Rattle.guest_model.specs.Space.{Space}
use Rattle.guest_model.specs.Added.{comes_before, insert_area, with_area, mapped_pages, area_size}
use Rattle.guest_model.specs.declared.platform.TheConstants.{MAPS_START, MOST_PAGES}
use Rattle.guest_model.specs.declared.Area.{Area}
use Rattle.guest_model.specs.declared.Access.{Access}
use Rattle.cow_pages.specs.Contents.{Contents, page_count, ReadAsZeros}
use Rattle.cow_pages.specs.Frames.{AddUp, Frames}
use Rattle.frame_pool.specs.Bytes.{is_among}
use Rattle.guest_mem.specs.Mapped.{of_areas, space_over}
use Rattle.guest_mem.specs.Memory.{IsApart}
use Rattle.guest_mem.specs.Sound.{IsSound, IsOnOneSide, HasRights, heap_ends, is_unused, allows, no_rights}
use Rattle.guest_model.specs.Valid.{IsWhole, IsMapStart}
use Rattle.guest_mem.specs.declared.rights.Rights.{Rights}
use Rattle.guest_mem.proofs.Mapped.{get-of_areas, get-put_bytes, same_bytes}
use Rattle.guest_mem.proofs.Permitted.{mapped_if_permitted}

-- the first place, where a loop has passed the places before it
pub found : (p : Area → Bool) (xs : List Area) (i : ℕ) (d : Area) → i < length xs → position_or_len p (take i xs) ≡ i → p (get_or xs i d) ≡ true → i ≡ position_or_len p xs
found p xs i d lt e h =
    sym (position_or_len_is p xs i d (omega arith) (λ k kl. ap p (sym (get_or-take i xs k d kl)) ∙ fails_before_first p (take i xs) k d (omega arith)) (λ _. h))

pub turned : (t h d : Bool) → (t || (h || d)) ≡ (h || (t || d))
turned true true d = refl
turned true false d = refl
turned false h d = refl

-- a list with one more element
pub any_insert : (p : Area → Bool) (xs : List Area) (i : ℕ) (x : Area) → list_any p (insert xs i x) ≡ (p x || list_any p xs)
any_insert p xs i x =
    list_any-append p (take i xs) (x ∷ drop i xs)
    ∙ turned (list_any p (take i xs)) (p x) (list_any p (drop i xs))
    ∙ ap (λ t. p x || t) (sym (list_any-append p (take i xs) (drop i xs)) ∙ ap (list_any p) (take-append-drop i xs))

pub is_mapped-insert : (xs : List Area) (i : ℕ) (x : Area) (a : ℕ) → is_mapped (insert xs i x) a ≡ (holds x a || is_mapped xs a)
is_mapped-insert xs i x a = any_insert (λ y. holds y a) xs i x

pub is_permitted-insert : (access : Access) (xs : List Area) (i : ℕ) (x : Area) (a : ℕ) → is_permitted access (insert xs i x) a ≡ ((permits access x && holds x a) || is_permitted access xs a)
is_permitted-insert access xs i x a = any_insert (λ y. permits access y && holds y a) xs i x

pub all_cons : (P : Area → Type 0) (x : Area) (xs : List Area) → P x → All P xs → All P (x ∷ xs)
all_cons P x xs head tail zero d lt = head
all_cons P x xs head tail (suc k) d lt = tail k d (omega arith)

pub all_insert : (P : Area → Type 0) (xs : List Area) (i : ℕ) (x : Area) → P x → All P xs → All P (insert xs i x)
all_insert P xs i x head whole = All-append P (take i xs) (x ∷ drop i xs) (All-take P i xs whole) (all_cons P x (drop i xs) head (All-drop P i xs whole))

pub pages_insert : (xs : List Area) (i : ℕ) (x : Area) → mapped_pages (insert xs i x) ≡ mapped_pages xs + area_size x / 4096
unfolding mapped_pages
pages_insert xs i x = sum_by-insert (λ y. area_size y / 4096) xs i x

-- the areas ys are the areas xs with the addresses of x besides
pub record IsAdded (x : Area) (xs ys : List Area) (heap_break next_map new_break new_next : ℕ) : Type 0 where
  pub whole : IsWhole x
  pub apart : IsApart x xs
  pub mapped : (a : ℕ) → is_mapped ys a ≡ (holds x a || is_mapped xs a)
  pub permitted : (access : Access) (a : ℕ) → is_permitted access ys a ≡ ((permits access x && holds x a) || is_permitted access xs a)
  pub all_whole : All IsWhole ys
  pub few_pages : mapped_pages ys ≤ MOST_PAGES
  pub sides : All IsOnOneSide ys
  pub heap_bound : new_break ≤ MAPS_START
  pub heap : heap_ends (rounded_up new_break) ys ≡ true
  pub next : IsMapStart new_next
  pub unused : (a : ℕ) → is_unused new_break new_next a ≡ true → (is_unused heap_break next_map a ≡ true) × (holds x a ≡ false)

-- bytes are given within the area
pub record IsWithin (x : Area) (at len : ℕ) : Type 0 where
  pub from : x.start ≤ at
  pub within : at + len ≤ x.end

-- the page is one of the area's
abbrev pub is_page_in : Area → ℕ → Bool
is_page_in x page = nat_le (x.start / 4096) page && nat_lt page (x.end / 4096)

page_start : (s p : ℕ) → s % 4096 ≡ 0 → s / 4096 ≤ p → s ≤ 4096 * p
page_start s p e le = omega arith

page_start_back : (s p : ℕ) → s % 4096 ≡ 0 → s ≤ 4096 * p → s / 4096 ≤ p
page_start_back s p e le = omega arith

page_end : (s p : ℕ) → s % 4096 ≡ 0 → p < s / 4096 → 4096 * p < s
page_end s p e lt = omega arith

page_end_back : (s p : ℕ) → s % 4096 ≡ 0 → 4096 * p < s → p < s / 4096
page_end_back s p e lt = omega arith

pub holds_page : (x : Area) (page : ℕ) → IsWhole x → holds x (4096 * page) ≡ is_page_in x page
holds_page x page whole =
    grind (arith, nat_tests, page_start x.start page whole.start, page_start_back x.start page whole.start, page_end x.end page whole.end, page_end_back x.end page whole.end)

pub not_permitted : (access : Access) (xs : List Area) (a : ℕ) → is_mapped xs a ≡ false → is_permitted access xs a ≡ false
not_permitted access xs a none = false_from_ne_true _ (λ h. true≢false (sym (mapped_if_permitted access xs a h) ∙ none))

given_here : (p h m : Bool) → h ≡ true → m ≡ false → p ≡ ((p && h) || m)
given_here true true m e f = refl
given_here false h m e f = sym f
given_here true false m e f = absurd (true≢false (sym e))

given_elsewhere : (p h m : Bool) → h ≡ false → m ≡ ((p && h) || m)
given_elsewhere true true m e = absurd (true≢false e)
given_elsewhere true false m e = refl
given_elsewhere false h m e = refl

rights_added : (access : Access) (x : Area) (xs ys : List Area) (rights new : List Rights) (r : Rights) (page : ℕ) → IsWhole x → IsApart x xs
    → is_permitted access ys (4096 * page) ≡ ((permits access x && holds x (4096 * page)) || is_permitted access xs (4096 * page)) → HasRights xs rights → page < 2 ^ 20
    → ((access : Access) → allows access r ≡ permits access x)
    → get_or new page no_rights ≡ cond (is_page_in x page) r (get_or rights page no_rights)
    → allows access (get_or new page no_rights) ≡ is_permitted access ys (4096 * page)
rights_added access x xs ys rights new r page whole apart permitted table lt gives is =
    elim (cases_Bool (holds x (4096 * page))) [
      | inl h ↦
          ap (allows access) (is ∙ ap (λ t. cond t r (get_or rights page no_rights)) (sym (holds_page x page whole) ∙ h))
          ∙ gives access
          ∙ given_here (permits access x) (holds x (4096 * page)) (is_permitted access xs (4096 * page)) h (not_permitted access xs (4096 * page) (apart (4096 * page) h))
          ∙ sym permitted
      | inr h ↦
          ap (allows access) (is ∙ ap (λ t. cond t r (get_or rights page no_rights)) (sym (holds_page x page whole) ∙ h))
          ∙ table.each access page lt
          ∙ given_elsewhere (permits access x) (holds x (4096 * page)) (is_permitted access xs (4096 * page)) h
          ∙ sym permitted
    ]

pub among_held : (x : Area) (at n q : ℕ) → x.start ≤ at → at + n ≤ x.end → is_among at n q ≡ true → holds x q ≡ true
among_held x at n q from within h = grind (arith, nat_tests)

pages_end : (at n e : ℕ) → at + n ≤ e → e % 4096 ≡ 0 → at / 4096 + (at % 4096 % 4096 + n + 4095) / 4096 ≤ e / 4096
pages_end at n e le whole = omega arith

-- the pages of bytes that are given within an area are pages of the area
held_page : (x : Area) (at n q : ℕ) → IsWhole x → IsWithin x at n → is_among (at / 4096) (page_count (at % 4096) n) (q / 4096) ≡ true → holds x q ≡ true
held_page x at zero q whole inside h = absurd (grind (arith, nat_tests))
held_page x at (suc n) q whole inside h =
    let among : (at / 4096 ≤ q / 4096) × (q / 4096 < at / 4096 + (at % 4096 % 4096 + suc n + 4095) / 4096) = grind (arith, nat_tests) in
    let ends = pages_end at (suc n) x.end inside.within whole.end in
    let from : x.start ≤ q = omega (arith, whole.start, inside.from, among.0) in
    let to : q < x.end = omega (arith, ends, among.1) in
    grind (arith, nat_tests)

-- no area holds them yet, so they read as zeros
pub zeros_before : (x : Area) (xs : List Area) (all : List ℕ) (at n : ℕ) → IsWhole x → IsApart x xs → IsWithin x at n → ((a : ℕ) → is_mapped xs a ≡ false → get_or all a 0 ≡ 0)
    → ReadAsZeros all (at / 4096) (page_count (at % 4096) n)
zeros_before x xs all at n whole apart inside rest = λ a h. rest a (apart a (held_page x at n a whole inside h))

or_none : (h m : Bool) → h ≡ false → m ≡ false → (h || m) ≡ false
or_none true m e f = e
or_none false m e f = f

pub not_among : (t h : Bool) (v w : ℕ) → (t ≡ true → h ≡ true) → h ≡ false → cond t v w ≡ w
not_among true h v w there none = absurd (true≢false (sym (there refl) ∙ none))
not_among false h v w there none = refl

-- a page that is new was not written
framed_still : (t h m : Bool) → (h ≡ true → t ≡ false) → (t && m) ≡ (t && (h || m))
framed_still true true m f = absurd (true≢false (f refl))
framed_still true false m f = refl
framed_still false h m f = refl

pub sound_added : (x : Area) (xs ys : List Area) (rights new_rights : List Rights) (old new : Contents) (brk next new_brk new_next at : ℕ) (given : List ℕ) (r : Rights)
    → IsSound xs rights old brk next → IsAdded x xs ys brk next new_brk new_next → IsWithin x at (length given)
    → ((page : ℕ) → holds x (4096 * page) ≡ true → get_or old.frames.written page false ≡ false)
    → ((q : ℕ) → get_or new.flat_bytes q 0 ≡ cond (is_among at (length given) q) (get_or given (q - at) 0) (get_or old.flat_bytes q 0))
    → length new.flat_bytes ≡ 2 ^ 32 → new.frames ≡ old.frames
    → ((access : Access) → allows access r ≡ permits access x)
    → ((page : ℕ) → get_or new_rights page no_rights ≡ cond (is_page_in x page) r (get_or rights page no_rights))
    → IsSound ys new_rights new new_brk new_next
sound_added x xs ys rights new_rights old new brk next new_brk new_next at given r sound added inside unwritten bytes len frames gives each =
    let framed = ap (λ (f : Frames). f.framed) frames in
    let written = ap (λ (f : Frames). f.written) frames in record {
      whole = added.all_whole;
      adds_up = subst AddUp (sym frames) sound.adds_up;
      few_pages = added.few_pages;
      table = record {
        each = λ access page lt. rights_added access x xs ys rights new_rights r page added.whole added.apart (added.permitted access (4096 * page)) sound.table lt gives (each page);
      };
      pages_len = len;
      rest_zero = λ q none.
          let parts = or_parts (holds x q) (is_mapped xs q) (sym (added.mapped q) ∙ none) in
          bytes q ∙ not_among (is_among at (length given) q) (holds x q) _ _ (among_held x at (length given) q inside.from inside.within) parts.0 ∙ sound.rest_zero q parts.1;
      framed_len = ap length framed ∙ sound.framed_len;
      written_len = ap length written ∙ sound.written_len;
      framed_where = λ page lt.
          ap (λ l. get_or l page false) framed
          ∙ sound.framed_where page lt
          ∙ framed_still (get_or old.frames.written page false) (holds x (4096 * page)) (is_mapped xs (4096 * page)) (unwritten page)
          ∙ ap (λ l. get_or l page false && (holds x (4096 * page) || is_mapped xs (4096 * page))) (sym written)
          ∙ ap (λ t. get_or new.frames.written page false && t) (sym (added.mapped (4096 * page)));
      sides = added.sides;
      heap_bound = added.heap_bound;
      heap = added.heap;
      next = added.next;
      unused_free = λ a h. added.mapped a ∙ or_none (holds x a) (is_mapped xs a) (added.unused a h).1 (sound.unused_free a (added.unused a h).0);
      unused_unwritten = λ page h. ap (λ l. get_or l page false) written ∙ sound.unused_unwritten page (added.unused (4096 * page) h).0;
    }

area_bytes : (t h m : Bool) (v w z : ℕ) → (t ≡ true → h ≡ true) → (h ≡ true → w ≡ z) → cond (h || m) (Some (cond t v w)) None ≡ cond t (Some v) (cond h (Some z) (cond m (Some w) None))
area_bytes true true m v w z there same = refl
area_bytes true false m v w z there same = absurd (true≢false (sym (there refl)))
area_bytes false true m v w z there same = ap Some (same refl)
area_bytes false false m v w z there same = refl

zero_in : (n k : ℕ) → get_or (replicate {A = ℕ} n 0) k 0 ≡ 0
zero_in zero zero = refl
zero_in zero (suc k) = refl
zero_in (suc n) zero = refl
zero_in (suc n) (suc k) = zero_in n k

size_range : (x : Area) (q : ℕ) → is_among x.start (area_size x) q ≡ holds x q
size_range x q = grind (arith, nat_tests)

held_range : (x : Area) (q : ℕ) → is_among x.start (length (replicate {A = ℕ} (area_size x) 0)) q ≡ holds x q
held_range x q =
    let zero_byte : ℕ = 0 in
    let len = length-replicate (area_size x) zero_byte in
    ap (λ n. is_among x.start n q) len ∙ size_range x q

of_areas-added : (x : Area) (xs ys : List Area) (old new : List ℕ) (at : ℕ) (given : List ℕ)
    → ((a : ℕ) → is_mapped xs a ≡ false → get_or old a 0 ≡ 0) → IsWhole x → IsApart x xs → ((a : ℕ) → is_mapped ys a ≡ (holds x a || is_mapped xs a)) → IsWithin x at (length given)
    → ((q : ℕ) → get_or new q 0 ≡ cond (is_among at (length given) q) (get_or given (q - at) 0) (get_or old q 0))
    → of_areas ys (λ q. get_or new q 0) ≡ put_bytes (put_bytes (of_areas xs (λ q. get_or old q 0)) x.start (replicate (area_size x) 0)) at given
of_areas-added x xs ys old new at given rest whole apart mapped inside is =
    let order = whole.order in
    let fits = whole.fits in
    let end = inside.within in
    let zero_byte : ℕ = 0 in
    let zeros : x.start + length (replicate (area_size x) zero_byte) ≤ 2 ^ 32 = omega (arith, length-replicate (area_size x) zero_byte) in
    same_bytes _ _ (λ q.
    get-of_areas ys (λ k. get_or new k 0) q
    ∙ ap (λ v. cond (is_mapped ys q) (Some v) None) (is q)
    ∙ ap (λ t. cond t (Some (cond (is_among at (length given) q) (get_or given (q - at) 0) (get_or old q 0))) None) (mapped q)
    ∙ area_bytes (is_among at (length given) q) (holds x q) (is_mapped xs q) (get_or given (q - at) 0) (get_or old q 0) (get_or (replicate (area_size x) 0) (q - x.start) 0)
    (among_held x at (length given) q inside.from inside.within) (λ h. rest q (apart q h) ∙ sym (zero_in (area_size x) (q - x.start)))
    ∙ ap (λ o. cond (is_among at (length given) q) (Some (get_or given (q - at) 0)) (cond (holds x q) (Some (get_or (replicate (area_size x) 0) (q - x.start) 0)) o)) (sym (get-of_areas xs (λ k. get_or old k 0) q))
    ∙ ap (λ t. cond (is_among at (length given) q) (Some (get_or given (q - at) 0)) (cond t (Some (get_or (replicate (area_size x) 0) (q - x.start) 0)) (map.get (of_areas xs (λ k. get_or old k 0)) q))) (sym (held_range x q))
    ∙ ap (cond (is_among at (length given) q) (Some (get_or given (q - at) 0))) (sym (get-put_bytes (of_areas xs (λ k. get_or old k 0)) x.start (replicate (area_size x) 0) zeros q))
    ∙ sym (get-put_bytes (put_bytes (of_areas xs (λ k. get_or old k 0)) x.start (replicate (area_size x) 0)) at given (omega arith) q))

-- the bytes of a space to which an area is added
pub bytes_added : (s : Space) (x : Area) (xs ys : List Area) (old new : List ℕ) (brk next new_brk new_next at : ℕ) (given : List ℕ)
    → space_over xs old brk next ≡ s → ((a : ℕ) → is_mapped xs a ≡ false → get_or old a 0 ≡ 0) → IsAdded x xs ys brk next new_brk new_next → IsWithin x at (length given)
    → ((q : ℕ) → get_or new q 0 ≡ cond (is_among at (length given) q) (get_or given (q - at) 0) (get_or old q 0))
    → of_areas ys (λ q. get_or new q 0) ≡ put_bytes (put_bytes s.bytes x.start (replicate (area_size x) 0)) at given
bytes_added s x xs ys old new brk next new_brk new_next at given e rest added inside is =
    of_areas-added x xs ys old new at given rest added.whole added.apart added.mapped inside is
    ∙ ap (λ (t : Space). put_bytes (put_bytes t.bytes x.start (replicate (area_size x) 0)) at given) e

pub space_added : (s : Space) (x : Area) (xs : List Area) (old new : List ℕ) (brk next new_brk new_next i at : ℕ) (given : List ℕ)
    → space_over xs old brk next ≡ s → i ≡ position_or_len (comes_before x) xs
    → ((a : ℕ) → is_mapped xs a ≡ false → get_or old a 0 ≡ 0) → IsAdded x xs (insert xs i x) brk next new_brk new_next → IsWithin x at (length given)
    → ((q : ℕ) → get_or new q 0 ≡ cond (is_among at (length given) q) (get_or given (q - at) 0) (get_or old q 0))
    → space_over (insert xs i x) new brk next ≡ with_area s x at given
unfolding with_area
space_added s x xs old new brk next new_brk new_next i at given e place rest added inside is =
    ap (λ (b : Bytes). let t : Space = record { bytes = b; areas = insert xs i x; heap_break = brk; next_map = next } in t) (bytes_added s x xs (insert xs i x) old new brk next new_brk new_next at given e rest added inside is)
    ∙ ap (λ (k : ℕ). let t : Space = record { bytes = put_bytes (put_bytes s.bytes x.start (replicate (area_size x) 0)) at given; areas = insert xs k x; heap_break = brk; next_map = next } in t) place
    ∙ ap (λ (t : Space). let u : Space = record { bytes = put_bytes (put_bytes s.bytes x.start (replicate (area_size x) 0)) at given; areas = insert_area x t.areas; heap_break = t.heap_break; next_map = t.next_map } in u) e
