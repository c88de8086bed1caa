-- What is left of a space where a range is unmapped.
use Rattle.std.proofs.Common.{◌≡◌, ℕ, suc, ◌+◌, ◌-◌, ◌*◌, ◌/◌, ◌%◌, ◌^◌, ◌<◌, ◌≤◌, ◌&&◌, ◌||◌, ◌==◌, true, false, cond, Bool, List, [], ◌∷◌, ◌++◌, length, get_or, refl, sym, ap, ◌∙◌, inl, inr, arith, Some, None}
use Rattle.std.specs.Prelude.{nat_le, nat_lt, not}
use Rattle.std.specs.List.{All, list_any, flat_map, sum_by}
use Rattle.std.specs.FinMap as map
use Rattle.std.proofs.lemmas.Bool.{cases_Bool, cond-true, cond-false, or_right}
use Rattle.std.proofs.lemmas.Bool.Decides.{nat_tests}
use Rattle.std.proofs.lemmas.List.{ext_get_or}
use Rattle.std.proofs.lemmas.List.Elements.{All-append, All-nil}
use Rattle.std.proofs.lemmas.List.Folds.{list_any-append}
use Rattle.std.proofs.lemmas.List.FromFn.{get_or-map-range_with_len, length-map-range_with_len}
use Rattle.std.proofs.lemmas.List.Sums.{sum_by-append, sum_by-cons}
use Rattle.guest_model.specs.Added.{mapped_pages, area_size}
use Rattle.guest_model.specs.Areas.{is_mapped, is_permitted, holds, permits, rounded_up}
use Rattle.guest_model.specs.Bytes.{Bytes}
use Rattle.guest_model.specs.Maps.{is_in_range, ends_low, left_below, left_above, cut, cut_areas, without_range}
use Rattle.guest_model.specs.declared.platform.TheConstants.{MAPS_START, MAPS_END}
use Rattle.guest_model.specs.Space.{Space}
use Rattle.guest_model.specs.declared.Access.{Access}
use Rattle.guest_model.specs.declared.Access.TheVariants.{Read, Write, Execute}
use Rattle.guest_model.specs.declared.Area.{Area}
use Rattle.cow_pages.specs.Contents.{Contents}
use Rattle.cow_pages.specs.Frames.{AddUp}
use Rattle.guest_mem.specs.Frames.{marked_in}
use Rattle.guest_mem.specs.Mapped.{of_areas, space_over}
use Rattle.guest_mem.specs.Sound.{IsSound, IsOnOneSide, allows, no_rights, heap_ends, is_cut}
use Rattle.guest_model.specs.Valid.{IsWhole}
use Rattle.guest_mem.specs.declared.rights.Rights.{Rights}
use Rattle.guest_mem.proofs.Added.{all_cons, not_permitted}
use Rattle.guest_mem.proofs.Begun.{nothing_allowed}
use Rattle.guest_mem.proofs.Heap.{low_end, not_low, rounded_bound}
use Rattle.guest_mem.proofs.Mapped.{get-of_areas, same_bytes}

-- an area with other ends gives the same permission
abbrev pub KeepsEnds : (Area → Bool) → Type 0
KeepsEnds f = (x : Area) (start end : ℕ) → f (record x { start = start; end = end }) ≡ f x

or_none : (t : Bool) → (t || false) ≡ t
or_none true = refl
or_none false = refl

one_part : (p : Area → Bool) (b : Bool) (y : Area) → list_any p (cond b (y ∷ []) []) ≡ (b && p y)
one_part p true y = or_none (p y)
one_part p false y = refl

-- the same for the parts: written with the numbers alone
apart_meets : (g : Bool) (from to start end a : ℕ) → from ≤ to → (nat_lt start to && nat_lt from end) ≡ true
    → ((nat_lt start from && (g && (nat_le start a && nat_lt a from))) || (nat_lt to end && (g && (nat_le to a && nat_lt a end)))) ≡ (not (is_in_range from to a) && (g && (nat_le start a && nat_lt a end)))
apart_meets true from to start end a le meets = grind (arith, nat_tests)
apart_meets false from to start end a le meets = grind (arith, nat_tests)

apart_misses : (g : Bool) (from to start end a : ℕ) → from ≤ to → (nat_lt start to && nat_lt from end) ≡ false
    → (g && (nat_le start a && nat_lt a end)) ≡ (not (is_in_range from to a) && (g && (nat_le start a && nat_lt a end)))
apart_misses true from to start end a le misses = grind (arith, nat_tests)
apart_misses false from to start end a le misses = grind (arith, nat_tests)

any_cut_one : (f : Area → Bool) → KeepsEnds f → (from to a : ℕ) (x : Area) → from ≤ to → list_any (λ y. f y && holds y a) (cut from to x) ≡ (not (is_in_range from to a) && (f x && holds x a))
any_cut_one f keeps from to a x le =
    elim (cases_Bool (nat_lt x.start to && nat_lt from x.end)) [
      | inl meets ↦
          ap (list_any (λ y. f y && holds y a)) (cond-true _ (left_below from x ++ left_above to x) (x ∷ []) meets)
          ∙ list_any-append (λ y. f y && holds y a) (left_below from x) (left_above to x)
          ∙ ap (λ t. t || list_any (λ y. f y && holds y a) (left_above to x)) (one_part (λ y. f y && holds y a) (nat_lt x.start from) (record x { end = from }))
          ∙ ap (λ t. (nat_lt x.start from && (f (record x { end = from }) && (nat_le x.start a && nat_lt a from))) || t) (one_part (λ y. f y && holds y a) (nat_lt to x.end) (record x { start = to }))
          ∙ ap (λ t. (nat_lt x.start from && (t && (nat_le x.start a && nat_lt a from))) || (nat_lt to x.end && (f (record x { start = to }) && (nat_le to a && nat_lt a x.end)))) (keeps x x.start from)
          ∙ ap (λ t. (nat_lt x.start from && (f x && (nat_le x.start a && nat_lt a from))) || (nat_lt to x.end && (t && (nat_le to a && nat_lt a x.end)))) (keeps x to x.end)
          ∙ apart_meets (f x) from to x.start x.end a le meets
      | inr misses ↦
          ap (list_any (λ y. f y && holds y a)) (cond-false _ (left_below from x ++ left_above to x) (x ∷ []) misses)
          ∙ or_none (f x && holds x a)
          ∙ apart_misses (f x) from to x.start x.end a le misses
    ]

and_true : (f : Bool) → (f && true) ≡ f
and_true true = refl
and_true false = refl

and_none_of : (f : Bool) → (f && false) ≡ false
and_none_of true = refl
and_none_of false = refl

shared : (n h m : Bool) → ((n && h) || (n && m)) ≡ (n && (h || m))
shared true h m = refl
shared false h m = refl

any_cut : (f : Area → Bool) → KeepsEnds f → (from to a : ℕ) (xs : List Area) → from ≤ to → list_any (λ y. f y && holds y a) (cut_areas from to xs) ≡ (not (is_in_range from to a) && list_any (λ y. f y && holds y a) xs)
unfolding cut_areas
any_cut f keeps from to a [] le = sym (and_none_of (not (is_in_range from to a)))
any_cut f keeps from to a (x ∷ xs) le =
    list_any-append (λ y. f y && holds y a) (cut from to x) (flat_map (cut from to) xs)
    ∙ ap (λ t. t || list_any (λ y. f y && holds y a) (flat_map (cut from to) xs)) (any_cut_one f keeps from to a x le)
    ∙ ap (λ t. (not (is_in_range from to a) && (f x && holds x a)) || t) (any_cut f keeps from to a xs le)
    ∙ shared (not (is_in_range from to a)) (f x && holds x a) (list_any (λ y. f y && holds y a) xs)

pub is_mapped-cut : (from to a : ℕ) (xs : List Area) → from ≤ to → is_mapped (cut_areas from to xs) a ≡ (not (is_in_range from to a) && is_mapped xs a)
is_mapped-cut from to a xs le = any_cut (λ _. true) (λ x start end. refl) from to a xs le

keeps_permits : (access : Access) → KeepsEnds (permits access)
keeps_permits Read x start end = refl
keeps_permits Write x start end = refl
keeps_permits Execute x start end = refl

pub is_permitted-cut : (access : Access) (from to a : ℕ) (xs : List Area) → from ≤ to → is_permitted access (cut_areas from to xs) a ≡ (not (is_in_range from to a) && is_permitted access xs a)
is_permitted-cut access from to a xs le = any_cut (permits access) (keeps_permits access) from to a xs le

-- what holds of each part holds of what is left
all_cut : (P : Area → Type 0) (from to : ℕ) (xs : List Area) → ((x : Area) → P x → All P (cut from to x)) → All P xs → All P (cut_areas from to xs)
unfolding cut_areas
all_cut P from to [] parts all = All-nil P
all_cut P from to (x ∷ xs) parts all = All-append P (cut from to x) (flat_map (cut from to) xs) (parts x (all 0 x (omega arith))) (all_cut P from to xs parts (λ k d lt. all (suc k) d (omega arith)))

all_one : (P : Area → Type 0) (x : Area) → P x → All P (x ∷ [])
all_one P x h = all_cons P x [] h (All-nil P)

all_if : (P : Area → Type 0) (b : Bool) (y : Area) → (b ≡ true → P y) → All P (cond b (y ∷ []) [])
all_if P true y h = all_one P y (h refl)
all_if P false y h = All-nil P

all_parts : (P : Area → Type 0) (from to : ℕ) (x : Area) → P x → ((nat_lt x.start to && nat_lt from x.end) ≡ true → nat_lt x.start from ≡ true → P (record x { end = from }))
    → ((nat_lt x.start to && nat_lt from x.end) ≡ true → nat_lt to x.end ≡ true → P (record x { start = to })) → All P (cut from to x)
all_parts P from to x whole below above =
    elim (cases_Bool (nat_lt x.start to && nat_lt from x.end)) [
      | inl meets ↦ rw meets (All-append P (left_below from x) (left_above to x) (all_if P (nat_lt x.start from) (record x { end = from }) (below meets)) (all_if P (nat_lt to x.end) (record x { start = to }) (above meets)))
      | inr misses ↦ rw misses (all_one P x whole)
    ]

lt_of : (a b : ℕ) → nat_lt a b ≡ true → a < b
lt_of a b h = grind (arith, nat_tests)

meets_of : (a b c d : ℕ) → (nat_lt a b && nat_lt c d) ≡ true → (a < b) × (c < d)
meets_of a b c d h = grind (arith, nat_tests)

-- the range is whole pages where maps stand
pub record IsMapRange (from to : ℕ) : Type 0 where
  pub from_page : from % 4096 ≡ 0
  pub to_page : to % 4096 ≡ 0
  pub low : MAPS_START ≤ from
  pub order : from ≤ to
  pub high : to ≤ MAPS_END

whole_cut : (from to : ℕ) (xs : List Area) → IsMapRange from to → All IsWhole xs → All IsWhole (cut_areas from to xs)
whole_cut from to xs range all =
    let from_page = range.from_page in
    let to_page = range.to_page in
    all_cut IsWhole from to xs (λ x whole.
    let start = whole.start in
    let end = whole.end in
    let order = whole.order in
    let fits = whole.fits in
    all_parts IsWhole from to x whole
    (λ meets below. let lt = lt_of x.start from below in let both = meets_of x.start to from x.end meets in record { start = start; end = from_page; order = omega arith; fits = omega (arith, both.1) })
    (λ meets above. let lt = lt_of to x.end above in record { start = to_page; end = end; order = omega arith; fits = fits })) all

side_of : (x : Area) (from : ℕ) → MAPS_START ≤ from → from < x.end → IsOnOneSide x → MAPS_START ≤ x.start
side_of x from low lt (inl le) = absurd (omega arith)
side_of x from low lt (inr ge) = ge

sides_cut : (from to : ℕ) (xs : List Area) → IsMapRange from to → All IsOnOneSide xs → All IsOnOneSide (cut_areas from to xs)
sides_cut from to xs range all =
    let low = range.low in
    let order = range.order in
    all_cut IsOnOneSide from to xs (λ x side. all_parts IsOnOneSide from to x side
    (λ meets below. inr (side_of x from low (meets_of x.start to from x.end meets).1 side))
    (λ meets above. inr (omega arith))) all

-- no part of an area has more pages
pages_if : (b : Bool) (y : Area) → sum_by (λ x. area_size x / 4096) (cond b (y ∷ []) []) ≡ cond b (area_size y / 4096) 0
pages_if true y = omega (arith, sum_by-cons (λ (x : Area). area_size x / 4096) y [])
pages_if false y = refl

fewer_pages : (b c : Bool) (from to start end : ℕ) → from ≤ to → start < to → from < end → (b ≡ true → start < from) → (c ≡ true → to < end) → cond b ((from - start) / 4096) 0 + cond c ((end - to) / 4096) 0 ≤ (end - start) / 4096
fewer_pages true true from to start end le l m f g = let below = f refl in let above = g refl in omega arith
fewer_pages true false from to start end le l m f g = let below = f refl in omega arith
fewer_pages false true from to start end le l m f g = let above = g refl in omega arith
fewer_pages false false from to start end le l m f g = omega arith

pages_cut_one : (from to : ℕ) (x : Area) → from ≤ to → sum_by (λ y. area_size y / 4096) (cut from to x) ≤ area_size x / 4096
pages_cut_one from to x le =
    elim (cases_Bool (nat_lt x.start to && nat_lt from x.end)) [
      | inl meets ↦
          let both = meets_of x.start to from x.end meets in
          let parts = ap (sum_by (λ y. area_size y / 4096)) (cond-true _ (left_below from x ++ left_above to x) (x ∷ []) meets) in
          let sum = sum_by-append (λ (y : Area). area_size y / 4096) (left_below from x) (left_above to x) in
          let below = pages_if (nat_lt x.start from) (record x { end = from }) in
          let above = pages_if (nat_lt to x.end) (record x { start = to }) in
          let few = fewer_pages (nat_lt x.start from) (nat_lt to x.end) from to x.start x.end le both.0 both.1 (lt_of x.start from) (lt_of to x.end) in
          omega (arith, parts, sum, below, above, few)
      | inr misses ↦
          let same = ap (sum_by (λ y. area_size y / 4096)) (cond-false _ (left_below from x ++ left_above to x) (x ∷ []) misses) in
          omega (arith, same, sum_by-cons (λ (y : Area). area_size y / 4096) x [])
    ]

pages_cut : (from to : ℕ) (xs : List Area) → from ≤ to → mapped_pages (cut_areas from to xs) ≤ mapped_pages xs
unfolding mapped_pages cut_areas
pages_cut from to [] le = omega arith
pages_cut from to (x ∷ xs) le =
    omega (arith, sum_by-append (λ (y : Area). area_size y / 4096) (cut from to x) (flat_map (cut from to) xs), pages_cut_one from to x le, pages_cut from to xs le, sum_by-cons (λ (y : Area). area_size y / 4096) x xs)

-- the heap stays, whatever is unmapped where maps stand
misses_low : (from to : ℕ) (x : Area) → MAPS_START ≤ from → ends_low x ≡ true → cut from to x ≡ x ∷ []
misses_low from to x low h = cond-false _ (left_below from x ++ left_above to x) (x ∷ []) (grind (arith, nat_tests))

not_low_part : (p : Bool) (y : Area) → (p ≡ true → ends_low y ≡ false) → list_any ends_low (cond p (y ∷ []) []) ≡ false
not_low_part true y h = or_none (ends_low y) ∙ h refl
not_low_part false y h = refl

low_cut_one : (from to : ℕ) (x : Area) → MAPS_START ≤ from → from ≤ to → IsOnOneSide x → list_any ends_low (cut from to x) ≡ ends_low x
low_cut_one from to x low le side =
    elim (cases_Bool (nat_lt x.start to && nat_lt from x.end)) [
      | inl meets ↦
          let both = meets_of x.start to from x.end meets in
          let above = side_of x from low both.1 side in
          ap (list_any ends_low) (cond-true _ (left_below from x ++ left_above to x) (x ∷ []) meets)
          ∙ list_any-append ends_low (left_below from x) (left_above to x)
          ∙ ap (λ t. t || list_any ends_low (left_above to x)) (not_low_part (nat_lt x.start from) (record x { end = from }) (λ h. let lt = lt_of x.start from h in not_low (record x { end = from }) (omega arith)))
          ∙ not_low_part (nat_lt to x.end) (record x { start = to }) (λ h. let lt = lt_of to x.end h in not_low (record x { start = to }) (omega arith))
          ∙ sym (not_low x (omega (arith, both.1)))
      | inr misses ↦ ap (list_any ends_low) (cond-false _ (left_below from x ++ left_above to x) (x ∷ []) misses) ∙ or_none (ends_low x)
    ]

low_cut : (from to : ℕ) (xs : List Area) → MAPS_START ≤ from → from ≤ to → All IsOnOneSide xs → list_any ends_low (cut_areas from to xs) ≡ list_any ends_low xs
unfolding cut_areas
low_cut from to [] low le sides = refl
low_cut from to (x ∷ xs) low le sides =
    list_any-append ends_low (cut from to x) (flat_map (cut from to) xs)
    ∙ ap (λ t. t || list_any ends_low (flat_map (cut from to) xs)) (low_cut_one from to x low le (sides 0 x (omega arith)))
    ∙ ap (λ t. ends_low x || t) (low_cut from to xs low le (λ k d lt. sides (suc k) d (omega arith)))

heap_behind : (e : ℕ) (ys zs : List Area) → list_any ends_low zs ≡ true → heap_ends e (ys ++ zs) ≡ heap_ends e zs
heap_behind e [] zs some = refl
heap_behind e (y ∷ ys) zs some =
    cond-true (list_any ends_low (ys ++ zs)) (heap_ends e (ys ++ zs)) (y.end == e) (list_any-append ends_low ys zs ∙ or_right (list_any ends_low ys) (list_any ends_low zs) some)
    ∙ heap_behind e ys zs some

heap_cut : (e from to : ℕ) (xs : List Area) → MAPS_START ≤ from → from ≤ to → e ≤ MAPS_START → All IsOnOneSide xs → heap_ends e xs ≡ true → heap_ends e (cut_areas from to xs) ≡ true
unfolding cut_areas
heap_cut e from to [] low le bound sides h = h
heap_cut e from to (x ∷ xs) low le bound sides h =
    let rest : All IsOnOneSide xs = λ k d lt. sides (suc k) d (omega arith) in
    let same = low_cut from to xs low le rest in
    elim (cases_Bool (list_any ends_low xs)) [
      | inl some ↦
          heap_behind e (cut from to x) (flat_map (cut from to) xs) (same ∙ some)
          ∙ heap_cut e from to xs low le bound rest (sym (cond-true (list_any ends_low xs) (heap_ends e xs) (x.end == e) some) ∙ h)
      | inr none ↦
          let here = sym (cond-false (list_any ends_low xs) (heap_ends e xs) (x.end == e) none) ∙ h in
          ap (λ l. heap_ends e (l ++ flat_map (cut from to) xs)) (misses_low from to x low (low_end x e here bound))
          ∙ cond-false (list_any ends_low (flat_map (cut from to) xs)) (heap_ends e (flat_map (cut from to) xs)) (x.end == e) (same ∙ none)
          ∙ here
    ]

outside : (r m : Bool) (x y : ℕ) → (not r && m) ≡ false → x ≡ cond (r && m) 0 y → (m ≡ false → y ≡ 0) → x ≡ 0
outside true true x y h e z = e
outside true false x y h e z = e ∙ z refl
outside false m x y h e z = e ∙ z h

still_framed : (r m t f : Bool) → f ≡ (t && m) → (not (r && m) && f) ≡ (t && (not r && m))
still_framed true true true f e = refl
still_framed true true false f e = refl
still_framed true false true f e = e
still_framed true false false f e = e
still_framed false m t f e = e

still_allowed : (access : Access) (r m p : Bool) (old new : Rights) → new ≡ cond (r && m) no_rights old → allows access old ≡ p → (m ≡ false → p ≡ false) → allows access new ≡ (not r && p)
still_allowed access true true p old new e is none = ap (allows access) e ∙ nothing_allowed access
still_allowed access true false p old new e is none = ap (allows access) e ∙ is ∙ none refl
still_allowed access false m p old new e is none = ap (allows access) e ∙ is

and_unmapped : (n m : Bool) → m ≡ false → (n && m) ≡ false
and_unmapped true m e = e
and_unmapped false m e = refl

pub sound_cut : (xs : List Area) (rights new_rights : List Rights) (old new : Contents) (brk next from to : ℕ) → IsSound xs rights old brk next → IsMapRange from to
    → ((q : ℕ) → get_or new.flat_bytes q 0 ≡ cond (is_cut from to xs q) 0 (get_or old.flat_bytes q 0)) → length new.flat_bytes ≡ 2 ^ 32
    → ((page : ℕ) → get_or new.frames.framed page false ≡ (not (is_cut from to xs (4096 * page)) && get_or old.frames.framed page false)) → length new.frames.framed ≡ length old.frames.framed
    → new.frames.written ≡ old.frames.written → (AddUp old.frames → AddUp new.frames)
    → ((page : ℕ) → get_or new_rights page no_rights ≡ cond (is_cut from to xs (4096 * page)) no_rights (get_or rights page no_rights))
    → IsSound (cut_areas from to xs) new_rights new brk next
sound_cut xs rights new_rights old new brk next from to sound range bytes len framed framed_len written adds_up each =
    let low = range.low in
    let le = range.order in
    record {
      whole = whole_cut from to xs range sound.whole;
      adds_up = adds_up sound.adds_up;
      few_pages = let few = sound.few_pages in omega (arith, pages_cut from to xs le, few);
      table = record {
        each = λ access page lt.
            still_allowed access (is_in_range from to (4096 * page)) (is_mapped xs (4096 * page)) (is_permitted access xs (4096 * page)) _ _ (each page) (sound.table.each access page lt) (not_permitted access xs (4096 * page))
            ∙ sym (is_permitted-cut access from to (4096 * page) xs le);
      };
      pages_len = len;
      rest_zero = λ q none. outside (is_in_range from to q) (is_mapped xs q) _ _ (sym (is_mapped-cut from to q xs le) ∙ none) (bytes q) (sound.rest_zero q);
      framed_len = framed_len ∙ sound.framed_len;
      written_len = ap length written ∙ sound.written_len;
      framed_where = λ page lt.
          framed page
          ∙ still_framed (is_in_range from to (4096 * page)) (is_mapped xs (4096 * page)) (get_or old.frames.written page false) (get_or old.frames.framed page false) (sound.framed_where page lt)
          ∙ ap (λ t. get_or old.frames.written page false && t) (sym (is_mapped-cut from to (4096 * page) xs le))
          ∙ ap (λ l. get_or l page false && is_mapped (cut_areas from to xs) (4096 * page)) (sym written);
      sides = sides_cut from to xs range sound.sides;
      heap_bound = sound.heap_bound;
      heap = heap_cut (rounded_up brk) from to xs low le (rounded_bound brk sound.heap_bound) sound.sides sound.heap;
      next = sound.next;
      unused_free = λ a h. is_mapped-cut from to a xs le ∙ and_unmapped (not (is_in_range from to a)) (is_mapped xs a) (sound.unused_free a h);
      unused_unwritten = λ page h. ap (λ l. get_or l page false) written ∙ sound.unused_unwritten page h;
    }

get-retained : (m : Bytes) (p : ℕ → Bool) (q : ℕ) → map.get (map.retain_keys m p) q ≡ cond (p q) (map.get m q) None
get-retained m p q = map.get-retain_keys m p q (λ x t. ap p (sym (map.nat_cmp-IsAntisymmetric q x t)))

left : (r m : Bool) (x y : ℕ) → x ≡ cond (r && m) 0 y → cond (not r && m) (Some x) None ≡ cond (not r) (cond m (Some y) None) None
left true m x y e = refl
left false true x y e = ap Some e
left false false x y e = refl

-- the bytes outside the range stay
of_areas-cut : (xs : List Area) (f g : ℕ → ℕ) (from to : ℕ) → from ≤ to → ((q : ℕ) → g q ≡ cond (is_cut from to xs q) 0 (f q)) → of_areas (cut_areas from to xs) g ≡ map.retain_keys (of_areas xs f) (λ a. not (is_in_range from to a))
of_areas-cut xs f g from to le is =
    same_bytes _ _ (λ q.
    get-of_areas (cut_areas from to xs) g q
    ∙ ap (λ b. cond b (Some (g q)) None) (is_mapped-cut from to q xs le)
    ∙ left (is_in_range from to q) (is_mapped xs q) (g q) (f q) (is q)
    ∙ ap (λ o. cond (not (is_in_range from to q)) o None) (sym (get-of_areas xs f q))
    ∙ sym (get-retained (of_areas xs f) (λ a. not (is_in_range from to a)) q))

pub space_cut : (s : Space) (xs : List Area) (old new : List ℕ) (brk next from to : ℕ) → space_over xs old brk next ≡ s → from ≤ to
    → ((q : ℕ) → get_or new q 0 ≡ cond (is_cut from to xs q) 0 (get_or old q 0))
    → space_over (cut_areas from to xs) new brk next ≡ without_range s from to
unfolding without_range
space_cut s xs old new brk next from to e le is =
    ap (λ (b : Bytes). let t : Space = record { bytes = b; areas = cut_areas from to xs; heap_break = brk; next_map = next } in t) (of_areas-cut xs (λ q. get_or old q 0) (λ q. get_or new q 0) from to le is)
    ∙ ap (λ t. without_range t from to) e

length-marked_in : (areas : List Area) (marks : List Bool) → length (marked_in areas marks) ≡ length marks
unfolding marked_in
length-marked_in areas marks = length-map-range_with_len (λ page. get_or marks page false && is_mapped areas (4096 * page)) 0 (length marks)

get_or-marked_in : (areas : List Area) (marks : List Bool) (page : ℕ) → page < length marks → get_or (marked_in areas marks) page false ≡ (get_or marks page false && is_mapped areas (4096 * page))
unfolding marked_in
get_or-marked_in areas marks page lt = get_or-map-range_with_len (λ k. get_or marks k false && is_mapped areas (4096 * k)) 0 (length marks) page page false lt (omega arith)

twice : (f t m : Bool) → f ≡ (t && m) → (f && m) ≡ f
twice f true true e = and_true f
twice f true false e = and_none_of f ∙ sym e
twice f false m e = ap (λ b. b && m) e ∙ sym e

-- each frame is that of a mapped page
pub framed_in : (areas : List Area) (rights : List Rights) (pages : Contents) (brk next : ℕ) → IsSound areas rights pages brk next → marked_in areas pages.frames.framed ≡ pages.frames.framed
framed_in areas rights pages brk next sound =
    ext_get_or false _ _ (length-marked_in areas pages.frames.framed) (λ page lt.
    let within : page < length pages.frames.framed = omega (arith, lt, length-marked_in areas pages.frames.framed) in
    let len = sound.framed_len in
    get_or-marked_in areas pages.frames.framed page within
    ∙ twice (get_or pages.frames.framed page false) (get_or pages.frames.written page false) (is_mapped areas (4096 * page)) (sound.framed_where page (omega arith)))

kept_mark : (r m t f : Bool) → f ≡ (t && m) → (not (r && m) && f) ≡ (f && (not r && m))
kept_mark true true t f e = sym (and_none_of f)
kept_mark true false t f e = sym (and_none_of f ∙ sym (e ∙ and_none_of t))
kept_mark false m t f e = sym (twice f t m e)

pub framed_cut : (xs : List Area) (rights : List Rights) (old new : Contents) (brk next from to : ℕ) → IsSound xs rights old brk next → from ≤ to
    → ((page : ℕ) → get_or new.frames.framed page false ≡ (not (is_cut from to xs (4096 * page)) && get_or old.frames.framed page false)) → length new.frames.framed ≡ length old.frames.framed
    → new.frames.framed ≡ marked_in (cut_areas from to xs) old.frames.framed
framed_cut xs rights old new brk next from to sound le framed framed_len =
    ext_get_or false _ _ (framed_len ∙ sym (length-marked_in (cut_areas from to xs) old.frames.framed)) (λ page lt.
    let len = sound.framed_len in
    let within : page < length old.frames.framed = omega (arith, lt, framed_len) in
    framed page
    ∙ kept_mark (is_in_range from to (4096 * page)) (is_mapped xs (4096 * page)) (get_or old.frames.written page false) (get_or old.frames.framed page false) (sound.framed_where page (omega arith))
    ∙ ap (λ t. get_or old.frames.framed page false && t) (sym (is_mapped-cut from to (4096 * page) xs le))
    ∙ sym (get_or-marked_in (cut_areas from to xs) old.frames.framed page within))
