-- A memory with a frame for each page that can be mapped lacks none.
use Rattle.std.proofs.Common.{◌≡◌, ℕ, zero, suc, ◌+◌, ◌-◌, ◌*◌, ◌/◌, ◌%◌, ◌^◌, ◌<◌, ◌≤◌, ◌==◌, ◌&&◌, ◌||◌, Bool, true, false, cond, List, [], ◌∷◌, length, get_or, refl, sym, ap, ◌∙◌, inl, inr, arith, nat_le, nat_lt}
use Rattle.std.specs.List.{All, count_by, range_with_len}
use Rattle.std.proofs.lemmas.Bool.{cases_eq, cases_lt, cases_Bool, or_cases, and_parts, true≢false}
use Rattle.std.proofs.lemmas.Bool.Decides.{nat_tests}
use Rattle.std.proofs.lemmas.List.{get_or_past}
use Rattle.std.proofs.lemmas.List.Sums.{sum_by-cons}
use Rattle.guest_model.specs.Areas.{is_mapped, holds, wrap}
use Rattle.guest_model.specs.Added.{mapped_pages, area_size}
use Rattle.guest_model.specs.declared.Area.{Area}
use Rattle.cow_pages.specs.Contents.{Contents}
use Rattle.cow_pages.specs.Marks.{count_marked}
use Rattle.guest_mem.specs.Frames.{Frames, HasAllFrames, frames_for, marked_for}
use Rattle.guest_mem.specs.Sound.{IsSound}
use Rattle.guest_mem.specs.declared.rights.Rights.{Rights}
use Rattle.guest_mem.proofs.Ranges.{frames_for_all-one}
use Rattle.guest_model.specs.Range.{is_page_of, range}
use Rattle.guest_model.specs.Valid.{IsWhole}
use Rattle.guest_mem.proofs.Added.{is_page_in, holds_page}
use Rattle.guest_mem.proofs.Permitted.{mapped_page, whole_head, whole_tail}
use Rattle.guest_mem.proofs.Taken.{counted, length-marked_for, get_or-marked_for, count_marked-marked_for, any_none}

one_more : (p : ℕ → Bool) (x : ℕ) (xs : List ℕ) → count_by p (x ∷ xs) ≡ cond {A = ℕ} (p x) 1 0 + count_by p xs
one_more p x xs = sum_by-cons (λ k. cond {A = ℕ} (p k) 1 0) x xs

fewer : (s t : Bool) → (s ≡ true → t ≡ true) → cond {A = ℕ} s 1 0 ≤ cond {A = ℕ} t 1 0
fewer false t h = omega arith
fewer true true h = omega arith
fewer true false h = absurd (true≢false (sym (h refl)))

-- what holds more often counts more
pub count_le : (p q : ℕ → Bool) (xs : List ℕ) → ((k : ℕ) → p k ≡ true → q k ≡ true) → count_by p xs ≤ count_by q xs
count_le p q [] h = omega arith
count_le p q (x ∷ xs) h = omega (arith, one_more p x xs, one_more q x xs, fewer (p x) (q x) (h x), count_le p q xs h)

either_of : (s t : Bool) → cond {A = ℕ} (s || t) 1 0 ≤ cond {A = ℕ} s 1 0 + cond {A = ℕ} t 1 0
either_of true t = omega arith
either_of false t = omega arith

count_either : (p q : ℕ → Bool) (xs : List ℕ) → count_by (λ k. p k || q k) xs ≤ count_by p xs + count_by q xs
count_either p q [] = omega arith
count_either p q (x ∷ xs) = omega (arith, one_more (λ k. p k || q k) x xs, one_more p x xs, one_more q x xs, either_of (p x) (q x), count_either p q xs)

-- the numbers of a range, among those that follow one another from s on
count_range : (lo hi s n : ℕ) → (count_by (λ k. nat_le lo k && nat_lt k hi) (range_with_len s n) ≤ hi - s) × (count_by (λ k. nat_le lo k && nat_lt k hi) (range_with_len s n) ≤ hi - lo)
count_range lo hi s zero = (omega arith, omega arith)
count_range lo hi s (suc n) =
    let rest = count_range lo hi (s + 1) n in
    let step = one_more (λ k. nat_le lo k && nat_lt k hi) s (range_with_len (s + 1) n) in
    elim (cases_lt s lo) [
      | inl before ↦
          let none : (nat_le lo s && nat_lt s hi) ≡ false = grind (arith, nat_tests) in
          let zero_here : cond {A = ℕ} (nat_le lo s && nat_lt s hi) 1 0 ≡ 0 = ap (λ (t : Bool). cond {A = ℕ} t 1 0) none in
          (omega (arith, step, zero_here, rest.0), omega (arith, step, zero_here, rest.1))
      | inr from ↦ elim (cases_lt s hi) [
        | inl within ↦
            let some : (nat_le lo s && nat_lt s hi) ≡ true = grind (arith, nat_tests) in
            let one_here : cond {A = ℕ} (nat_le lo s && nat_lt s hi) 1 0 ≡ 1 = ap (λ (t : Bool). cond {A = ℕ} t 1 0) some in
            (omega (arith, step, one_here, rest.0), omega (arith, step, one_here, rest.0))
        | inr past ↦
            let none : (nat_le lo s && nat_lt s hi) ≡ false = grind (arith, nat_tests) in
            let zero_here : cond {A = ℕ} (nat_le lo s && nat_lt s hi) 1 0 ≡ 0 = ap (λ (t : Bool). cond {A = ℕ} t 1 0) none in
            (omega (arith, step, zero_here, rest.0), omega (arith, step, zero_here, rest.1))
      ]
    ]

whole_size : (s e : ℕ) → s % 4096 ≡ 0 → e % 4096 ≡ 0 → e / 4096 - s / 4096 ≡ (e - s) / 4096
whole_size s e f g = omega arith

area_pages : (x : Area) (n : ℕ) → IsWhole x → count_by (λ page. holds x (4096 * page)) (range_with_len 0 n) ≤ area_size x / 4096
area_pages x n whole =
    let le = count_le (λ page. holds x (4096 * page)) (is_page_in x) (range_with_len 0 n) (λ page h. sym (holds_page x page whole) ∙ h) in
    let range = count_range (x.start / 4096) (x.end / 4096) 0 n in
    omega (arith, le, range.1, whole_size x.start x.end whole.start whole.end)

no_page : (xs : List ℕ) → count_by (λ page. is_mapped [] (4096 * page)) xs ≡ 0
no_page [] = refl
no_page (x ∷ xs) = omega (arith, one_more (λ page. is_mapped [] (4096 * page)) x xs, no_page xs)

-- at most as many pages are mapped as the areas have
count_mapped : (areas : List Area) (n : ℕ) → All IsWhole areas → count_by (λ page. is_mapped areas (4096 * page)) (range_with_len 0 n) ≤ mapped_pages areas
unfolding mapped_pages
count_mapped [] n whole = omega (arith, no_page (range_with_len 0 n))
count_mapped (x ∷ xs) n whole =
    omega (
      arith,
      count_either (λ page. holds x (4096 * page)) (λ page. is_mapped xs (4096 * page)) (range_with_len 0 n),
      area_pages x n (whole_head x xs whole),
      count_mapped xs n (whole_tail x xs whole),
      sum_by-cons (λ y. area_size y / 4096) x xs,
    )

-- marks of mapped pages are at most so many
few_marked : (areas : List Area) (marks : List Bool) → All IsWhole areas → ((page : ℕ) → get_or marks page false ≡ true → is_mapped areas (4096 * page) ≡ true) → count_marked marks ≤ mapped_pages areas
few_marked areas marks whole mapped =
    omega (arith, counted marks, count_le (λ page. get_or marks page false) (λ page. is_mapped areas (4096 * page)) (range_with_len 0 (length marks)) mapped, count_mapped areas (length marks) whole)

in_mapped : (areas : List Area) (a i page : ℕ) → All IsWhole areas → is_mapped areas (wrap (a + i)) ≡ true → is_mapped areas (4096 * page) ≡ false → (wrap (a + i) / 4096 == page) ≡ false
in_mapped areas a i page whole mapped none =
    elim (cases_eq (wrap (a + i) / 4096) page) [
      | inl e ↦ absurd (true≢false (sym mapped ∙ mapped_page areas whole (wrap (a + i)) ∙ ap (λ p. is_mapped areas (4096 * p)) e ∙ none))
      | inr ne ↦ grind (arith, nat_tests)
    ]

pub page_mapped : (areas : List Area) (a n page : ℕ) → All IsWhole areas → ((i : ℕ) → i < n → is_mapped areas (wrap (a + i)) ≡ true) → is_page_of a n page ≡ true → is_mapped areas (4096 * page) ≡ true
unfolding is_page_of
page_mapped areas a n page whole mapped h =
    elim (cases_Bool (is_mapped areas (4096 * page))) [
      | inl there ↦ there
      | inr none ↦ absurd (true≢false (sym h ∙ any_none (λ i. wrap (a + i) / 4096 == page) 0 n (λ i lt. in_mapped areas a (0 + i) page whole (mapped (0 + i) (omega arith)) none)))
    ]

-- the pages that a store in areas marks are mapped, as those that were marked
pub frames_fit : (areas : List Area) (framed : List Bool) (a n free frames : ℕ) → All IsWhole areas → mapped_pages areas ≤ 16384
    → ((page : ℕ) → get_or framed page false ≡ true → is_mapped areas (4096 * page) ≡ true) → count_marked framed + free ≡ frames
    → ((i : ℕ) → i < n → is_mapped areas (wrap (a + i)) ≡ true) → 16384 ≤ frames → frames_for framed a n ≤ free
frames_fit areas framed a n free frames whole few mapped adds_up there all =
    let marked = few_marked areas (marked_for framed a n) whole (λ page h. elim (cases_lt page (length framed)) [
      | inl lt ↦ elim (or_cases (is_page_of a n page) (get_or framed page false) (sym (get_or-marked_for framed a n page lt) ∙ h)) [
        | inl new ↦ page_mapped areas a n page whole there new
        | inr old ↦ mapped page old
      ]
      | inr ge ↦ absurd (true≢false (sym h ∙ get_or_past (marked_for framed a n) page false (omega (arith, ge, length-marked_for framed a n))))
    ]) in
    omega (arith, marked, count_marked-marked_for framed a n, adds_up, few, all)

-- a page with a frame is mapped
pub framed_mapped : (areas : List Area) (framed written : List Bool) → length framed ≡ 2 ^ 20
    → ((page : ℕ) → page < 2 ^ 20 → get_or framed page false ≡ (get_or written page false && is_mapped areas (4096 * page)))
    → (page : ℕ) → get_or framed page false ≡ true → is_mapped areas (4096 * page) ≡ true
framed_mapped areas framed written len told page h =
    elim (cases_lt page (2 ^ 20)) [
      | inl lt ↦ (and_parts (get_or written page false) (is_mapped areas (4096 * page)) (sym (told page lt) ∙ h)).1
      | inr ge ↦ absurd (true≢false (sym h ∙ get_or_past framed page false (omega (arith, ge, len))))
    ]

-- a store in areas has its frames
pub enough_frames : (areas : List Area) (rights : List Rights) (pages : Contents) (brk next : ℕ) (f : Frames) (a n : ℕ) → IsSound areas rights pages brk next
    → pages.frames ≡ f
    → ((i : ℕ) → i < n → is_mapped areas (wrap (a + i)) ≡ true) → HasAllFrames f (range a n ∷ []) → frames_for pages.frames.framed a n ≤ pages.frames.free
enough_frames areas rights pages brk next f a n sound e mapped (inr suffice) =
    omega (arith, suffice, ap (λ (g : Frames). g.free) e, ap (λ (g : Frames). frames_for g.framed a n) e, frames_for_all-one f.framed a n)
enough_frames areas rights pages brk next f a n sound e mapped (inl all) =
    frames_fit areas pages.frames.framed a n pages.frames.free pages.frames.count sound.whole sound.few_pages
    (framed_mapped areas pages.frames.framed pages.frames.written sound.framed_len sound.framed_where) sound.adds_up mapped (omega (arith, all, ap (λ (g : Frames). g.count) e))
