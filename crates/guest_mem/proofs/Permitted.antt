-- When each of some addresses is permitted.
use Rattle.std.proofs.Common.{◌≡◌, ℕ, zero, suc, ◌+◌, ◌-◌, ◌*◌, ◌/◌, ◌<◌, ◌≤◌, ◌⊎◌, ◌&&◌, ◌||◌, ◌^◌, ◌%◌, true, false, Bool, List, [], ◌∷◌, refl, sym, ap, ◌∙◌, inl, inr, get_or, arith}
use Rattle.std.specs.List.{list_all, range_with_len}
use Rattle.std.proofs.lemmas.Bool.{cases_lt, leb-true, and_from, or_cases, or_left, or_right, and_parts, false_from_ne_true, true≢false}
use Rattle.std.proofs.lemmas.Bool.Decides.{nat_tests}
use Rattle.guest_model.specs.Areas.{wrap, holds, permits, is_mapped, is_permitted, all_permitted, is_range_permitted}
use Rattle.std.specs.Prelude.{nat_le}
use Rattle.std.specs.List.{All}
use Rattle.guest_model.specs.declared.Area.{Area}
use Rattle.guest_model.specs.declared.Access.{Access}
use Rattle.guest_mem.specs.Sound.{HasRights, allows, no_rights}
use Rattle.guest_model.specs.Valid.{IsWhole}
use Rattle.guest_mem.specs.declared.rights.Rights.{Rights}

zero_add : (i : ℕ) → 0 + i ≡ i
zero_add i = omega arith

all_from : (p : ℕ → Bool) (s n : ℕ) → ((i : ℕ) → i < n → p (s + i) ≡ true) → list_all p (range_with_len s n) ≡ true
all_from p s zero h = refl
all_from p s (suc n) h =
    let here : s + 0 ≡ s = omega arith in
    and_from (p s) _ (ap p (sym here) ∙ h 0 (omega arith)) (all_from p (s + 1) n (λ i lt. let next : s + 1 + i ≡ s + (i + 1) = omega arith in ap p next ∙ h (i + 1) (omega arith)))

all_to : (p : ℕ → Bool) (s n : ℕ) → list_all p (range_with_len s n) ≡ true → (i : ℕ) → i < n → p (s + i) ≡ true
all_to p s zero h i lt = absurd (omega arith)
all_to p s (suc n) h zero lt = let here : s + 0 ≡ s = omega arith in ap p here ∙ (and_parts (p s) _ h).0
all_to p s (suc n) h (suc i) lt = let next : s + suc i ≡ s + 1 + i = omega arith in ap p next ∙ all_to p (s + 1) n (and_parts (p s) _ h).1 i (omega arith)

pub all_permitted_from : (access : Access) (areas : List Area) (a n : ℕ) → ((i : ℕ) → i < n → is_permitted access areas (wrap (a + i)) ≡ true) → all_permitted access areas a n ≡ true
unfolding all_permitted
all_permitted_from access areas a n h = all_from (λ i. is_permitted access areas (wrap (a + i))) 0 n (λ i lt. ap (λ k. is_permitted access areas (wrap (a + k))) (zero_add i) ∙ h i lt)

pub permitted_at : (access : Access) (areas : List Area) (a n i : ℕ) → all_permitted access areas a n ≡ true → i < n → is_permitted access areas (wrap (a + i)) ≡ true
unfolding all_permitted
permitted_at access areas a n i h lt = ap (λ k. is_permitted access areas (wrap (a + k))) (sym (zero_add i)) ∙ all_to (λ i. is_permitted access areas (wrap (a + i))) 0 n h i lt

pub not_all_permitted : (access : Access) (areas : List Area) (a n i : ℕ) → is_permitted access areas (wrap (a + i)) ≡ false → i < n → all_permitted access areas a n ≡ false
not_all_permitted access areas a n i h lt = false_from_ne_true _ (λ e. true≢false (sym (permitted_at access areas a n i e lt) ∙ h))

-- what is permitted is mapped
pub mapped_if_permitted : (access : Access) (areas : List Area) (a : ℕ) → is_permitted access areas a ≡ true → is_mapped areas a ≡ true
mapped_if_permitted access [] a h = h
mapped_if_permitted access (x ∷ xs) a h =
    elim (or_cases (permits access x && holds x a) (is_permitted access xs a) h) [
      | inl e ↦ or_left (holds x a) _ (and_parts (permits access x) (holds x a) e).1
      | inr e ↦ or_right (holds x a) (is_mapped xs a) (mapped_if_permitted access xs a e)
    ]

unwrapped : (a : ℕ) → a < 2 ^ 32 → wrap a ≡ a
unwrapped a lt = omega arith

pub range_permitted : (access : Access) (areas : List Area) (a n end : ℕ) → ((q : ℕ) → a ≤ q → q < end → is_permitted access areas q ≡ true) → a + n ≤ end → a + n ≤ 2 ^ 32 → all_permitted access areas a n ≡ true
range_permitted access areas a n end h within le =
    all_permitted_from access areas a n (λ i lt. ap (is_permitted access areas) (unwrapped (a + i) (omega arith)) ∙ h (a + i) (omega arith) (omega arith))

pub range_not_permitted : (access : Access) (areas : List Area) (a n q : ℕ) → is_permitted access areas q ≡ false → a ≤ q → q < a + n → q < 2 ^ 32 → all_permitted access areas a n ≡ false
range_not_permitted access areas a n q h ge lt le =
    let there : a + (q - a) ≡ q = omega arith in
    not_all_permitted access areas a n (q - a) (ap (is_permitted access areas) (ap wrap there ∙ unwrapped q le) ∙ h) (omega arith)

pub all_mapped : (access : Access) (areas : List Area) (a n : ℕ) → all_permitted access areas a n ≡ true → (i : ℕ) → i < n → is_mapped areas (wrap (a + i)) ≡ true
all_mapped access areas a n h i lt = mapped_if_permitted access areas _ (permitted_at access areas a n i h lt)

pub range_mapped : (access : Access) (areas : List Area) (a n : ℕ) → is_range_permitted access areas a n ≡ true → (i : ℕ) → i < n → is_mapped areas (wrap (a + i)) ≡ true
unfolding is_range_permitted
range_mapped access areas a n h = all_mapped access areas a n (and_parts (nat_le (a + n) (2 ^ 32)) (all_permitted access areas a n) h).1

in_page_start : (s q : ℕ) → s % 4096 ≡ 0 → s ≤ q → s ≤ 4096 * (q / 4096)
in_page_start s q e le = omega arith

in_page_end : (s q : ℕ) → s % 4096 ≡ 0 → 4096 * (q / 4096) < s → q < s
in_page_end s q e lt = omega arith

-- an area of whole pages holds an address exactly where it holds the start of its page
pub holds_page : (x : Area) → IsWhole x → (q : ℕ) → holds x q ≡ holds x (4096 * (q / 4096))
holds_page x whole q = grind (arith, nat_tests, in_page_start x.start q whole.start, in_page_end x.end q whole.end)

pub whole_head : (x : Area) (xs : List Area) → All IsWhole (x ∷ xs) → IsWhole x
whole_head x xs whole = whole 0 x (omega arith)

pub whole_tail : (x : Area) (xs : List Area) → All IsWhole (x ∷ xs) → All IsWhole xs
whole_tail x xs whole = λ k d lt. whole (suc k) d (omega arith)

pub permitted_page : (access : Access) (areas : List Area) → All IsWhole areas → (q : ℕ) → is_permitted access areas q ≡ is_permitted access areas (4096 * (q / 4096))
permitted_page access [] whole q = refl
permitted_page access (x ∷ xs) whole q =
    ap (λ t. (permits access x && t) || is_permitted access xs q) (holds_page x (whole_head x xs whole) q)
    ∙ ap (λ t. (permits access x && holds x (4096 * (q / 4096))) || t) (permitted_page access xs (whole_tail x xs whole) q)

pub mapped_page : (areas : List Area) → All IsWhole areas → (q : ℕ) → is_mapped areas q ≡ is_mapped areas (4096 * (q / 4096))
mapped_page [] whole q = refl
mapped_page (x ∷ xs) whole q =
    ap (λ t. t || is_mapped xs q) (holds_page x (whole_head x xs whole) q)
    ∙ ap (λ t. holds x (4096 * (q / 4096)) || t) (mapped_page xs (whole_tail x xs whole) q)

-- the table tells what is permitted
pub permitted_by_table : (access : Access) (areas : List Area) (rights : List Rights) (q : ℕ) → All IsWhole areas → HasRights areas rights → q < 2 ^ 32 → allows access (get_or rights (q / 4096) no_rights) ≡ is_permitted access areas q
permitted_by_table access areas rights q whole table lt = table.each access (q / 4096) (omega arith) ∙ sym (permitted_page access areas whole q)

held_below : (x : Area) (q : ℕ) → IsWhole x → holds x q ≡ true → q < 0xFFFFF000
held_below x q whole h =
    let end = whole.end in
    let fits = whole.fits in
    let lt : q < x.end = grind (arith, nat_tests) in
    omega arith

-- the last page is in no area
pub permitted_below : (access : Access) (areas : List Area) (q : ℕ) → All IsWhole areas → is_permitted access areas q ≡ true → q < 0xFFFFF000
permitted_below access [] q whole h = absurd (true≢false (sym h))
permitted_below access (x ∷ xs) q whole h =
    elim (or_cases (permits access x && holds x q) (is_permitted access xs q) h) [
      | inl e ↦ held_below x q (whole_head x xs whole) (and_parts (permits access x) (holds x q) e).1
      | inr e ↦ permitted_below access xs q (whole_tail x xs whole) e
    ]

wrapped_page : (x : ℕ) → wrap x / 4096 ≡ x / 4096 % 2 ^ 20
wrapped_page x = omega arith

page_below : (a : ℕ) → a < 2 ^ 32 → a / 4096 % 2 ^ 20 ≡ a / 4096
page_below a lt = omega arith

first_page : (a i : ℕ) → a % 4096 + i < 4096 → (a + i) / 4096 ≡ a / 4096
first_page a i lt = omega arith

last_page : (a n i : ℕ) → i < n → n ≤ 4096 → 4096 ≤ a % 4096 + i → (a + i) / 4096 ≡ (a + (n - 1)) / 4096
last_page a n i lt few ge = omega arith

-- at most a page's bytes from a on are in the page of the first or of the last
either_page : (a n i : ℕ) → a < 2 ^ 32 → i < n → n ≤ 4096 → (wrap (a + i) / 4096 ≡ a / 4096) ⊎ (wrap (a + i) / 4096 ≡ wrap (a + (n - 1)) / 4096)
either_page a n i fits lt few =
    elim (cases_lt (a % 4096 + i) 4096) [
      | inl l ↦ inl (wrapped_page (a + i) ∙ ap (λ k. k % 2 ^ 20) (first_page a i l) ∙ page_below a fits)
      | inr g ↦ inr (wrapped_page (a + i) ∙ ap (λ k. k % 2 ^ 20) (last_page a n i lt few g) ∙ sym (wrapped_page (a + (n - 1))))
    ]

-- what is known of an address's page
abbrev pub PageIs : Access → List Area → Bool → ℕ → Type 0
PageIs access areas is page = (q : ℕ) → q / 4096 ≡ page → is ≡ is_permitted access areas q

pub first_and_last : (access : Access) (areas : List Area) (a n : ℕ) → a < 2 ^ 32 → n ≤ 4096 → PageIs access areas true (a / 4096) → PageIs access areas true (wrap (a + (n - 1)) / 4096) → all_permitted access areas a n ≡ true
first_and_last access areas a n fits few first last =
    all_permitted_from access areas a n (λ i lt.
    elim (either_page a n i fits lt few) [
      | inl e ↦ sym (first (wrap (a + i)) e)
      | inr e ↦ sym (last (wrap (a + i)) e)
    ])

within_page : (a n i : ℕ) → a < 2 ^ 32 → a % 4096 + n ≤ 4096 → i < n → wrap (a + i) / 4096 ≡ a / 4096
within_page a n i fits within lt = wrapped_page (a + i) ∙ ap (λ k. k % 2 ^ 20) (first_page a i (omega arith)) ∙ page_below a fits

pub in_one_page : (access : Access) (areas : List Area) (a n : ℕ) → a < 2 ^ 32 → a % 4096 + n ≤ 4096 → PageIs access areas true (a / 4096) → all_permitted access areas a n ≡ true
in_one_page access areas a n fits within first = all_permitted_from access areas a n (λ i lt. sym (first (wrap (a + i)) (within_page a n i fits within lt)))

pub first_denied : (access : Access) (areas : List Area) (a n : ℕ) → a < 2 ^ 32 → 0 < n → PageIs access areas false (a / 4096) → all_permitted access areas a n ≡ false
first_denied access areas a n fits some first = not_all_permitted access areas a n 0 (sym (first (wrap (a + 0)) (within_page a 1 0 fits (omega arith) (omega arith)))) some

pub last_denied : (access : Access) (areas : List Area) (a n : ℕ) → 0 < n → PageIs access areas false (wrap (a + (n - 1)) / 4096) → all_permitted access areas a n ≡ false
last_denied access areas a n some last = not_all_permitted access areas a n (n - 1) (sym (last (wrap (a + (n - 1))) refl)) (omega arith)

-- a range that does not pass the end of the addresses
pub range_from : (access : Access) (areas : List Area) (a n end : ℕ) → ((q : ℕ) → a ≤ q → q < end → is_permitted access areas q ≡ true) → a + n ≤ end → a + n ≤ 2 ^ 32 → is_range_permitted access areas a n ≡ true
unfolding is_range_permitted
range_from access areas a n end h within le = and_from (nat_le (a + n) (2 ^ 32)) (all_permitted access areas a n) (grind (arith, nat_tests)) (range_permitted access areas a n end h within le)

pub range_past : (access : Access) (areas : List Area) (a n : ℕ) → 2 ^ 32 < a + n → is_range_permitted access areas a n ≡ false
unfolding is_range_permitted
range_past access areas a n past = false_from_ne_true _ (λ e. absurd (omega (arith, leb-true (a + n) (2 ^ 32) (and_parts (nat_le (a + n) (2 ^ 32)) (all_permitted access areas a n) e).0)))

pub range_denied : (access : Access) (areas : List Area) (a n q : ℕ) → is_permitted access areas q ≡ false → a ≤ q → q < a + n → q < 2 ^ 32 → is_range_permitted access areas a n ≡ false
unfolding is_range_permitted
range_denied access areas a n q h ge lt le =
    false_from_ne_true _ (λ e. true≢false (sym (and_parts (nat_le (a + n) (2 ^ 32)) (all_permitted access areas a n) e).1 ∙ range_not_permitted access areas a n q h ge lt le))

pub range_end : (access : Access) (areas : List Area) (a n : ℕ) → is_range_permitted access areas a n ≡ true → a + n ≤ 2 ^ 32
unfolding is_range_permitted
range_end access areas a n h = leb-true (a + n) (2 ^ 32) (and_parts (nat_le (a + n) (2 ^ 32)) (all_permitted access areas a n) h).0

pub below_permitted : (access : Access) (areas : List Area) (a n i : ℕ) → all_permitted access areas a n ≡ true → a + n ≤ 2 ^ 32 → i < n → is_permitted access areas (a + i) ≡ true
below_permitted access areas a n i h end lt = ap (is_permitted access areas) (sym (unwrapped (a + i) (omega arith))) ∙ permitted_at access areas a n i h lt

pub range_below_permitted : (access : Access) (areas : List Area) (a n i : ℕ) → is_range_permitted access areas a n ≡ true → i < n → is_permitted access areas (a + i) ≡ true
unfolding is_range_permitted
range_below_permitted access areas a n i h lt =
    below_permitted access areas a n i (and_parts (nat_le (a + n) (2 ^ 32)) (all_permitted access areas a n) h).1 (range_end access areas a n h) lt
