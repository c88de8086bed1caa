-- The frames that stores take: one store after another, and how many at most.
use Rattle.std.proofs.Common.{◌≡◌, ℕ, zero, suc, ◌+◌, ◌-◌, ◌*◌, ◌/◌, ◌%◌, ◌^◌, ◌<◌, ◌≤◌, ◌==◌, ◌&&◌, ◌||◌, Bool, true, false, cond, List, [], ◌∷◌, length, get_or, map, refl, sym, ap, ◌∙◌, inl, inr, arith, add-zero, get_or-set_same, get_or-set_other}
use Rattle.std.specs.Prelude.{not}
use Rattle.std.proofs.Math.ListN.{set, length-set}
use Rattle.std.specs.List.{list_any, range_with_len, count_by}
use Rattle.std.proofs.lemmas.Bool.{cases_eq, cases_lt, cases_Bool}
use Rattle.std.proofs.lemmas.Bool.Decides.{nat_tests}
use Rattle.std.proofs.lemmas.List.{ext_get_or, set_past}
use Rattle.std.proofs.lemmas.List.FromFn.{fill_by_all, get_or-map-range_with_len, length-map-range_with_len}
use Rattle.std.proofs.lemmas.List.Sums.{sum_by-cons}
use Rattle.guest_model.specs.Areas.{wrap}
use Rattle.cow_pages.specs.Marks.{count_marked}
use Rattle.cow_pages.proofs.MarkLists.{count_marked-set, set_marked}
use Rattle.guest_mem.specs.Frames.{frames_for, marked_for}
use Rattle.guest_model.specs.Range.{is_page_of}

any_from : (p : ℕ → Bool) (s n i : ℕ) → i < n → p (s + i) ≡ true → list_any p (range_with_len s n) ≡ true
any_from p s zero i lt h = absurd (omega arith)
any_from p s (suc n) zero lt h = ap (λ t. t || list_any p (range_with_len (s + 1) n)) (ap p (sym (add-zero s)) ∙ h)
any_from p s (suc n) (suc i) lt h =
    let next : s + suc i ≡ s + 1 + i = omega arith in
    let rest = any_from p (s + 1) n i (omega arith) (ap p (sym next) ∙ h) in
    grind (arith, rest)

pub any_none : (p : ℕ → Bool) (s n : ℕ) → ((i : ℕ) → i < n → p (s + i) ≡ false) → list_any p (range_with_len s n) ≡ false
any_none p s zero h = refl
any_none p s (suc n) h =
    let here : p s ≡ false = ap p (sym (add-zero s)) ∙ h 0 (omega arith) in
    let rest = any_none p (s + 1) n (λ i lt. let next : s + 1 + i ≡ s + suc i = omega arith in ap p next ∙ h (suc i) (omega arith)) in
    grind (arith, here, rest)

pub or_assoc : (x y z : Bool) → (x || (y || z)) ≡ ((x || y) || z)
or_assoc true y z = refl
or_assoc false y z = refl

any_split : (p : ℕ → Bool) (s m n : ℕ) → list_any p (range_with_len s (m + n)) ≡ (list_any p (range_with_len s m) || list_any p (range_with_len (s + m) n))
any_split p s zero n =
    let e : 0 + n ≡ n = omega arith in
    let f : s ≡ s + 0 = omega arith in
    ap (λ k. list_any p (range_with_len s k)) e ∙ ap (λ k. list_any p (range_with_len k n)) f
any_split p s (suc m) n =
    let e : suc m + n ≡ suc (m + n) = omega arith in
    let f : s + 1 + m ≡ s + suc m = omega arith in
    ap (λ k. list_any p (range_with_len s k)) e
    ∙ ap (λ t. p s || t) (any_split p (s + 1) m n)
    ∙ or_assoc (p s) (list_any p (range_with_len (s + 1) m)) (list_any p (range_with_len (s + 1 + m) n))
    ∙ ap (λ k. (p s || list_any p (range_with_len (s + 1) m)) || list_any p (range_with_len k n)) f

any_along : (p q : ℕ → Bool) (s t n : ℕ) → ((i : ℕ) → p (s + i) ≡ q (t + i)) → list_any p (range_with_len s n) ≡ list_any q (range_with_len t n)
any_along p q s t zero is = refl
any_along p q s t (suc n) is =
    let here : p s ≡ q t = ap p (sym (add-zero s)) ∙ is 0 ∙ ap q (add-zero t) in
    let rest = any_along p q (s + 1) (t + 1) n (λ i.
    let e : s + 1 + i ≡ s + suc i = omega arith in
    let f : t + suc i ≡ t + 1 + i = omega arith in
    ap p e ∙ is (suc i) ∙ ap q f)
    in
    ap (λ b. b || list_any p (range_with_len (s + 1) n)) here ∙ ap (λ b. q t || b) rest

-- pages of the first m addresses, and of those behind them
pub is_page_of-split : (a m n page : ℕ) → is_page_of a (m + n) page ≡ (is_page_of a m page || is_page_of (a + m) n page)
unfolding is_page_of
is_page_of-split a m n page =
    any_split (λ i. wrap (a + i) / 4096 == page) 0 m n
    ∙ ap (λ t. list_any (λ i. wrap (a + i) / 4096 == page) (range_with_len 0 m) || t)
    (any_along (λ i. wrap (a + i) / 4096 == page) (λ i. wrap (a + m + i) / 4096 == page) (0 + m) 0 n (λ i. let e : a + (0 + m + i) ≡ a + m + (0 + i) = omega arith in ap (λ k. wrap k / 4096 == page) e))

pub is_page_of-none : (a page : ℕ) → is_page_of a 0 page ≡ false
unfolding is_page_of
is_page_of-none a page = refl

wrapped_page : (x : ℕ) → wrap x / 4096 ≡ x / 4096 % 2 ^ 20
wrapped_page x = omega arith

in_page : (a n i : ℕ) → a % 4096 + n ≤ 4096 → i < n → (a + i) / 4096 ≡ a / 4096
in_page a n i within lt = omega arith

same_page : (a n i : ℕ) → a % 4096 + n ≤ 4096 → i < n → wrap (a + i) / 4096 ≡ wrap a / 4096
same_page a n i within lt = wrapped_page (a + i) ∙ ap (λ k. k % 2 ^ 20) (in_page a n i within lt) ∙ sym (wrapped_page a)

-- addresses that are all in one page
pub is_page_of-one : (a n page : ℕ) → 0 < n → a % 4096 + n ≤ 4096 → is_page_of a n page ≡ (page == wrap a / 4096)
unfolding is_page_of
is_page_of-one a n page some within =
    elim (cases_eq page (wrap a / 4096)) [
      | inl e ↦
          let here : wrap (a + (0 + 0)) / 4096 ≡ page = same_page a n (0 + 0) within (omega arith) ∙ sym e in
          let found = any_from (λ i. wrap (a + i) / 4096 == page) 0 n 0 some (grind (arith, nat_tests, here)) in
          grind (arith, nat_tests, found)
      | inr ne ↦
          let none = any_none (λ i. wrap (a + i) / 4096 == page) 0 n (λ i lt. let there = same_page a n (0 + i) within (omega arith) in grind (arith, nat_tests, there)) in
          grind (arith, nat_tests, none)
    ]

pub length-marked_for : (marks : List Bool) (a n : ℕ) → length (marked_for marks a n) ≡ length marks
unfolding marked_for
length-marked_for marks a n = length-map-range_with_len (λ page. is_page_of a n page || get_or marks page false) 0 (length marks)

pub get_or-marked_for : (marks : List Bool) (a n page : ℕ) → page < length marks → get_or (marked_for marks a n) page false ≡ (is_page_of a n page || get_or marks page false)
unfolding marked_for
get_or-marked_for marks a n page lt = get_or-map-range_with_len (λ k. is_page_of a n k || get_or marks k false) 0 (length marks) page page false lt (omega arith)

pub turned : (x y z : Bool) → ((x || y) || z) ≡ (y || (x || z))
turned true true z = refl
turned true false z = refl
turned false y z = refl

-- one store after another
pub marked_for-split : (marks : List Bool) (a m n : ℕ) → marked_for marks a (m + n) ≡ marked_for (marked_for marks a m) (a + m) n
marked_for-split marks a m n =
    let len = length-marked_for marks a (m + n) in
    let first = length-marked_for marks a m in
    let both = length-marked_for (marked_for marks a m) (a + m) n in
    ext_get_or false _ _ (len ∙ sym (both ∙ first)) (λ page lt.
    let inside : page < length marks = omega arith in
    get_or-marked_for marks a (m + n) page inside
    ∙ ap (λ t. t || get_or marks page false) (is_page_of-split a m n page)
    ∙ turned (is_page_of a m page) (is_page_of (a + m) n page) (get_or marks page false)
    ∙ ap (λ t. is_page_of (a + m) n page || t) (sym (get_or-marked_for marks a m page inside))
    ∙ sym (get_or-marked_for (marked_for marks a m) (a + m) n page (omega arith)))

pub marked_for-none : (marks : List Bool) (a : ℕ) → marked_for marks a 0 ≡ marks
marked_for-none marks a =
    ext_get_or false _ _ (length-marked_for marks a 0) (λ page lt.
    get_or-marked_for marks a 0 page (omega (arith, length-marked_for marks a 0)) ∙ ap (λ t. t || get_or marks page false) (is_page_of-none a page))

set_or : (marks : List Bool) (k page : ℕ) → page < length marks → get_or (set marks k true) page false ≡ ((page == k) || get_or marks page false)
set_or marks k page lt =
    elim (cases_eq page k) [
      | inl e ↦ let here = get_or-set_same marks k true false (omega arith) in grind (arith, nat_tests, here)
      | inr ne ↦ let there = get_or-set_other marks k page true false ne in grind (arith, nat_tests, there)
    ]

pub marked_for-one : (marks : List Bool) (a n : ℕ) → 0 < n → a % 4096 + n ≤ 4096 → marked_for marks a n ≡ set marks (wrap a / 4096) true
marked_for-one marks a n some within =
    ext_get_or false _ _ (length-marked_for marks a n ∙ sym (length-set marks (wrap a / 4096) true)) (λ page lt.
    let inside : page < length marks = omega (arith, length-marked_for marks a n) in
    get_or-marked_for marks a n page inside
    ∙ ap (λ t. t || get_or marks page false) (is_page_of-one a n page some within)
    ∙ sym (set_or marks (wrap a / 4096) page inside))

one_of : (x y : Bool) → cond {A = ℕ} (x || y) 1 0 ≡ cond y 1 0 + cond (x && not y) 1 0
one_of true true = refl
one_of true false = refl
one_of false true = refl
one_of false false = refl

pub count_or : (f h : ℕ → Bool) (xs : List ℕ) → count_by (λ p. f p || h p) xs ≡ count_by h xs + count_by (λ p. f p && not (h p)) xs
count_or f h [] = refl
count_or f h (x ∷ xs) =
    omega (arith, one_of (f x) (h x), count_or f h xs, sum_by-cons (λ p. cond {A = ℕ} (f p || h p) 1 0) x xs, sum_by-cons (λ p. cond {A = ℕ} (h p) 1 0) x xs, sum_by-cons (λ p. cond {A = ℕ} (f p && not (h p)) 1 0) x xs)

pub count_map : (f : ℕ → Bool) (xs : List ℕ) → count_by (λ m. m) (map f xs) ≡ count_by f xs
count_map f [] = refl
count_map f (x ∷ xs) = omega (arith, count_map f xs, sum_by-cons (λ (m : Bool). cond {A = ℕ} m 1 0) (f x) (map f xs), sum_by-cons (λ p. cond {A = ℕ} (f p) 1 0) x xs)

pub counted : (marks : List Bool) → count_marked marks ≡ count_by (λ page. get_or marks page false) (range_with_len 0 (length marks))
unfolding count_marked
counted marks =
    ap (count_by (λ m. m)) (fill_by_all (λ page. get_or marks page false) marks (length marks) false refl (λ k lt. refl))
    ∙ count_map (λ page. get_or marks page false) (range_with_len 0 (length marks))

counted_after : (marks : List Bool) (a n : ℕ) → count_marked (marked_for marks a n) ≡ count_by (λ page. is_page_of a n page || get_or marks page false) (range_with_len 0 (length marks))
unfolding count_marked marked_for
counted_after marks a n = count_map (λ page. is_page_of a n page || get_or marks page false) (range_with_len 0 (length marks))

-- the pages that are marked once more
pub count_marked-marked_for : (marks : List Bool) (a n : ℕ) → count_marked (marked_for marks a n) ≡ count_marked marks + frames_for marks a n
unfolding frames_for
count_marked-marked_for marks a n =
    omega (arith, counted_after marks a n, counted marks, count_or (λ page. is_page_of a n page) (λ page. get_or marks page false) (range_with_len 0 (length marks)))

pub frames_for-split : (marks : List Bool) (a m n : ℕ) → frames_for marks a (m + n) ≡ frames_for marks a m + frames_for (marked_for marks a m) (a + m) n
frames_for-split marks a m n =
    omega (arith, count_marked-marked_for marks a (m + n), ap count_marked (marked_for-split marks a m n), count_marked-marked_for marks a m, count_marked-marked_for (marked_for marks a m) (a + m) n)

pub frames_for-none : (marks : List Bool) (a : ℕ) → frames_for marks a 0 ≡ 0
frames_for-none marks a = omega (arith, count_marked-marked_for marks a 0, ap count_marked (marked_for-none marks a))

pub frames_for-one : (marks : List Bool) (a n : ℕ) → 0 < n → a % 4096 + n ≤ 4096 → wrap a / 4096 < length marks → frames_for marks a n ≡ cond (get_or marks (wrap a / 4096) false) 0 1
frames_for-one marks a n some within lt =
    let total = count_marked-marked_for marks a n in
    let after = ap count_marked (marked_for-one marks a n some within) in
    elim (cases_Bool (get_or marks (wrap a / 4096) false)) [
      | inl h ↦
          let same = ap count_marked (set_marked marks (wrap a / 4096) h) in
          let none : cond {A = ℕ} (get_or marks (wrap a / 4096) false) 0 1 ≡ 0 = ap (λ (t : Bool). cond {A = ℕ} t 0 1) h in
          omega (arith, total, after, same, none)
      | inr h ↦
          let more = count_marked-set marks (wrap a / 4096) lt h in
          let one : cond {A = ℕ} (get_or marks (wrap a / 4096) false) 0 1 ≡ 1 = ap (λ (t : Bool). cond {A = ℕ} t 0 1) h in
          omega (arith, total, after, more, one)
    ]

at_most_one : (t : Bool) → cond {A = ℕ} t 0 1 ≤ 1
at_most_one true = omega arith
at_most_one false = omega arith

few_in_page : (marks : List Bool) (a n : ℕ) → a % 4096 + n ≤ 4096 → frames_for marks a n ≤ 1
few_in_page marks a zero within = omega (arith, frames_for-none marks a)
few_in_page marks a (suc n) within =
    elim (cases_lt (wrap a / 4096) (length marks)) [
      | inl lt ↦ omega (arith, frames_for-one marks a (suc n) (omega arith) within lt, at_most_one (get_or marks (wrap a / 4096) false))
      | inr ge ↦ omega (arith, count_marked-marked_for marks a (suc n), ap count_marked (marked_for-one marks a (suc n) (omega arith) within), ap count_marked (set_past marks (wrap a / 4096) true ge))
    ]

page_end : (a n k : ℕ) → a % 4096 + n ≤ 4096 * (k + 1) → 4096 < a % 4096 + n → (a + (4096 - a % 4096)) % 4096 + (n - (4096 - a % 4096)) ≤ 4096 * k
page_end a n k within more =
    let start : (a + (4096 - a % 4096)) % 4096 ≡ 0 = omega arith in
    omega arith

-- the addresses of k pages take at most k frames
pub few_frames : (marks : List Bool) (a n k : ℕ) → a % 4096 + n ≤ 4096 * k → frames_for marks a n ≤ k
few_frames marks a n zero within =
    let none : n ≡ 0 = omega arith in
    omega (arith, ap (frames_for marks a) none, frames_for-none marks a)
few_frames marks a n (suc k) within =
    elim (cases_lt 4096 (a % 4096 + n)) [
      | inr le ↦ omega (arith, few_in_page marks a n le)
      | inl more ↦
          let m = 4096 - a % 4096 in
          let parts : (4096 - a % 4096) + (n - (4096 - a % 4096)) ≡ n = omega arith in
          let first = few_in_page marks a m (omega arith) in
          let rest = few_frames (marked_for marks a m) (a + m) (n - m) k (page_end a n k (omega arith) more) in
          omega (arith, ap (frames_for marks a) parts, frames_for-split marks a m (n - m), first, rest)
    ]

-- n addresses lie in at most so many pages
pub few_frames_of : (marks : List Bool) (a n : ℕ) → frames_for marks a n ≤ (n + 8190) / 4096
few_frames_of marks a n = few_frames marks a n ((n + 8190) / 4096) (omega arith)

-- the pages of the first bytes of a range are among its pages
pub page_of_part : (a n size page : ℕ) → n ≤ size → is_page_of a n page ≡ true → is_page_of a size page ≡ true
page_of_part a n size page within h =
    let parts : size ≡ n + (size - n) = omega arith in
    ap (λ (k : ℕ). is_page_of a k page) parts ∙ (is_page_of-split a n (size - n) page ∙ ap (λ (b : Bool). b || is_page_of (a + n) (size - n) page) h)
