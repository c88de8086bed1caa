-- The last routine that starts at or before an address.
use Rattle.std.proofs.Common.{◌≡◌, ◌+◌, ◌-◌, ◌≤◌, ◌<◌, ◌∙◌, ◌&&◌, ℕ, zero, suc, Bool, true, false, List, [], ◌∷◌, length, map, get_or, arith, refl, sym, add-one, inl, inr, ap}
use Rattle.std.specs.Prelude.{◌≢◌, ◌⊎◌, ◌==◌, All, None, Some, find, count_by, filter, nat_le}
use Rattle.std.specs.List.{AllWithin}
use Rattle.std.specs.List.Sorted.{IsNonDecreasingBy, IsPartitionPoint, IsStrictlyIncreasing}
use Rattle.std.proofs.lemmas.Bool.{cases_lt}
use Rattle.std.proofs.lemmas.Bool.Decides.{nat_tests}
use Rattle.std.proofs.lemmas.List.{get_or-map, length-map}
use Rattle.std.proofs.lemmas.List.Elements.{All-get_or}
use Rattle.std.proofs.lemmas.List.Folds.{list_any_at, list_any_none}
use Rattle.std.proofs.lemmas.List.Sorted.{IsNonDecreasingBy-from_all_adjacent}
use Rattle.std.proofs.lemmas.List.Sums.{length-filter}
use Rattle.elf_load.specs.Image.{FunctionFields}
use Rattle.elf_load.specs.Limits.{user_end}
use Rattle.ins_views.specs.Views.{AreRoutines, CodeFields, has_routine}

abbrev Rising : List FunctionFields → Type 0
Rising routines = IsStrictlyIncreasing (map (λ f. f.start) routines)

pub starts_rise : (routines : List FunctionFields) → Rising routines → IsNonDecreasingBy (λ f. f.start) routines
starts_rise routines rising =
    IsNonDecreasingBy-from_all_adjacent (λ f. f.start) routines
    (λ k d h.
    let here = get_or-map (λ (f : FunctionFields). f.start) routines k d 0 (omega arith) in
    let next = get_or-map (λ (f : FunctionFields). f.start) routines (k + 1) d 0 h in
    let less = rising k (rw (length-map routines (λ (f : FunctionFields). f.start)) h) in
    omega arith)

-- each start is at least the routine's number
number_at_most : (xs : List ℕ) (k : ℕ) → IsStrictlyIncreasing xs → k < length xs → k ≤ get_or xs k 0
number_at_most xs zero rising h = omega arith
number_at_most xs (suc k) rising h =
    let below = number_at_most xs k rising (omega arith) in
    let less : get_or xs k 0 < get_or xs (k + 1) 0 = rising k (omega arith) in
    let next : get_or xs (k + 1) 0 ≡ get_or xs (suc k) 0 = rw add-one refl in
    omega (arith, below, less, next)

few : (n : ℕ) (routines : List FunctionFields) → Rising routines → All (λ f. f.start + 1 ≤ user_end) routines → length routines ≡ n → n ≤ user_end
few zero routines rising user e = omega arith
few (suc n) routines rising user e =
    let last : n < length routines = omega arith in
    let number = number_at_most (map (λ f. f.start) routines) n rising (rw (length-map routines (λ (f : FunctionFields). f.start)) last) in
    let same = get_or-map (λ (f : FunctionFields). f.start) routines n (record { start = 0; name = [] }) 0 last in
    let end = All-get_or (λ f. f.start + 1 ≤ user_end) routines n (record { start = 0; name = [] }) last user in
    omega (arith, number, same, end)

-- there are no more routines than addresses
pub few_routines : (routines : List FunctionFields) → AreRoutines routines → length routines ≤ user_end
few_routines routines h = few (length routines) routines h.rising h.user refl

-- the elements that a partition's test passes are as many as its point
length-partition : {X : Type 0} (p : X → Bool) (xs : List X) (i : ℕ) → i ≤ length xs
    → AllWithin (λ y. p y ≡ true) xs 0 i → AllWithin (λ y. p y ≡ false) xs i (length xs) → length (filter p xs) ≡ i
length-partition p [] i h passes fails = omega arith
length-partition p (x ∷ xs) zero h passes fails =
    let first : p x ≡ false = fails 0 x (omega arith) (omega arith) in
    rw first (length-partition p xs zero (omega arith) (λ k d low high. absurd (omega arith)) (λ k d low high. fails (suc k) d (omega arith) (omega arith)))
length-partition p (x ∷ xs) (suc i) h passes fails =
    let first : p x ≡ true = passes 0 x (omega arith) (omega arith) in
    let rest : length (filter p xs) ≡ i = length-partition p xs i (omega arith) (λ k d low high. passes (suc k) d (omega arith) (omega arith)) (λ k d low high. fails (suc k) d (omega arith) (omega arith)) in
    rw first (omega (arith, rest))

pub count_by-partition : {X : Type 0} (p : X → Bool) (xs : List X) (i : ℕ) → i ≤ length xs
    → AllWithin (λ y. p y ≡ true) xs 0 i → AllWithin (λ y. p y ≡ false) xs i (length xs) → count_by p xs ≡ i
count_by-partition p xs i h passes fails = sym (length-filter p xs) ∙ length-partition p xs i h passes fails

-- the routine before the point of a partition tells whether one starts in the segment
pub has_last : (routines : List FunctionFields) (c : CodeFields) (a count : ℕ) (d : FunctionFields) → count ≤ length routines → 0 < count
    → IsPartitionPoint (λ f. nat_le f.start a ≡ true) (λ f. nat_le f.start a ≡ false) routines count → c.start ≤ (get_or routines (count - 1) d).start → has_routine routines c a ≡ true
has_last routines c a count d within some parts here =
    let before : nat_le (get_or routines (count - 1) d).start a ≡ true = parts.0 (count - 1) d (omega arith) (omega arith) in
    list_any_at (λ f. nat_le c.start f.start && nat_le f.start a) routines (count - 1) d (omega arith) (grind (arith, nat_tests))

pub has_none : (routines : List FunctionFields) (c : CodeFields) (a count : ℕ) → Rising routines → count ≤ length routines
    → IsPartitionPoint (λ f. nat_le f.start a ≡ true) (λ f. nat_le f.start a ≡ false) routines count
    → (0 < count → (d : FunctionFields) → (get_or routines (count - 1) d).start < c.start) → has_routine routines c a ≡ false
has_none routines c a count rising within parts below =
    list_any_none (λ f. nat_le c.start f.start && nat_le f.start a) routines
    (λ k d h. go k d h (cases_lt k count))
  where
    go : (k : ℕ) (d : FunctionFields) → k < length routines → (k < count) ⊎ (count ≤ k) → (nat_le c.start (get_or routines k d).start && nat_le (get_or routines k d).start a) ≡ false
    go k d h (inl less) =
        let last = below (omega arith) d in
        let order = starts_rise routines rising k (count - 1) d (omega arith) (omega arith) in
        let before : (get_or routines k d).start < c.start = omega (arith, last, order) in
        grind (arith, nat_tests)
    go k d h (inr more) =
        let after : nat_le (get_or routines k d).start a ≡ false = parts.1 k d more h in
        grind (arith, nat_tests)

-- the routine at an index is the one that starts there
far : (xs : List ℕ) (i n : ℕ) → IsStrictlyIncreasing xs → i + n + 1 < length xs → get_or xs i 0 < get_or xs (i + n + 1) 0
far xs i zero rising h =
    let next : get_or xs i 0 < get_or xs (i + 1) 0 = rising i (omega arith) in
    let same : get_or xs (i + 1) 0 ≡ get_or xs (i + 0 + 1) 0 = ap (λ k. get_or xs k 0) (omega arith) in
    omega (arith, next, same)
far xs i (suc n) rising h =
    let before = far xs i n rising (omega arith) in
    let next : get_or xs (i + n + 1) 0 < get_or xs (i + n + 1 + 1) 0 = rising (i + n + 1) (omega arith) in
    let same : get_or xs (i + n + 1 + 1) 0 ≡ get_or xs (i + suc n + 1) 0 = ap (λ k. get_or xs k 0) (omega arith) in
    omega (arith, before, next, same)

rest_rises : (x : ℕ) (xs : List ℕ) → IsStrictlyIncreasing (x ∷ xs) → IsStrictlyIncreasing xs
rest_rises x xs rising k h =
    let less : get_or (x ∷ xs) (suc k) 0 < get_or (x ∷ xs) (suc k + 1) 0 = rising (suc k) (omega arith) in
    let place : suc k + 1 ≡ suc (k + 1) = omega arith in
    let same : get_or (x ∷ xs) (suc k + 1) 0 ≡ get_or xs (k + 1) 0 = ap (λ n. get_or (x ∷ xs) n 0) place in
    omega (arith, less, same)

starts_after : (f : FunctionFields) (routines : List FunctionFields) (k : ℕ) (d : FunctionFields) → Rising (f ∷ routines) → k < length routines → f.start < (get_or routines k d).start
starts_after f routines k d rising h =
    let all = map (λ (g : FunctionFields). g.start) (f ∷ routines) in
    let len = length-map (f ∷ routines) (λ (g : FunctionFields). g.start) in
    let less : get_or all 0 0 < get_or all (0 + k + 1) 0 = far all 0 k rising (omega (arith, len)) in
    let next : 0 + k + 1 ≡ suc k = omega arith in
    let place : get_or all (0 + k + 1) 0 ≡ get_or (map (λ (g : FunctionFields). g.start) routines) k 0 = ap (λ n. get_or all n 0) next in
    let read = get_or-map (λ (g : FunctionFields). g.start) routines k d 0 h in
    omega (arith, less, place, read)

pub find_at : (routines : List FunctionFields) (a k : ℕ) (d : FunctionFields) → Rising routines → k < length routines → (get_or routines k d).start ≡ a
    → find (λ f. f.start == a) routines ≡ Some (get_or routines k d)
find_at [] a k d rising h e = absurd (omega arith)
find_at (f ∷ routines) a zero d rising h e = let test : (f.start == a) ≡ true = grind (arith, nat_tests) in rw test refl
find_at (f ∷ routines) a (suc k) d rising h e =
    let after = starts_after f routines k d rising (omega arith) in
    let test : (f.start == a) ≡ false = grind (arith, nat_tests) in
    rw test (find_at routines a k d (rest_rises f.start (map (λ (g : FunctionFields). g.start) routines) rising) (omega arith) e)

pub find_none : (routines : List FunctionFields) (a : ℕ) → ((k : ℕ) (d : FunctionFields) → k < length routines → (get_or routines k d).start ≢ a) → find (λ f. f.start == a) routines ≡ None
find_none [] a h = refl
find_none (f ∷ routines) a h =
    let here : f.start ≢ a = h 0 f (omega arith) in
    let test : (f.start == a) ≡ false = grind (arith, nat_tests) in
    rw test (find_none routines a (λ k d within. h (suc k) d (omega arith)))

-- the last routine that starts at or before an address tells which starts there
pub find_last : (routines : List FunctionFields) (a count : ℕ) (d : FunctionFields) → Rising routines → count ≤ length routines → 0 < count → (get_or routines (count - 1) d).start ≡ a
    → find (λ f. f.start == a) routines ≡ Some (get_or routines (count - 1) d)
find_last routines a count d rising within some e = find_at routines a (count - 1) d rising (omega arith) e

pub find_no_last : (routines : List FunctionFields) (a count : ℕ) → Rising routines → count ≤ length routines
    → IsPartitionPoint (λ f. nat_le f.start a ≡ true) (λ f. nat_le f.start a ≡ false) routines count
    → (0 < count → (d : FunctionFields) → (get_or routines (count - 1) d).start ≢ a) → find (λ f. f.start == a) routines ≡ None
find_no_last routines a count rising within parts other = find_none routines a (λ k d h e. go k d h e (cases_lt k count))
  where
    go : (k : ℕ) (d : FunctionFields) → k < length routines → (get_or routines k d).start ≡ a → (k < count) ⊎ (count ≤ k) → ⊥
    go k d h e (inl less) =
        let order = starts_rise routines rising k (count - 1) d (omega arith) (omega arith) in
        let test : nat_le (get_or routines (count - 1) d).start a ≡ true = parts.0 (count - 1) d (omega arith) (omega arith) in
        let below : (get_or routines (count - 1) d).start ≤ a = grind (arith, nat_tests) in
        other (omega arith) d (omega (arith, order, below, e))
    go k d h e (inr more) =
        let test : nat_le (get_or routines k d).start a ≡ false = parts.1 k d more h in
        let above : a < (get_or routines k d).start = grind (arith, nat_tests) in
        absurd (omega (arith, above, e))
