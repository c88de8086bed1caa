-- The flat list is read, written and compared at each address.
use Rattle.std.proofs.Common.{zero, suc, replicate, false, ◌≡◌, ℕ, ◌<◌, ◌^◌, ◌==◌, cond, refl, sym, ◌∙◌, length, get_or, map, arith, get_or-set_same, get_or-set_other, inl, inr}
use Rattle.std.specs.List.{range_with_len}
use Rattle.std.proofs.Math.ListN.{set, length-set}
use Rattle.std.proofs.lemmas.List.FromFn.{get_or-map-range_with_len, length-map-range_with_len, fill_by_all}
use Rattle.std.proofs.lemmas.List.{get_or_past, length-replicate}
use Rattle.std.proofs.lemmas.Bool.{cases_eq, cases_lt}
use Rattle.std.proofs.lemmas.Bool.Decides.{nat_tests}
use Rattle.cow_pages.specs.Contents.{flat}
use Rattle.cow_pages.specs.Marks.{unmarked}

pub get_or-flat : (f : ℕ → ℕ) (a : ℕ) → a < 2 ^ 32 → get_or (flat f) a 0 ≡ f a
unfolding flat
get_or-flat f a lt = get_or-map-range_with_len f 0 (2 ^ 32) a a 0 lt (omega arith)

same_list : (n : ℕ) (f g : ℕ → ℕ) → ((q : ℕ) → q < n → g q ≡ f q) → map g (range_with_len 0 n) ≡ map f (range_with_len 0 n)
same_list n f g is = fill_by_all f _ n 0 (length-map-range_with_len g 0 n) (λ k lt. get_or-map-range_with_len g 0 n k k 0 lt (omega arith) ∙ is k lt)

pub flat-same : (f g : ℕ → ℕ) → ((q : ℕ) → q < 2 ^ 32 → g q ≡ f q) → flat g ≡ flat f
unfolding flat
flat-same f g is = same_list (2 ^ 32) f g is

at_index : (n : ℕ) (f g : ℕ → ℕ) (a b : ℕ) → a < n → ((q : ℕ) → q < n → g q ≡ cond (q == a) b (f q)) → (k : ℕ) → k < n → get_or (set (map f (range_with_len 0 n)) a b) k 0 ≡ g k
at_index n f g a b lt is k kn =
    let len = length-map-range_with_len f 0 n in
    let old = get_or-map-range_with_len f 0 n k k 0 kn (omega arith) in
    let now = is k kn in
    grind (arith, nat_tests, get_or-set_same, get_or-set_other, cases_eq k a)

set_list : (n : ℕ) (f g : ℕ → ℕ) (a b : ℕ) → a < n → ((q : ℕ) → q < n → g q ≡ cond (q == a) b (f q)) → map g (range_with_len 0 n) ≡ set (map f (range_with_len 0 n)) a b
set_list n f g a b lt is = sym (fill_by_all g _ n 0 (length-set (map f (range_with_len 0 n)) a b ∙ length-map-range_with_len f 0 n) (at_index n f g a b lt is))

pub flat-set : (f g : ℕ → ℕ) (a b : ℕ) → a < 2 ^ 32 → ((q : ℕ) → q < 2 ^ 32 → g q ≡ cond (q == a) b (f q)) → flat g ≡ set (flat f) a b
unfolding flat
flat-set f g a b lt is = set_list (2 ^ 32) f g a b lt is

pub length-flat : (f : ℕ → ℕ) → length (flat f) ≡ 2 ^ 32
unfolding flat
length-flat f = length-map-range_with_len f 0 (2 ^ 32)

replicated : (n k : ℕ) → get_or (replicate n false) k false ≡ false
replicated zero zero = refl
replicated zero (suc k) = refl
replicated (suc n) zero = refl
replicated (suc n) (suc k) = replicated n k

pub length-unmarked : (n : ℕ) → length (unmarked n) ≡ n
unfolding unmarked
length-unmarked n = length-replicate n false

pub get_or-unmarked : (n k : ℕ) → get_or (unmarked n) k false ≡ false
unfolding unmarked
get_or-unmarked n k = replicated n k

-- pages that were never written
pub get_or-zeros : (a : ℕ) → get_or (flat (λ _. 0)) a 0 ≡ 0
get_or-zeros a = elim (cases_lt a (2 ^ 32)) [
  | inl lt ↦ get_or-flat (λ _. 0) a lt
  | inr ge ↦ get_or_past (flat (λ _. 0)) a 0 (omega (arith, length-flat (λ _. 0)))
]
