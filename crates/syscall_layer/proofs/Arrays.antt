-- The array of ranges that a call names.
use Rattle.std.proofs.Common.{cond, suc, [], ◌∷◌, ◌++◌, drop, inl, inr, ◌≡◌, ℕ, ◌+◌, ◌*◌, ◌<◌, ◌≤◌, ◌^◌, Bool, true, false, ◌&&◌, List, length, get_or, take, sym, ap, ◌∙◌, arith}
use Rattle.std.specs.List.{flat_map, list_all}
use Rattle.std.proofs.Math.Seq.{take-suc, drop-cons}
use Rattle.std.proofs.lemmas.Bool.{cases_Bool, true≢false}
use Rattle.std.specs.Prelude.{filter}
use Rattle.std.proofs.lemmas.Grind.{flat_map-append}
use Rattle.std.proofs.lemmas.List.Elements.{filter_more}
use Rattle.std.proofs.lemmas.List.FromFn.{length-map-range_with_len, get_or-map-range_with_len}
use Rattle.std.proofs.lemmas.List.Folds.{list_all_more, list_all_at}
use Rattle.std.proofs.lemmas.List.{append-nil, take_all, take-append-drop}
use Rattle.std.proofs.lemmas.List.Sums.{sum_by_more}
use Rattle.guest_model.specs.Machine.{Machine}
use Rattle.guest_model.specs.Range.{Range, total_size}
use Rattle.guest_model.specs.Calls.{argument, can_read_array, range_at, array_of, range_bytes}
use Rattle.guest_model.specs.declared.Access.TheVariants.{Read}
use Rattle.guest_mem.proofs.Permitted.{range_end}

pub length_ranges : (m : Machine) → length (array_of m) ≡ argument m 2
unfolding array_of
length_ranges m = length-map-range_with_len (λ k. range_at m (argument m 1 + 8 * k)) 0 (argument m 2)

-- range k
pub range_is : (m : Machine) (k : ℕ) → k < argument m 2 → get_or (array_of m) k (range_at m 0) ≡ range_at m (argument m 1 + 8 * k)
unfolding array_of
range_is m k lt = get_or-map-range_with_len (λ k. range_at m (argument m 1 + 8 * k)) 0 (argument m 2) k k (range_at m 0) lt (omega arith)

-- the array ends at 2^32 or before
pub array_end : (m : Machine) (k : ℕ) → can_read_array m ≡ true → k < argument m 2 → argument m 1 + 8 * k + 8 ≤ 2 ^ 32
array_end m k readable lt =
    let end = range_end Read m.space.areas (argument m 1) (8 * argument m 2) readable in
    omega (arith, end)

-- the array_of up to range k and with it
pub total_more : (m : Machine) (k : ℕ) → k < argument m 2 → total_size (take (k + 1) (array_of m)) ≡ total_size (take k (array_of m)) + (range_at m (argument m 1 + 8 * k)).size
total_more m k lt =
    sum_by_more (λ p. p.size) (array_of m) k (range_at m 0) (omega (arith, length_ranges m))
    ∙ ap (λ (p : Range). total_size (take k (array_of m)) + p.size) (range_is m k lt)

pub all_more : (m : Machine) (test : Range → Bool) (k : ℕ) → k < argument m 2 → list_all test (take (k + 1) (array_of m)) ≡ (list_all test (take k (array_of m)) && test (range_at m (argument m 1 + 8 * k)))
all_more m test k lt =
    list_all_more test (array_of m) k (range_at m 0) (omega (arith, length_ranges m))
    ∙ ap (λ (p : Range). list_all test (take k (array_of m)) && test p) (range_is m k lt)

pub not_all : (m : Machine) (test : Range → Bool) (k : ℕ) → k < argument m 2 → test (range_at m (argument m 1 + 8 * k)) ≡ false → list_all test (array_of m) ≡ false
not_all m test k lt h = list_all_at test (array_of m) k (range_at m 0) (omega (arith, length_ranges m)) (ap test (range_is m k lt) ∙ h)

-- all array_of
pub take_ranges : (m : Machine) (k : ℕ) → argument m 2 ≤ k → take k (array_of m) ≡ array_of m
take_ranges m k le = take_all k (array_of m) (omega (arith, length_ranges m))

pub all_at : (m : Machine) (test : Range → Bool) (k : ℕ) → list_all test (array_of m) ≡ true → k < argument m 2 → test (range_at m (argument m 1 + 8 * k)) ≡ true
all_at m test k all lt = elim (cases_Bool (test (range_at m (argument m 1 + 8 * k)))) [
  | inl h ↦ h
  | inr h ↦ absurd (true≢false (sym all ∙ not_all m test k lt h))
]

next_range : (m : Machine) (k : ℕ) → k < argument m 2 → take (k + 1) (array_of m) ≡ take k (array_of m) ++ range_at m (argument m 1 + 8 * k) ∷ []
next_range m k lt =
    let one : k + 1 ≡ suc k = omega arith in
    ap (λ (i : ℕ). take i (array_of m)) one
    ∙ (take-suc (array_of m) k (range_at m 0) (omega (arith, length_ranges m)) ∙ ap (λ (p : Range). take k (array_of m) ++ p ∷ []) (range_is m k lt))

other_ranges : (m : Machine) (k : ℕ) → k < argument m 2 → take k (array_of m) ++ range_at m (argument m 1 + 8 * k) ∷ drop (suc k) (array_of m) ≡ array_of m
other_ranges m k lt =
    ap (λ (p : Range). take k (array_of m) ++ p ∷ drop (suc k) (array_of m)) (sym (range_is m k lt))
    ∙ (ap (λ (ps : List Range). take k (array_of m) ++ ps) (sym (drop-cons (array_of m) k (range_at m 0) (omega (arith, length_ranges m)))) ∙ take-append-drop k (array_of m))

-- the bytes of the array_of up to range k and with it
pub bytes_more : (m : Machine) (k : ℕ) → k < argument m 2 → flat_map (range_bytes m) (take k (array_of m)) ++ range_bytes m (range_at m (argument m 1 + 8 * k)) ≡ flat_map (range_bytes m) (take (k + 1) (array_of m))
bytes_more m k lt =
    let p = range_at m (argument m 1 + 8 * k) in
    sym (ap (flat_map (range_bytes m)) (next_range m k lt)
    ∙ (flat_map-append (range_bytes m) (take k (array_of m)) (p ∷ []) ∙ ap (λ (xs : List ℕ). flat_map (range_bytes m) (take k (array_of m)) ++ xs) (append-nil (range_bytes m p))))

-- the bytes before range k, of it, and behind it
pub bytes_whole : (m : Machine) (k : ℕ) → k < argument m 2
    → flat_map (range_bytes m) (take k (array_of m)) ++ (range_bytes m (range_at m (argument m 1 + 8 * k)) ++ flat_map (range_bytes m) (drop (suc k) (array_of m))) ≡ flat_map (range_bytes m) (array_of m)
bytes_whole m k lt =
    sym (flat_map-append (range_bytes m) (take k (array_of m)) (range_at m (argument m 1 + 8 * k) ∷ drop (suc k) (array_of m))) ∙ ap (flat_map (range_bytes m)) (other_ranges m k lt)

-- the array_of of bytes among those up to range k, and whether it is one
pub kept_more : (m : Machine) (test : Range → Bool) (k : ℕ) → k < argument m 2
    → filter test (take (k + 1) (array_of m)) ≡ filter test (take k (array_of m)) ++ cond (test (range_at m (argument m 1 + 8 * k))) (range_at m (argument m 1 + 8 * k) ∷ []) []
kept_more m test k lt =
    filter_more test (array_of m) k (range_at m 0) (omega (arith, length_ranges m))
    ∙ ap (λ (p : Range). filter test (take k (array_of m)) ++ cond (test p) (p ∷ []) []) (range_is m k lt)
