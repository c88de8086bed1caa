-- The tags of a run's jobs, one after the other.
use Rattle.std.proofs.Common.{◌≡◌, ℕ, zero, suc, ◌+◌, ◌-◌, ◌<◌, ◌≤◌, List, [], ◌∷◌, ◌++◌, drop, length, take, refl, sym, ap, subst, arith, length-append}
use Rattle.std.specs.Prelude.{Option, None, Some}
use Rattle.std.specs.List.{All, AllZip}
use Rattle.std.proofs.lemmas.List.{length-take-le}
use Rattle.std.proofs.lemmas.List.Elements.{All-append, All-drop, All-take}
use mathlib.Core.Option.{some, some-injective, some-ne-none}
use lib.ListN.{get_elem?}
use Rattle.guest_model.specs.Serial.{Position}
use Rattle.boundary_verify.specs.Cuts.{AreBetween}
use Rattle.boundary_verify.specs.Path.{Path}
use Rattle.boundary_verify.specs.Pieces.{HoldsForPaths}
use Rattle.boundary_verify.proofs.Cuts.{within_last}
use Rattle.rv_machine.specs.declared.step.End.{End}
use Rattle.slice_ring.specs.Ticket.{Tag}
use Rattle.live_run.specs.Live.{IsWithin}
use Rattle.live_run.specs.Merged.{IsChain, last_cut}
use Rattle.live_run.specs.Tags.{path_of_tag, reached_by, tags_from}

-- one cut more
pub tags_more : (b c : ℕ) (cuts : List ℕ) → tags_from b (cuts ++ c ∷ []) None ≡ tags_from b cuts None ++ (last_cut b cuts, c) ∷ []
tags_more b c [] = refl
tags_more b c (d ∷ cuts) = ap (λ (ts : List Tag). (b, d) ∷ ts) (tags_more d c cuts)

-- the end of the run
pub tags_last : (b : ℕ) (cuts : List ℕ) (end : End) → tags_from b cuts (Some end) ≡ tags_from b cuts None ++ (last_cut b cuts, 0) ∷ []
tags_last b [] end = refl
tags_last b (c ∷ cuts) end = ap (λ (ts : List Tag). (b, c) ∷ ts) (tags_last c cuts end)

pub last_more : (b c : ℕ) (cuts : List ℕ) → last_cut b (cuts ++ c ∷ []) ≡ c
last_more b c [] = refl
last_more b c (d ∷ cuts) = last_more d c cuts

pub as_many_tags : (b : ℕ) (cuts : List ℕ) → length (tags_from b cuts None) ≡ length cuts
as_many_tags b [] = refl
as_many_tags b (c ∷ cuts) = ap suc (as_many_tags c cuts)

-- each lies within the run, behind the one before it
chain_from : (t b : ℕ) (cuts : List ℕ) (ended : Option End) → AreBetween t b cuts → (n : ℕ) (tag : Tag) → get_elem? (tags_from b cuts ended) n ≡ some tag
    → (tag.0 ≡ reached_by t b (take n (tags_from b cuts ended))) × IsWithin t tag.0 tag.1
chain_from t b [] None order n tag at = absurd (some-ne-none tag (sym at))
chain_from t b [] (Some end) order zero tag at =
    let is : (b, 0) ≡ tag = some-injective (b, 0) tag at in
    subst (λ (k : Tag). (k.0 ≡ b) × IsWithin t k.0 k.1) is (refl, order)
chain_from t b [] (Some end) order (suc n) tag at = absurd (some-ne-none tag (sym at))
chain_from t b (zero ∷ cuts) ended order n tag at = absurd (omega (arith, order.0))
chain_from t b (suc c ∷ cuts) ended order zero tag at =
    let is : (b, suc c) ≡ tag = some-injective (b, suc c) tag at in
    subst (λ (k : Tag). (k.0 ≡ b) × IsWithin t k.0 k.1) is (refl, (order.0, within_last t (suc c) cuts order.1))
chain_from t b (suc c ∷ cuts) ended order (suc n) tag at = chain_from t (suc c) cuts ended order.1 n tag at

pub tags_chain : (t : ℕ) (cuts : List ℕ) (ended : Option End) (tags : List Tag) → tags ≡ tags_from 0 cuts ended → AreBetween t 0 cuts → IsChain t tags
tags_chain t cuts ended tags are order = subst (IsChain t) (sym are) (chain_from t 0 cuts ended order)

-- what is so of each job's path is so of the paths of the run
pub holds_for_paths : {X : Type 0} (P : Path → X → Type 0) (p : Position) (t b : ℕ) (cuts : List ℕ) (end : End) (xs : List X) → AreBetween t b cuts → AllZip (λ x tag. P (path_of_tag p t tag) x) xs (tags_from b cuts (Some end))
    → HoldsForPaths P p t b cuts xs
holds_for_paths P p t b [] end [] order z = absurd z
holds_for_paths P p t b [] end (x ∷ []) order z = z.0
holds_for_paths P p t b [] end (x ∷ other ∷ xs) order z = absurd z.1
holds_for_paths P p t b (zero ∷ cuts) end xs order z = absurd (omega (arith, order.0))
holds_for_paths P p t b (suc c ∷ cuts) end [] order z = absurd z
holds_for_paths P p t b (suc c ∷ cuts) end (x ∷ xs) order z = (z.0, holds_for_paths P p t (suc c) cuts end xs order.1 z.1)

-- one more of a list's elements
pub take_more : {X : Type 0} (xs : List X) (n : ℕ) (x : X) → get_elem? xs n ≡ some x → take (suc n) xs ≡ take n xs ++ x ∷ []
take_more [] n x at = absurd (some-ne-none x (sym at))
take_more (y ∷ xs) zero x at = ap (λ z. z ∷ []) (some-injective y x at)
take_more (y ∷ xs) (suc n) x at = ap (λ zs. y ∷ zs) (take_more xs n x at)

pub take_before : {X : Type 0} (xs : List X) (n : ℕ) (x : X) → n ≤ length xs → take n (xs ++ x ∷ []) ≡ take n xs
take_before xs zero x within = refl
take_before [] (suc n) x within = absurd (omega (arith, within))
take_before (y ∷ xs) (suc n) x within = ap (λ zs. y ∷ zs) (take_before xs n x (omega (arith, within)))

pub take_all : {X : Type 0} (xs : List X) (n : ℕ) → n ≡ length xs → take n xs ≡ xs
take_all [] zero is = refl
take_all [] (suc n) is = absurd (omega (arith, is))
take_all (x ∷ xs) zero is = absurd (omega (arith, is))
take_all (x ∷ xs) (suc n) is = ap (λ zs. x ∷ zs) (take_all xs n (omega (arith, is)))

-- what is so of all elements of a list is so of all but its last, of which there is one
pub all_but_last : {X : Type 0} (P : X → Type 0) (xs ys : List X) (n : ℕ) → ys ≡ take (n - 1) xs → n ≡ length xs → 2 ≤ n → All P xs → (0 < length ys) × All P ys
all_but_last P xs ys n is len enough all =
    let size : length (take (n - 1) xs) ≡ n - 1 = length-take-le (n - 1) xs (omega (arith, len)) in
    (omega (arith, ap length is, size, enough), subst (All P) (sym is) (All-take P (n - 1) xs all))

pub all_of_both : {X : Type 0} (P : X → Type 0) (ys xs : List X) (n m : ℕ) → All P ys → All P xs → All P (take n (ys ++ drop m xs))
all_of_both P ys xs n m first all = All-take P n (ys ++ drop m xs) (All-append P ys (drop m xs) first (All-drop P m xs all))

as_many_of_both : {X : Type 0} (ys xs : List X) (n m : ℕ) → length ys ≡ n → m ≡ length ys → length (take n (ys ++ drop m xs)) ≡ n
as_many_of_both ys xs n m same whole =
    let size : length (ys ++ drop m xs) ≡ length ys + length (drop m xs) = simp length-append in length-take-le n (ys ++ drop m xs) (omega (arith, size, same))

-- all seats, of which one was taken back, and then the others, as many as this list has
pub all_taken_back : {X : Type 0} (ys xs seats : List X) (n before own after : ℕ) → xs ≡ take (length seats - 1) seats → n ≡ length xs → length ys ≡ length xs → 2 ≤ length seats → own ≡ before + 1 → after ≡ own + length (take n (ys ++ drop (length ys) xs)) → after ≡ before + length seats
all_taken_back ys xs seats n before own after are len same enough first others =
    let size : length (take (length seats - 1) seats) ≡ length seats - 1 = length-take-le (length seats - 1) seats (omega arith) in
    let rest : length (take n (ys ++ drop (length ys) xs)) ≡ n = as_many_of_both ys xs n (length ys) (omega (arith, len, same)) refl in omega (arith, ap length are, size, len, enough, first, others, rest)
