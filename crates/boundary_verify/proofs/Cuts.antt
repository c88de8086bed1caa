-- The cuts of a run are one list.
use Rattle.std.proofs.Common.{◌≡◌, ℕ, zero, suc, ◌+◌, ◌-◌, ◌≤◌, ◌<◌, ◌⊎◌, inl, inr, Bool, true, false, List, [], ◌∷◌, ◌++◌, refl, subst, arith}
use Rattle.std.proofs.lemmas.Bool.{cases_lt}
use Rattle.guest_model.specs.Serial.{Position}
use Rattle.boundary_verify.specs.Cuts.{AreBetween, AreCutsAfter, AreFirstCuts, CutLimits, HasNoCut, IsNextCut, is_cut}

pub cuts_rise : (limits : CutLimits) (answers : ℕ → Bool) (p : Position) (t b : ℕ) (cuts : List ℕ) → AreCutsAfter limits answers p t b cuts → AreBetween t b cuts
cuts_rise limits answers p t b [] h = h.0
cuts_rise limits answers p t b (c ∷ cuts) h = (h.0.later, cuts_rise limits answers p t c cuts h.1)

pub within_last : (t b : ℕ) (cuts : List ℕ) → AreBetween t b cuts → b ≤ t
within_last t b [] h = h
within_last t b (c ∷ cuts) h = let rest = within_last t c cuts h.1 in omega (arith, h.0)

-- a cut is not before the first one
no_sooner : (limits : CutLimits) (answers : ℕ → Bool) (p : Position) (b c d : ℕ) → b < c → is_cut limits answers p b c ≡ true → HasNoCut limits answers p b d → d ≤ c
no_sooner limits answers p b c d after cut none = go (cases_lt c d)
  where
    go : (c < d) ⊎ (d ≤ c) → d ≤ c
    go (inr le) = le
    go (inl lt) = cc (cut, none c after lt)

pub cuts_once : (limits : CutLimits) (answers : ℕ → Bool) (p : Position) (t b : ℕ) (xs ys : List ℕ) → AreCutsAfter limits answers p t b xs → AreCutsAfter limits answers p t b ys → xs ≡ ys
cuts_once limits answers p t b [] [] h k = refl
cuts_once limits answers p t b [] (c ∷ ys) h k =
    let late : t + 1 ≤ c = no_sooner limits answers p b c (t + 1) k.0.later k.0.is h.1 in
    let soon : c ≤ t = within_last t c ys (cuts_rise limits answers p t c ys k.1) in absurd (omega arith)
cuts_once limits answers p t b (c ∷ xs) [] h k =
    let late : t + 1 ≤ c = no_sooner limits answers p b c (t + 1) h.0.later h.0.is k.1 in
    let soon : c ≤ t = within_last t c xs (cuts_rise limits answers p t c xs h.1) in absurd (omega arith)
cuts_once limits answers p t b (c ∷ xs) (d ∷ ys) h k =
    let one : d ≤ c = no_sooner limits answers p b c d h.0.later h.0.is k.0.none_before in
    let two : c ≤ d = no_sooner limits answers p b d c k.0.later k.0.is h.0.none_before in
    let same : c ≡ d = omega arith in
    let after_it : ℕ → Type 0 = λ e. AreCutsAfter limits answers p t e xs in
    rw (same, cuts_once limits answers p t d xs ys (subst after_it same h.1) k.1) refl

-- the first cut behind b among the next n positions, if there is one
data Search (limits : CutLimits) (answers : ℕ → Bool) (p : Position) (b n : ℕ) : Type 0 where
  none : HasNoCut limits answers p b (b + n + 1) → Search limits answers p b n
  first : (c : ℕ) → c ≤ b + n → IsNextCut limits answers p b c → Search limits answers p b n

search_first : (limits : CutLimits) (answers : ℕ → Bool) (p : Position) (b n : ℕ) → Search limits answers p b n
search_first limits answers p b zero = none (λ s after before. absurd (omega (arith, after, before)))
search_first limits answers p b (suc n) = go (search_first limits answers p b n)
  where
    next : HasNoCut limits answers p b (b + n + 1) → (is : Bool) → is_cut limits answers p b (b + n + 1) ≡ is → Search limits answers p b (suc n)
    next earlier true e = first (b + n + 1) (omega arith) (record { later = omega arith; none_before = earlier; is = e })
    next earlier false e = none (λ s after before. by_cases s after before (cases_lt s (b + n + 1)))
      where
        by_cases : (s : ℕ) → b < s → s < b + suc n + 1 → (s < b + n + 1) ⊎ (b + n + 1 ≤ s) → is_cut limits answers p b s ≡ false
        by_cases s after before (inl lt) = earlier s after lt
        by_cases s after before (inr le) = let here : s ≡ b + n + 1 = omega arith in rw here e

    go : Search limits answers p b n → Search limits answers p b (suc n)
    go (none earlier) = next earlier (is_cut limits answers p b (b + n + 1)) refl
    go (first c within next) = first c (omega arith) next

-- a run has cuts: from b on up to t, n at least as many positions as there are
cuts_within : (limits : CutLimits) (answers : ℕ → Bool) (p : Position) (n t b : ℕ) → b ≤ t → t ≤ b + n → (cuts : List ℕ) × AreCutsAfter limits answers p t b cuts
cuts_within limits answers p zero t b before le = ([], (before, λ s after early. absurd (omega (arith, after, early))))
cuts_within limits answers p (suc n) t b before le = go (λ c. cuts_within limits answers p n t c) (search_first limits answers p b (t - b))
  where
    go : ((c : ℕ) → c ≤ t → t ≤ c + n → (cuts : List ℕ) × AreCutsAfter limits answers p t c cuts) → Search limits answers p b (t - b) → (cuts : List ℕ) × AreCutsAfter limits answers p t b cuts
    go later (none earlier) = let size : b + (t - b) + 1 ≡ t + 1 = omega arith in ([], (before, subst (λ e. HasNoCut limits answers p b e) size earlier))
    go later (first c within next) =
        let rest = later c (omega arith) (omega (arith, next.later)) in (c ∷ rest.0, (next, rest.1))

pub cuts_found : (limits : CutLimits) (answers : ℕ → Bool) (p : Position) (t : ℕ) → (cuts : List ℕ) × AreCutsAfter limits answers p t 0 cuts
cuts_found limits answers p t = cuts_within limits answers p t t 0 (omega arith) (omega arith)

-- one cut after the other
pub cut_more : (limits : CutLimits) (answers : ℕ → Bool) (p : Position) (b e c : ℕ) (cuts : List ℕ) → AreFirstCuts limits answers p e b cuts → IsNextCut limits answers p e c → AreFirstCuts limits answers p c b (cuts ++ c ∷ [])
cut_more limits answers p b e c [] h next = (subst (λ o. IsNextCut limits answers p o c) h next, refl)
cut_more limits answers p b e c (d ∷ cuts) h next = (h.0, cut_more limits answers p d e c cuts h.1 next)

pub cuts_all : (limits : CutLimits) (answers : ℕ → Bool) (p : Position) (t b e : ℕ) (cuts : List ℕ) → AreFirstCuts limits answers p e b cuts → e ≤ t → HasNoCut limits answers p e (t + 1) → AreCutsAfter limits answers p t b cuts
cuts_all limits answers p t b e [] h within clear = (subst (λ o. o ≤ t) h within, subst (λ o. HasNoCut limits answers p o (t + 1)) h clear)
cuts_all limits answers p t b e (c ∷ cuts) h within clear = (h.0, cuts_all limits answers p t c e cuts h.1 within clear)
