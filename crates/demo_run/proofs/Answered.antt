-- The cuts of a run rest on the answers that were asked for.
use Rattle.std.proofs.Common.{◌≡◌, ℕ, zero, suc, ◌+◌, ◌-◌, ◌*◌, ◌/◌, ◌%◌, ◌<◌, ◌≤◌, ◌||◌, Bool, false, List, [], ◌∷◌, refl, sym, ap, ◌∙◌, arith}
use Rattle.std.specs.Prelude.{◌==◌, ◌&&◌, nat_lt}
use Rattle.std.proofs.lemmas.Bool.Decides.{nat_tests}
use Rattle.std.proofs.Math.Nat.{div-mul-le_self}
use Rattle.std.proofs.lemmas.Nat.{div-add-mod', le-div}
use Rattle.guest_model.specs.Serial.{Position, position_at}
use Rattle.boundary_verify.specs.Cuts.{AreCutsAfter, CutLimits, HasNoCut, IsNextCut, is_cut, is_full, is_paced}
use Rattle.boundary_verify.proofs.Cuts.{cuts_rise, within_last}

-- before the first ask none is granted
none_yet : (limits : CutLimits) (a : ℕ → Bool) (s : ℕ) → s / limits.poll ≡ 0 → is_paced limits a s ≡ false
unfolding is_paced
none_yet limits a s early = no_multiple (s % limits.poll) (omega (arith, div-add-mod' s limits.poll, ap (λ (q : ℕ). q * limits.poll) early))
  where
    no_multiple : (r : ℕ) → s ≡ r → (nat_lt 0 s && (r == 0 && a (s / limits.poll))) ≡ false
    no_multiple r is = grind (arith, nat_tests)

one_answer : (limits : CutLimits) (a d : ℕ → Bool) (s : ℕ) → a (s / limits.poll) ≡ d (s / limits.poll) → is_paced limits a s ≡ is_paced limits d s
unfolding is_paced
one_answer limits a d s h = ap (λ (x : Bool). nat_lt 0 s && (s % limits.poll == 0 && x)) h

same_paced : (limits : CutLimits) (a d : ℕ → Bool) (s n : ℕ) → s / limits.poll ≤ n → ((k : ℕ) → 0 < k → k ≤ n → a k ≡ d k) → is_paced limits a s ≡ is_paced limits d s
same_paced limits a d s n few agree = by (s / limits.poll) refl
  where
    by : (q : ℕ) → s / limits.poll ≡ q → is_paced limits a s ≡ is_paced limits d s
    by zero is = none_yet limits a s is ∙ sym (none_yet limits d s is)
    by (suc q) is = one_answer limits a d s (agree (s / limits.poll) (omega (arith, is)) few)

-- a later position has no smaller quotient
quotient_rises : (s e w : ℕ) → 0 < w → s ≤ e → s / w ≤ e / w
quotient_rises s e w some le = le-div (s / w) e w some (omega (arith, div-mul-le_self s w, le))

module _ (limits : CutLimits) (a d : ℕ → Bool) (p : Position) (t : ℕ) (some : 0 < limits.poll) (agree : (k : ℕ) → 0 < k → k ≤ t / limits.poll → a k ≡ d k) where
  same_cut : (b s : ℕ) → s ≤ t → is_cut limits a p b s ≡ is_cut limits d p b s
  same_cut b s le = ap (λ (x : Bool). x || is_full limits (position_at b p) (s - b)) (same_paced limits a d s (t / limits.poll) (quotient_rises s t limits.poll some le) agree)

  no_cut : (b e : ℕ) → e ≤ t + 1 → HasNoCut limits a p b e → HasNoCut limits d p b e
  no_cut b e le none s after before = sym (same_cut b s (omega (arith, before, le))) ∙ none s after before

  next_cut : (b c : ℕ) → c ≤ t → IsNextCut limits a p b c → IsNextCut limits d p b c
  next_cut b c le next = record {
    later = next.later;
    none_before = no_cut b c (omega (arith, le)) next.none_before;
    is = sym (same_cut b c le) ∙ next.is;
  }

  -- the same cuts are due by other answers that agree so far
  pub same_cuts : (b : ℕ) (cuts : List ℕ) → AreCutsAfter limits a p t b cuts → AreCutsAfter limits d p t b cuts
  same_cuts b [] h = (h.0, no_cut b (t + 1) (omega arith) h.1)
  same_cuts b (c ∷ cuts) h = (next_cut b c (within_last t c cuts (cuts_rise limits a p t c cuts h.1)) h.0, same_cuts c cuts h.1)
