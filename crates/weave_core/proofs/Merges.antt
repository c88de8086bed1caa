-- The merged slices, and what holds once the moves are closed.
use Rattle.std.proofs.Common.{◌≡◌, ℕ, suc, ◌+◌, ◌<◌, Bool, true, false, cond, not, ◌&&◌, eqb, List, [], ◌∷◌, length, sym, refl, ap, ◌∙◌, arith, ne_eqb}
use mathlib.Core.Logic.{dite}
use native.Mathlib.Decide.{ℕ_discrete}
use Rattle.std.specs.List.{range_with_len}
use Rattle.weave_core.specs.declared.moves.Move.{Move}
use Rattle.weave_core.specs.declared.moves.Move.TheVariants.{Publish, Claim, Finish, Merge, Close}
use Rattle.weave_core.specs.Moves.{WeaveState, empty, published, is_allowed, after, state_after, AllAllowed}
use Rattle.weave_core.specs.Events.{events_of, merged_slices}

merges : (ms : List Move) (s : WeaveState) → (k : ℕ) × (merged_slices (events_of s ms) ≡ range_with_len s.merged k) × ((state_after s ms).merged ≡ s.merged + k)
merges [] s = (0, refl, (let e : s.merged ≡ s.merged + 0 = omega arith in e))
merges (Publish ∷ ms) s = merges ms (after s Publish)
merges (Claim n who ∷ ms) s = merges ms (after s (Claim n who))
merges (Finish n who ∷ ms) s = merges ms (after s (Finish n who))
merges (Merge ∷ ms) s = let got = merges ms (after s Merge) in let j : ℕ = got.0 in (
  suc j,
  ap (λ ns. s.merged ∷ ns) got.1,
  got.2 ∙ (let e : s.merged + 1 + j ≡ s.merged + suc j = omega arith in e),
)
merges (Close ∷ ms) s = merges ms (after s Close)

pub merged_in_order : (limit : ℕ) (ms : List Move) → merged_slices (events_of (empty limit) ms) ≡ range_with_len 0 (state_after (empty limit) ms).merged
merged_in_order limit ms = let got = merges ms (empty limit) in let k : ℕ = got.0 in got.1 ∙ ap (range_with_len 0) (sym (got.2 ∙ (let e : 0 + k ≡ k = omega arith in e)))

not_true : false ≡ true → ⊥
not_true e = let l : 0 ≡ 1 = ap (λ (b : Bool). cond b 1 0) e in less 0 1 l (omega arith)
  where
    less : (a b : ℕ) → a ≡ b → a < b → ⊥
    less a b e l = omega arith

closed_refuses : (b c : Bool) → b ≡ true → (not b && c) ≡ false
closed_refuses true c e = refl
closed_refuses false c e = absurd (not_true e)

refuses_both : (b c d : Bool) → b ≡ true → (not b && c && d) ≡ false
refuses_both true c d e = refl
refuses_both false c d e = absurd (not_true e)

pub ended : (s : WeaveState) (m : Move) → s.closed ≡ true → is_allowed s m ≡ false
ended s Publish e = refuses_both s.closed _ _ e
ended s (Claim n who) e = closed_refuses s.closed _ e
ended s (Finish n who) e = closed_refuses s.closed _ e
ended s Merge e = closed_refuses s.closed _ e
ended s Close e = closed_refuses s.closed _ e

-- where it is closed, nothing is outstanding
abbrev Settled : WeaveState → Type 0
Settled s = s.closed ≡ true → length s.phases ≡ 0

zero_is : (n : ℕ) → eqb n 0 ≡ true → n ≡ 0
zero_is n e = dite (ℕ_discrete n 0) (λ same. same) (λ apart. absurd (not_true (sym (ne_eqb n 0 apart) ∙ e)))

last_of : (a b : Bool) → (a && b) ≡ true → b ≡ true
last_of true b e = e
last_of false b e = absurd (not_true e)

settles : (s : WeaveState) (m : Move) → is_allowed s m ≡ true → Settled s → Settled (after s m)
settles s Publish ok h = λ e. absurd (not_true (sym (ended s Publish e) ∙ ok))
settles s (Claim n who) ok h = λ e. absurd (not_true (sym (ended s (Claim n who) e) ∙ ok))
settles s (Finish n who) ok h = λ e. absurd (not_true (sym (ended s (Finish n who) e) ∙ ok))
settles s Merge ok h = λ e. absurd (not_true (sym (ended s Merge e) ∙ ok))
settles s Close ok h = λ e. zero_is (length s.phases) (last_of (not s.closed) (eqb (length s.phases) 0) ok)

all_settle : (ms : List Move) (s : WeaveState) → AllAllowed s ms → Settled s → Settled (state_after s ms)
all_settle [] s ok h = h
all_settle (m ∷ ms) s ok h = all_settle ms (after s m) ok.1 (settles s m ok.0 h)

pub closed_is_merged : (limit : ℕ) (ms : List Move) → AllAllowed (empty limit) ms → (state_after (empty limit) ms).closed ≡ true → (state_after (empty limit) ms).merged ≡ published (state_after (empty limit) ms)
closed_is_merged limit ms ok e = let s : WeaveState = state_after (empty limit) ms in let none : length s.phases ≡ 0 = all_settle ms (empty limit) ok (λ f. absurd (not_true f)) e in (let g : s.merged ≡ s.merged + length s.phases = omega arith in g)
