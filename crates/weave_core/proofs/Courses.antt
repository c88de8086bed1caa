-- What happens to each slice, over every list of allowed moves, is a beginning of one course.
use Rattle.std.proofs.Common.{◌≡◌, ℕ, zero, suc, ◌+◌, ◌-◌, ◌<◌, ◌≤◌, ◌≢◌, ◌⊎◌, inl, inr, Bool, true, false, cond, ◌&&◌, eqb, List, [], ◌∷◌, ◌++◌, length, get_or, set, take, drop, sym, refl, ap, ◌∙◌, subst, ⊎_elim, arith, append-nil, append_assoc, eq-eqb, ne_eqb, le-ltb, lt-ltb, lt_of_not-le, get_or-set_other, get_or-set_same}
use mathlib.Core.Logic.{dite}
use native.Mathlib.Decide.{ℕ_discrete, dec_le}
use Rattle.weave_core.specs.declared.moves.Phase.{Phase}
use Rattle.weave_core.specs.declared.moves.Phase.TheVariants.{Absent, Ready, Taken, Done}
use Rattle.weave_core.specs.declared.moves.Move.{Move}
use Rattle.weave_core.specs.declared.moves.Move.TheVariants.{Publish, Claim, Finish, Merge, Close}
use Rattle.weave_core.specs.Moves.{WeaveState, empty, published, phase_of, is_ready, is_taken_by, is_done, is_allowed, after, state_after, AllAllowed}
use Rattle.weave_core.specs.Events.{Event, is_published, is_claimed_by, is_finished_by, is_merged, course, event_of, events_of, of_slice, HasCome, StandsAt}

-- the phase of a slice that is not merged
abbrev pub entry : WeaveState → ℕ → Phase
entry s n = get_or s.phases (n - s.merged) Absent

-- StandsAt, by the entry in the list of phases
abbrev pub Stands : WeaveState → ℕ → List Event → Type 0
Stands s n es = ((n < s.merged) × ((who : ℕ) × (es ≡ course who))) ⊎ ((s.merged ≤ n) × HasCome (entry s n) es)

bad : false ≡ true → ⊥
bad e = let l : 0 ≡ 1 = ap (λ (b : Bool). cond b 1 0) e in less 0 1 l (omega arith)
  where
    less : (a b : ℕ) → a ≡ b → a < b → ⊥
    less a b e l = omega arith

second : (a b : Bool) → (a && b) ≡ true → b ≡ true
second true b e = e
second false b e = absurd (bad e)

of_same : (n k : ℕ) (d : Event) → k ≡ n → of_slice n ((k, d) ∷ []) ≡ d ∷ []
of_same n k d e = ap (λ (b : Bool). cond b (d ∷ []) []) (eq-eqb k n e)

of_other : (n k : ℕ) (d : Event) → k ≢ n → of_slice n ((k, d) ∷ []) ≡ []
of_other n k d e = ap (λ (b : Bool). cond b (d ∷ []) []) (ne_eqb k n e)

entry_is : (s : WeaveState) (n : ℕ) → s.merged ≤ n → phase_of s n ≡ entry s n
entry_is s n le = ap (λ (b : Bool). cond b Absent (entry s n)) (le-ltb n s.merged le)

merged_is_absent : (s : WeaveState) (n : ℕ) → n < s.merged → phase_of s n ≡ Absent
merged_is_absent s n lt = ap (λ (b : Bool). cond b Absent (entry s n)) (lt-ltb n s.merged lt)

ready_is : (p : Phase) → is_ready p ≡ true → p ≡ Ready
ready_is Absent e = absurd (bad e)
ready_is Ready e = refl
ready_is (Taken w) e = absurd (bad e)
ready_is Done e = absurd (bad e)

done_is : (p : Phase) → is_done p ≡ true → p ≡ Done
done_is Absent e = absurd (bad e)
done_is Ready e = absurd (bad e)
done_is (Taken w) e = absurd (bad e)
done_is Done e = refl

taken_is : (w : ℕ) (p : Phase) → is_taken_by w p ≡ true → p ≡ Taken w
taken_is w Absent e = absurd (bad e)
taken_is w Ready e = absurd (bad e)
taken_is w (Taken o) e = dite (ℕ_discrete o w) (λ same. ap Taken same) (λ apart. absurd (bad (sym (ne_eqb o w apart) ∙ e)))
taken_is w Done e = absurd (bad e)

-- a slice of which a test holds that fails of an absent one is not merged
not_merged : (s : WeaveState) (k : ℕ) (test : Phase → Bool) → test Absent ≡ false → test (phase_of s k) ≡ true → (s.merged ≤ k) × (test (entry s k) ≡ true)
not_merged s k test fails passes = dite (dec_le s.merged k) (λ le. (le, ap test (sym (entry_is s k le)) ∙ passes))
    (λ past. absurd (bad (sym fails ∙ ap test (sym (merged_is_absent s k (lt_of_not-le past))) ∙ passes)))

within : (ps : List Phase) (i : ℕ) (p : Phase) → get_or ps i Absent ≡ p → (p ≡ Absent → ⊥) → i < length ps
within [] i p e there = absurd (there (sym e))
within (x ∷ ps) zero p e there = omega arith
within (x ∷ ps) (suc i) p e there = let l = within ps i p e there in omega arith

-- a move that brings the slice k from one phase to another
brings : (s : WeaveState) (k : ℕ) (d : Event) (old new : Phase) (n : ℕ) (es : List Event) → s.merged ≤ k → entry s k ≡ old → (old ≡ Absent → ⊥)
    → ((g : List Event) → HasCome old g → HasCome new (g ++ d ∷ [])) → Stands s n es
    → Stands (record { limit = s.limit; merged = s.merged; phases = set s.phases (k - s.merged) new; closed = s.closed }) n (es ++ of_slice n ((k, d) ∷ []))
brings s k d old new n es le is there more l =
    let s' : WeaveState = record { limit = s.limit; merged = s.merged; phases = set s.phases (k - s.merged) new; closed = s.closed } in
    let m : ℕ = s.merged in let above : m ≤ k = le in
    dite (ℕ_discrete k n)
    (λ same. subst (λ t. Stands s' n (es ++ t)) (sym (of_same n k d same)) (⊎_elim
    (λ p. let a : n < m = p.0 in let c : k ≡ n = same in absurd (omega arith))
    (λ p. inr (
      p.0,
      subst (λ q. HasCome q (es ++ d ∷ [])) (sym (ap (λ (i : ℕ). get_or s'.phases (i - m) Absent) (sym same) ∙ get_or-set_same s.phases (k - m) new Absent (within s.phases (k - m) old is there)))
          (more es (subst (λ q. HasCome q es) (ap (entry s) (sym same) ∙ is) p.1)),
    )) l))
    (λ apart. subst (λ t. Stands s' n (es ++ t)) (sym (of_other n k d apart)) (subst (Stands s' n) (sym (append-nil es)) (⊎_elim
    (λ p. inl p)
    (λ p. inr (
      p.0,
      subst (λ q. HasCome q es) (sym (get_or-set_other s.phases (k - m) (n - m) new Absent (λ e. let a : m ≤ n = p.0 in let c : n - m ≡ k - m = e in apart (omega arith)))) p.1,
    )) l)))

last_at : (ps : List Phase) (i : ℕ) → i ≡ length ps → get_or (ps ++ Ready ∷ []) i Absent ≡ Ready
last_at [] zero e = refl
last_at [] (suc i) e = absurd (omega arith)
last_at (x ∷ ps) zero e = absurd (omega arith)
last_at (x ∷ ps) (suc i) e = last_at ps i (omega arith)

not_last : (ps : List Phase) (i : ℕ) → i ≢ length ps → get_or (ps ++ Ready ∷ []) i Absent ≡ get_or ps i Absent
not_last [] zero e = absurd (e refl)
not_last [] (suc i) e = refl
not_last (x ∷ ps) zero e = refl
not_last (x ∷ ps) (suc i) e = not_last ps i (λ z. e (omega arith))

beyond : (ps : List Phase) (i : ℕ) → i ≡ length ps → get_or ps i Absent ≡ Absent
beyond [] i e = refl
beyond (x ∷ ps) zero e = absurd (omega arith)
beyond (x ∷ ps) (suc i) e = beyond ps i (omega arith)

dropped : (ps : List Phase) (i : ℕ) → get_or (drop 1 ps) i Absent ≡ get_or ps (suc i) Absent
dropped [] i = refl
dropped (x ∷ ps) i = refl

rank : Phase → ℕ
rank Absent = 0
rank Ready = 1
rank (Taken w) = 2
rank Done = 3

not_absent : (p : Phase) → 0 < rank p → p ≡ Absent → ⊥
unfolding rank
not_absent p l e = let z : rank p ≡ 0 = ap rank e in omega arith

-- one allowed move
moves_on : (s : WeaveState) (m : Move) (n : ℕ) (es : List Event) → is_allowed s m ≡ true → Stands s n es → Stands (after s m) n (es ++ of_slice n (event_of s m))
unfolding rank
moves_on s Publish n es ok l = let k : ℕ = published s in let m : ℕ = s.merged in let c : ℕ = length s.phases in dite (ℕ_discrete k n)
    (λ same. subst (λ t. Stands (after s Publish) n (es ++ t)) (sym (of_same n k is_published same)) (⊎_elim
    (λ p. let a : n < m = p.0 in let e : m + c ≡ n = same in absurd (omega arith))
    (λ p. let a : m ≤ n = p.0 in let e : m + c ≡ n = same in let i : n - m ≡ c = omega arith in
    inr (p.0, subst (λ q. HasCome q (es ++ is_published ∷ [])) (sym (last_at s.phases (n - m) i)) (ap (λ (g : List Event). g ++ is_published ∷ []) (subst (λ q. HasCome q es) (beyond s.phases (n - m) i) p.1)))) l))
    (λ apart. subst (λ t. Stands (after s Publish) n (es ++ t)) (sym (of_other n k is_published apart)) (subst (Stands (after s Publish) n) (sym (append-nil es)) (⊎_elim (λ p. inl p)
    (λ p. let a : m ≤ n = p.0 in inr (p.0, subst (λ q. HasCome q es) (sym (not_last s.phases (n - m) (λ e. let f : n - m ≡ c = e in apart (let g : m + c ≡ n = omega arith in g)))) p.1)) l)))
moves_on s (Claim k w) n es ok l = let got = not_merged s k is_ready refl (second _ _ ok) in
    brings s k (is_claimed_by w) Ready (Taken w) n es got.0 (ready_is (entry s k) got.1) (not_absent Ready (omega arith)) (λ g e. ap (λ (t : List Event). t ++ is_claimed_by w ∷ []) e) l
moves_on s (Finish k w) n es ok l = let got = not_merged s k (is_taken_by w) refl (second _ _ ok) in
    brings s k (is_finished_by w) (Taken w) Done n es got.0 (taken_is w (entry s k) got.1) (not_absent (Taken w) (omega arith)) (λ g e. (w, ap (λ (t : List Event). t ++ is_finished_by w ∷ []) e)) l
moves_on s Merge n es ok l = let m : ℕ = s.merged in let got = not_merged s m is_done refl (second _ _ ok) in dite (ℕ_discrete m n)
    (λ same. subst (λ t. Stands (after s Merge) n (es ++ t)) (sym (of_same n m is_merged same)) (⊎_elim
    (λ p. let a : n < m = p.0 in let e : m ≡ n = same in absurd (omega arith))
    (λ p. let e : m ≡ n = same in let come = subst (λ q. HasCome q es) (ap (entry s) (sym same) ∙ done_is (entry s m) got.1) p.1 in
    inl ((let g : n < m + 1 = omega arith in g), (come.0, ap (λ (t : List Event). t ++ is_merged ∷ []) come.1))) l))
    (λ apart. subst (λ t. Stands (after s Merge) n (es ++ t)) (sym (of_other n m is_merged apart)) (subst (Stands (after s Merge) n) (sym (append-nil es)) (⊎_elim
    (λ p. let a : n < m = p.0 in inl ((let g : n < m + 1 = omega arith in g), p.1))
    (λ p. let a : m ≤ n = p.0 in let f : m ≢ n = apart in inr (
      (let g : m + 1 ≤ n = omega arith in g),
      subst (λ q. HasCome q es) (sym (dropped s.phases (n - (m + 1)) ∙ ap (λ (i : ℕ). get_or s.phases i Absent) (let g : suc (n - (m + 1)) ≡ n - m = omega arith in g))) p.1,
    )) l)))
moves_on s Close n es ok l = subst (Stands (after s Close) n) (sym (append-nil es)) l

of_append : (n : ℕ) (ds es : List (ℕ × Event)) → of_slice n (ds ++ es) ≡ of_slice n ds ++ of_slice n es
of_append n [] es = refl
of_append n (d ∷ ds) es = go (of_append n ds es) (eqb d.0 n)
  where
    go : of_slice n (ds ++ es) ≡ of_slice n ds ++ of_slice n es → (b : Bool) → cond b (d.1 ∷ of_slice n (ds ++ es)) (of_slice n (ds ++ es)) ≡ cond b (d.1 ∷ of_slice n ds) (of_slice n ds) ++ of_slice n es
    go e true = ap (λ t. d.1 ∷ t) e
    go e false = e

-- all moves, after these events of the slice n
stands : (ms : List Move) (s : WeaveState) (n : ℕ) (es : List Event) → AllAllowed s ms → Stands s n es → Stands (state_after s ms) n (es ++ of_slice n (events_of s ms))
stands [] s n es ok l = subst (Stands s n) (sym (append-nil es)) l
stands (m ∷ ms) s n es ok l = subst (Stands (state_after (after s m) ms) n) (append_assoc es (of_slice n (event_of s m)) (of_slice n (events_of (after s m) ms)) ∙ ap (λ t. es ++ t) (sym (of_append n (event_of s m) (events_of (after s m) ms))))
    (stands ms (after s m) n (es ++ of_slice n (event_of s m)) ok.1 (moves_on s m n es ok.0 l))

from_empty : (limit : ℕ) (ms : List Move) (n : ℕ) → AllAllowed (empty limit) ms → Stands (state_after (empty limit) ms) n (of_slice n (events_of (empty limit) ms))
from_empty limit ms n ok = stands ms (empty limit) n [] ok (inr ((let g : 0 ≤ n = omega arith in g), refl))

pub stands_at : (limit : ℕ) (ms : List Move) (n : ℕ) → AllAllowed (empty limit) ms → StandsAt (state_after (empty limit) ms) n (of_slice n (events_of (empty limit) ms))
stands_at limit ms n ok = let s : WeaveState = state_after (empty limit) ms in let es : List Event = of_slice n (events_of (empty limit) ms) in
    ⊎_elim (λ p. inl p) (λ p. inr (p.0, subst (λ q. HasCome q es) (sym (entry_is s n p.0)) p.1)) (from_empty limit ms n ok)

-- a beginning of one course
abbrev pub Begins : List Event → Type 0
Begins es = (who : ℕ) × (k : ℕ) × (es ≡ take k (course who))

begins : (p : Phase) (es : List Event) → HasCome p es → Begins es
begins Absent es e = (0, 0, e)
begins Ready es e = (0, 1, e)
begins (Taken w) es e = (w, 2, e)
begins Done es e = (e.0, 3, e.1)

pub in_order : (limit : ℕ) (ms : List Move) (n : ℕ) → AllAllowed (empty limit) ms → Begins (of_slice n (events_of (empty limit) ms))
in_order limit ms n ok = let s : WeaveState = state_after (empty limit) ms in let es : List Event = of_slice n (events_of (empty limit) ms) in
    ⊎_elim (λ p. (p.1.0, 4, p.1.1)) (λ p. begins (entry s n) es p.1) (from_empty limit ms n ok)
