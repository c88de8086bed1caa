-- Which positions are cuts, and how many of them a pacer is the cause of.
use Rattle.std.proofs.Common.{◌≡◌, ℕ, zero, suc, ◌+◌, ◌-◌, ◌*◌, ◌/◌, ◌%◌, ◌≤◌, ◌<◌, ◌⊎◌, inl, inr, Bool, true, false, ◌&&◌, ◌||◌, cond, List, [], ◌∷◌, refl, sym, ap, ◌∙◌, arith, add-one}
use Rattle.std.specs.Prelude.{◌==◌, nat_lt}
use Rattle.std.specs.List.{count_by, list_any}
use Rattle.std.proofs.lemmas.Bool.{cases_lt, cases_order, eq-eqb, le-ltb, lt-ltb, ne_eqb, or_parts, true≢false}
use Rattle.std.proofs.lemmas.List.Sums.{sum_by-cons}
use Rattle.std.proofs.lemmas.Nat.{div-add-mod', div-mul-add, mod-mul-add}
use Rattle.std.proofs.Math.Nat.{mod-lt, zero-div}
use Rattle.guest_model.specs.Serial.{Position, position_at}
use Rattle.boundary_verify.specs.Cuts.{AreBetween, AreCutsAfter, CutLimits, HasNoCut, granted_among, is_cut, is_full, is_paced, last_before, paced_alone}
use Rattle.boundary_verify.proofs.Cuts.{cuts_rise}

-- of positions behind s none is s
none_is : (t b s : ℕ) (cuts : List ℕ) → AreBetween t b cuts → s ≤ b → list_any (λ c. c == s) cuts ≡ false
none_is t b s [] order le = refl
none_is t b s (c ∷ cuts) order le = rw (ne_eqb c s (λ same. absurd (omega (arith, order.0, same)))) (none_is t c s cuts order.1 (omega (arith, order.0)))

pub cut_by_rule : (limits : CutLimits) (answers : ℕ → Bool) (p : Position) (t b s : ℕ) (cuts : List ℕ) → AreCutsAfter limits answers p t b cuts → b < s → s ≤ t
    → list_any (λ c. c == s) cuts ≡ is_cut limits answers p (last_before b cuts s) s
cut_by_rule limits answers p t b s [] h after within = sym (h.1 s after (omega arith))
cut_by_rule limits answers p t b s (c ∷ cuts) h after within = go (cut_by_rule limits answers p t c s cuts h.1) (cases_order c s)
  where
    go : (c < s → s ≤ t → list_any (λ e. e == s) cuts ≡ is_cut limits answers p (last_before c cuts s) s) → (c ≡ s) ⊎ ((c < s) ⊎ (s < c))
        → list_any (λ e. e == s) (c ∷ cuts) ≡ is_cut limits answers p (last_before b (c ∷ cuts) s) s
    go later (inl same) = rw (eq-eqb c s same, le-ltb c s (omega arith)) (sym h.0.is ∙ ap (is_cut limits answers p b) same)
    go later (inr (inl lt)) = rw (ne_eqb c s (λ same. absurd (omega (arith, lt, same))), lt-ltb c s lt) (later lt within)
    go later (inr (inr gt)) =
        rw (ne_eqb c s (λ same. absurd (omega (arith, gt, same))), le-ltb c s (omega arith), none_is t c s cuts (cuts_rise limits answers p t c cuts h.1) (omega arith)) (sym (h.0.none_before s after gt))

-- 1 or 0
abbrev one_if : Bool → ℕ
one_if b = cond b 1 0

granted-more : (answers : ℕ → Bool) (n : ℕ) → granted_among answers (n + 1) ≡ granted_among answers n + one_if (answers (n + 1))
unfolding granted_among
granted-more answers n = ap (granted_among answers) (add-one n)

-- a position more is a multiple, so that one answer more is asked for, or is none
data Next (poll s : ℕ) : Type 0 where
  multiple : (s + 1) % poll ≡ 0 → (s + 1) / poll ≡ s / poll + 1 → Next poll s
  between : ((s + 1) % poll ≡ 0 → ⊥) → (s + 1) / poll ≡ s / poll → Next poll s

next_of : (poll s : ℕ) → 1 ≤ poll → Next poll s
next_of poll s positive = go (cases_lt (s % poll + 1) poll)
  where
    parts : s / poll * poll + s % poll ≡ s
    parts = div-add-mod' s poll

    go : (s % poll + 1 < poll) ⊎ (poll ≤ s % poll + 1) → Next poll s
    go (inl lt) =
        let sum : s + 1 ≡ s / poll * poll + (s % poll + 1) = omega (arith, parts) in
        let rest : (s + 1) % poll ≡ s % poll + 1 = ap (λ n. n % poll) sum ∙ mod-mul-add (s / poll) poll (s % poll + 1) lt in
        between (λ none. absurd (omega (arith, rest, none))) (ap (λ n. n / poll) sum ∙ div-mul-add (s / poll) poll (s % poll + 1) lt)
    go (inr ge) =
        let less : s % poll < poll = mod-lt s (omega (arith, positive)) in
        let full : s % poll + 1 ≡ poll = omega (arith, ge, less) in
        let turn : (s / poll + 1) * poll ≡ s / poll * poll + poll = grind arith in
        let sum : s + 1 ≡ (s / poll + 1) * poll + 0 = omega (arith, parts, full, turn) in
        multiple (ap (λ n. n % poll) sum ∙ mod-mul-add (s / poll + 1) poll 0 (omega (arith, positive))) (ap (λ n. n / poll) sum ∙ div-mul-add (s / poll + 1) poll 0 (omega (arith, positive)))

-- the answers up to a position more
granted_next : (limits : CutLimits) (answers : ℕ → Bool) (s : ℕ) → 1 ≤ limits.poll → granted_among answers ((s + 1) / limits.poll) ≡ granted_among answers (s / limits.poll) + one_if (is_paced limits answers (s + 1))
unfolding is_paced
granted_next limits answers s positive = go (next_of limits.poll s positive)
  where
    go : Next limits.poll s → granted_among answers ((s + 1) / limits.poll) ≡ granted_among answers (s / limits.poll) + one_if (nat_lt 0 (s + 1) && ((s + 1) % limits.poll == 0 && answers ((s + 1) / limits.poll)))
    go (multiple is next) = rw (next, eq-eqb ((s + 1) % limits.poll) 0 is, lt-ltb 0 (s + 1) (omega arith)) (granted-more answers (s / limits.poll))
    go (between isnt same) = rw (same, ne_eqb ((s + 1) % limits.poll) 0 isnt, lt-ltb 0 (s + 1) (omega arith)) (omega arith)

-- where the pacer tells no cut it grants nothing
none_granted : (limits : CutLimits) (answers : ℕ → Bool) (b n : ℕ) → 1 ≤ limits.poll → ((s : ℕ) → b < s → s ≤ b + n → is_paced limits answers s ≡ false) → granted_among answers ((b + n) / limits.poll) ≡ granted_among answers (b / limits.poll)
none_granted limits answers b zero positive none = let same : b + 0 ≡ b = omega arith in rw same refl
none_granted limits answers b (suc n) positive none =
    let sum : b + suc n ≡ b + n + 1 = omega arith in
    let last : is_paced limits answers (b + n + 1) ≡ false = none (b + n + 1) (omega arith) (omega arith) in
    let before : granted_among answers ((b + n) / limits.poll) ≡ granted_among answers (b / limits.poll) = none_granted limits answers b n positive (λ s after within. none s after (omega (arith, within))) in
    rw sum (granted_next limits answers (b + n) positive ∙ rw (last, before) (omega arith))

-- between two cuts
none_paced : (limits : CutLimits) (answers : ℕ → Bool) (p : Position) (b e : ℕ) → HasNoCut limits answers p b e → (s : ℕ) → b < s → s < e → is_paced limits answers s ≡ false
none_paced limits answers p b e none s after before = (or_parts (is_paced limits answers s) (is_full limits (position_at b p) (s - b)) (none s after before)).0

granted_to_cut : (limits : CutLimits) (answers : ℕ → Bool) (p : Position) (b c : ℕ) → 1 ≤ limits.poll → b < c → HasNoCut limits answers p b c → granted_among answers (c / limits.poll) ≡ granted_among answers (b / limits.poll) + one_if (is_paced limits answers c)
granted_to_cut limits answers p b c positive after none =
    let sum : b + (c - b - 1) + 1 ≡ c = omega arith in
    let so_far : granted_among answers ((b + (c - b - 1)) / limits.poll) ≡ granted_among answers (b / limits.poll) =
    none_granted limits answers b (c - b - 1) positive (λ s behind within. none_paced limits answers p b c none s behind (omega (arith, within, after)))
    in
    let one : granted_among answers ((b + (c - b - 1) + 1) / limits.poll) ≡ granted_among answers ((b + (c - b - 1)) / limits.poll) + one_if (is_paced limits answers (b + (c - b - 1) + 1)) = granted_next limits answers (b + (c - b - 1)) positive in
    (rw sum at one) ∙ rw so_far refl

granted_to_end : (limits : CutLimits) (answers : ℕ → Bool) (p : Position) (t b : ℕ) → 1 ≤ limits.poll → b ≤ t → HasNoCut limits answers p b (t + 1) → granted_among answers (t / limits.poll) ≡ granted_among answers (b / limits.poll)
granted_to_end limits answers p t b positive before none =
    let sum : b + (t - b) ≡ t = omega arith in
    let same : granted_among answers ((b + (t - b)) / limits.poll) ≡ granted_among answers (b / limits.poll) =
    none_granted limits answers b (t - b) positive (λ s behind within. none_paced limits answers p b (t + 1) none s behind (omega (arith, within, before)))
    in rw sum at same

-- a cut without another cause is granted
alone_is_paced : (paced full : Bool) → (paced || full) ≡ true → cond full 0 1 ≤ one_if paced
alone_is_paced true true is = omega arith
alone_is_paced true false is = omega arith
alone_is_paced false true is = omega arith
alone_is_paced false false is = absurd (true≢false (sym is))

pub alone_from : (limits : CutLimits) (answers : ℕ → Bool) (p : Position) (t b : ℕ) (cuts : List ℕ) → 1 ≤ limits.poll → AreCutsAfter limits answers p t b cuts
    → granted_among answers (b / limits.poll) + paced_alone limits p b cuts ≤ granted_among answers (t / limits.poll)
unfolding paced_alone
alone_from limits answers p t b [] positive h = let same = granted_to_end limits answers p t b positive h.0 h.1 in omega (arith, same)
alone_from limits answers p t b (c ∷ cuts) positive h =
    let first = granted_to_cut limits answers p b c positive h.0.later h.0.none_before in
    let one = alone_is_paced (is_paced limits answers c) (is_full limits (position_at b p) (c - b)) h.0.is in
    let rest = alone_from limits answers p t c cuts positive h.1 in omega (arith, first, one, rest)

-- where the pacer tells a cut there is a multiple
paced_is_multiple : (limits : CutLimits) (answers : ℕ → Bool) (c : ℕ) → one_if (is_paced limits answers c) ≤ one_if (c % limits.poll == 0)
unfolding is_paced
paced_is_multiple limits answers c = go (nat_lt 0 c) (c % limits.poll == 0) (answers (c / limits.poll))
  where
    go : (x y z : Bool) → one_if (x && (y && z)) ≤ one_if y
    go false y z = omega arith
    go true false z = omega arith
    go true true false = omega arith
    go true true true = omega arith

pub each_from : (limits : CutLimits) (answers : ℕ → Bool) (p : Position) (t b : ℕ) (cuts : List ℕ) → 1 ≤ limits.poll → AreCutsAfter limits answers p t b cuts
    → granted_among answers (t / limits.poll) ≤ granted_among answers (b / limits.poll) + count_by (λ c. c % limits.poll == 0) cuts
each_from limits answers p t b [] positive h = let same = granted_to_end limits answers p t b positive h.0 h.1 in omega (arith, same)
each_from limits answers p t b (c ∷ cuts) positive h =
    let first = granted_to_cut limits answers p b c positive h.0.later h.0.none_before in
    let one = paced_is_multiple limits answers c in
    let rest = each_from limits answers p t c cuts positive h.1 in
    let count = sum_by-cons (λ e. one_if (e % limits.poll == 0)) c cuts in omega (arith, first, one, rest, count)

-- from position 0 on
granted_none : (answers : ℕ → Bool) (poll : ℕ) → 1 ≤ poll → granted_among answers (0 / poll) ≡ 0
unfolding granted_among
granted_none answers poll positive = let none : 0 / poll ≡ 0 = zero-div poll in rw none refl

pub alone : (limits : CutLimits) (answers : ℕ → Bool) (p : Position) (t : ℕ) (cuts : List ℕ) → 1 ≤ limits.poll → AreCutsAfter limits answers p t 0 cuts → paced_alone limits p 0 cuts ≤ granted_among answers (t / limits.poll)
alone limits answers p t cuts positive h = omega (arith, alone_from limits answers p t 0 cuts positive h, granted_none answers limits.poll positive)

pub each : (limits : CutLimits) (answers : ℕ → Bool) (p : Position) (t : ℕ) (cuts : List ℕ) → 1 ≤ limits.poll → AreCutsAfter limits answers p t 0 cuts → granted_among answers (t / limits.poll) ≤ count_by (λ c. c % limits.poll == 0) cuts
each limits answers p t cuts positive h = omega (arith, each_from limits answers p t 0 cuts positive h, granted_none answers limits.poll positive)
