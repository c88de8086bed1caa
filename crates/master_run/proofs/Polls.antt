-- When a pacer is asked, and what it answered.
use Rattle.std.proofs.Common.{◌≡◌, ◌⊎◌, inl, inr, ℕ, zero, suc, ◌+◌, ◌-◌, ◌*◌, ◌/◌, ◌%◌, ◌^◌, ◌<◌, ◌≤◌, ◌||◌, Bool, true, false, refl, sym, ap, ◌∙◌, add-one, arith}
use Rattle.std.specs.Prelude.{Option, None, Some, ◌==◌, ◌&&◌, nat_lt, if◌then◌else◌}
use Rattle.std.specs.Option.{option_map}
use Rattle.std.proofs.lemmas.Bool.{cases_lt}
use Rattle.std.proofs.lemmas.Bool.Decides.{nat_tests}
use Rattle.std.proofs.Math.Nat.{div-lt_iff_lt-mul, suc-mul}
use Rattle.std.proofs.lemmas.Nat.{div-add-mod', div-mul-add, mod-mul-add}
use Rattle.sp_host.specs.Tally.{Tally, later_answers, tally_after}
use Rattle.guest_model.specs.Serial.{Position, position_at}
use Rattle.boundary_verify.specs.Cuts.{CutLimits, granted_among, is_cut, is_full, is_paced}
use Rattle.master_run.specs.Answers.{HasAnswered, PacerState}
use Rattle.master_run.specs.Progress.{IsAsked}

-- u steps before a multiple of w
pub record IsBefore (x u w n : ℕ) : Type 0 where
  pub sum : x + u ≡ n * w + w
  pub some : 0 < u
  pub few : u ≤ w

pub before_quotient : (x u w n : ℕ) → IsBefore x u w n → x / w ≡ n
before_quotient x u w n h = ap (λ (y : ℕ). y / w) place ∙ div-mul-add n w (w - u) (omega (arith, h.some, h.few))
  where
    place : x ≡ n * w + (w - u)
    place = omega (arith, h.sum, h.few)

pub before_rest : (x u w n : ℕ) → IsBefore x u w n → x % w ≡ w - u
before_rest x u w n h = ap (λ (y : ℕ). y % w) place ∙ mod-mul-add n w (w - u) (omega (arith, h.some, h.few))
  where
    place : x ≡ n * w + (w - u)
    place = omega (arith, h.sum, h.few)

pub before : (x u w : ℕ) → (x + u) % w ≡ 0 → 0 < u → u ≤ w → (n : ℕ) × IsBefore x u w n
before x u w none some few = by ((x + u) / w) refl
  where
    by : (q : ℕ) → (x + u) / w ≡ q → (n : ℕ) × IsBefore x u w n
    by zero is = absurd (omega (arith, div-add-mod' (x + u) w, ap (λ (k : ℕ). k * w) is, none, some))
    by (suc n) is = (n, record { sum = omega (arith, div-add-mod' (x + u) w, ap (λ (k : ℕ). k * w) is, none); some = some; few = few })

-- between two polls none is due
pub not_paced : (limits : CutLimits) (answers : ℕ → Bool) (x u n : ℕ) → IsBefore x u limits.poll n → u < limits.poll → is_paced limits answers x ≡ false
unfolding is_paced
not_paced limits answers x u n h less = let rest = before_rest x u limits.poll n h in rw rest (no_rest (limits.poll - u) (omega (arith, less)))
  where
    no_rest : (r : ℕ) → 0 < r → (nat_lt 0 x && ((r == 0) && answers (x / limits.poll))) ≡ false
    no_rest r some = grind (arith, nat_tests)

-- at a poll the answer decides
pub paced_at : (limits : CutLimits) (answers : ℕ → Bool) (x n : ℕ) → x ≡ n * limits.poll + limits.poll → 0 < limits.poll → is_paced limits answers x ≡ answers (n + 1)
unfolding is_paced
paced_at limits answers x n is some =
    let place : x ≡ (n + 1) * limits.poll + 0 = omega (arith, is, suc_times n limits.poll) in
    let rest : x % limits.poll ≡ 0 = ap (λ (y : ℕ). y % limits.poll) place ∙ mod-mul-add (n + 1) limits.poll 0 some in
    let quotient : x / limits.poll ≡ n + 1 = ap (λ (y : ℕ). y / limits.poll) place ∙ div-mul-add (n + 1) limits.poll 0 some in
    rw (rest, quotient) (late x (answers (n + 1)) (omega (arith, is, some)))
  where
    suc_times : (k w : ℕ) → (k + 1) * w ≡ k * w + w
    suc_times k w = omega (arith, suc-mul k w)

    late : (y : ℕ) (answer : Bool) → 0 < y → (nat_lt 0 y && ((0 == 0) && answer)) ≡ answer
    late y answer some = grind (arith, nat_tests)

pub quotient_at : (x n w : ℕ) → x ≡ n * w + w → 0 < w → x / w ≡ n + 1
quotient_at x n w is some =
    let place : x ≡ (n + 1) * w + 0 = omega (arith, is, suc-mul n w) in
    ap (λ (y : ℕ). y / w) place ∙ div-mul-add (n + 1) w 0 some

-- a position behind which a multiple comes has no greater quotient
pub quotient_below : (x n w : ℕ) → x < n * w + w → 0 < w → x / w ≤ n
quotient_below x n w less some =
    let lt : x / w < n + 1 = (div-lt_iff_lt-mul some).1 (omega (arith, less, suc-mul n w)) in
    omega (arith, lt)

-- the answers, of which the n-th is this one
abbrev pub with_answer : (ℕ → Bool) → ℕ → Bool → ℕ → Bool
with_answer answers n answer k = if k == n then answer else answers k

pub answer_there : (answers : ℕ → Bool) (n : ℕ) (answer : Bool) → with_answer answers n answer n ≡ answer
answer_there answers n answer = grind (arith, nat_tests)

pub answer_before : (answers : ℕ → Bool) (n k : ℕ) (answer : Bool) → k < n → with_answer answers n answer k ≡ answers k
answer_before answers n k answer less = grind (arith, nat_tests)

granted_same : (a c : ℕ → Bool) (n : ℕ) → ((k : ℕ) → k ≤ n → a k ≡ c k) → granted_among a n ≡ granted_among c n
unfolding granted_among
granted_same a c zero h = refl
granted_same a c (suc n) h = rw (granted_same a c n (λ k le. h k (omega (arith, le)))) (ap (λ (x : Bool). granted_among c n + (if x then 1 else 0)) (h (n + 1) (omega arith)))

granted_suc : (a : ℕ → Bool) (n : ℕ) → granted_among a (suc n) ≡ granted_among a n + (if a (n + 1) then 1 else 0)
unfolding granted_among
granted_suc a n = refl

granted_next : (a : ℕ → Bool) (n : ℕ) → granted_among a (n + 1) ≡ granted_among a n + (if a (n + 1) then 1 else 0)
granted_next a n = ap (granted_among a) (add-one n) ∙ granted_suc a n

granted_few : (a : ℕ → Bool) (n : ℕ) → granted_among a n ≤ n
unfolding granted_among
granted_few a zero = omega arith
granted_few a (suc n) = let before = granted_few a n in one (a (n + 1)) (granted_among a n) n before
  where
    one : (x : Bool) (g k : ℕ) → g ≤ k → g + (if x then 1 else 0) ≤ suc k
    one true g k le = omega (arith, le)
    one false g k le = omega (arith, le)

later_left : (o : Option (ℕ → Bool)) (n : ℕ) → later_answers (option_map (λ told k. told (n + k)) o) ≡ option_map (λ told k. told (n + 1 + k)) o
later_left None n = refl
later_left (Some told) n = ap Some (λ i k. ap told (more k) i)
  where
    more : (k : ℕ) → n + (k + 1) ≡ n + 1 + k
    more k = omega arith

-- one answer more
pub answered_more : (answers : ℕ → Bool) (n : ℕ) (answer : Bool) (first old new : PacerState) → HasAnswered answers n first old → IsAsked answer old new → HasAnswered (with_answer answers (n + 1) answer) (n + 1) first new
answered_more answers n answer first old new was one = record {
  period = one.period ∙ was.period;
  asked = λ room. let count = was.asked (omega (arith, room)) in omega (arith, ap (λ (t : Tally). t.asked) one.tally, count, room);
  granted = λ room. granted room (was.granted (omega (arith, room)));
  as_told = λ told is k some within. told_by told is k some (cases_lt k (n + 1)) within;
  left = one.left ∙ ap later_answers was.left ∙ later_left first.answers n;
}
  where
    same : granted_among (with_answer answers (n + 1) answer) n ≡ granted_among answers n
    same = granted_same (with_answer answers (n + 1) answer) answers n (λ k le. answer_before answers (n + 1) k answer (omega (arith, le)))

    total : granted_among (with_answer answers (n + 1) answer) (n + 1) ≡ granted_among answers n + (if answer then 1 else 0)
    total = granted_next (with_answer answers (n + 1) answer) n ∙ ap (λ (x : Bool). granted_among (with_answer answers (n + 1) answer) n + (if x then 1 else 0)) (answer_there answers (n + 1) answer) ∙ ap (λ (m : ℕ). m + (if answer then 1 else 0)) same

    count : (x : Bool) (g : ℕ) → g + 1 < 2 ^ 64 → (tally_after x (record { asked = old.tally.asked; granted = g })).granted ≡ g + (if x then 1 else 0)
    count true g room = omega (arith, room)
    count false g room = omega arith

    granted : first.tally.granted + (n + 1) < 2 ^ 64 → old.tally.granted ≡ first.tally.granted + granted_among answers n → new.tally.granted ≡ first.tally.granted + granted_among (with_answer answers (n + 1) answer) (n + 1)
    granted room before_it =
        let few = granted_few answers n in
        omega (arith, ap (λ (t : Tally). t.granted) one.tally, count answer old.tally.granted (omega (arith, room, before_it, few)), before_it, total)

    told_by : (told : ℕ → Bool) → first.answers ≡ Some told → (k : ℕ) → 0 < k → (k < n + 1) ⊎ (n + 1 ≤ k) → k ≤ n + 1 → with_answer answers (n + 1) answer k ≡ told k
    told_by told is k some (inl lt) within = answer_before answers (n + 1) k answer lt ∙ was.as_told told is k some (omega (arith, lt))
    told_by told is k some (inr le) within =
        let at : k ≡ n + 1 = omega (arith, le, within) in
        let known : old.answers ≡ Some (λ i. told (n + i)) = was.left ∙ ap (option_map {T = ℕ → Bool} {U = ℕ → Bool} (λ a i. a (n + i))) is in
        ap (with_answer answers (n + 1) answer) at ∙ answer_there answers (n + 1) answer ∙ one.as_told (λ i. told (n + i)) known ∙ ap told (sym at)

-- what cuts rest on: the answers at earlier multiples
pub paced_same : (limits : CutLimits) (a c : ℕ → Bool) (s : ℕ) → a (s / limits.poll) ≡ c (s / limits.poll) → is_paced limits a s ≡ is_paced limits c s
unfolding is_paced
paced_same limits a c s h = ap (λ (x : Bool). nat_lt 0 s && (s % limits.poll == 0 && x)) h

pub cut_same : (limits : CutLimits) (a c : ℕ → Bool) (p : Position) (b s : ℕ) → a (s / limits.poll) ≡ c (s / limits.poll) → is_cut limits a p b s ≡ is_cut limits c p b s
cut_same limits a c p b s h = ap (λ (x : Bool). x || is_full limits (position_at b p) (s - b)) (paced_same limits a c s h)
