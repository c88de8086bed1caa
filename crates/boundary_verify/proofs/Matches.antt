-- The match of a path of a run that ends is the boundary itself.
use Rattle.std.proofs.Common.{◌≡◌, ℕ, ◌+◌, ◌-◌, ◌≤◌, ◌<◌, ◌⊎◌, inl, inr, List, [], ◌∷◌, ◌++◌, refl, sym, ap, ◌∙◌, arith, length}
use Rattle.std.specs.Prelude.{None, slice_get}
use Rattle.std.proofs.lemmas.Bool.{cases_lt}
use Rattle.std.proofs.lemmas.List.{append-nil}
use Rattle.guest_model.specs.Play.{Halt, entry_for, play_of, play_step, spot_of}
use Rattle.guest_model.specs.Runs.{Running, Ended, IsRunning, IsEnded, along, state_of}
use Rattle.guest_model.specs.Serial.{Position, End, EndsAt, step_of, entry_at, run_of, entries_of, position_at}
use Rattle.guest_model.proofs.Runs.{after-add, after-next, along-add, along-next, never_ends, over_later, running_earlier, running_same}
use Rattle.guest_model.proofs.Onward.{stops}
use Rattle.guest_model.proofs.Follows.{calls_along, follows, world_stays}
use Rattle.boundary_verify.specs.Path.{IsMatch, last_path, path_after, path_between, script_of}

-- at a position the run stands at its state
pub at_position : (p : Position) (t : ℕ) → IsRunning (run_of t p) → run_of t p ≡ Running (position_at t p)
at_position p t (q, h) = h ∙ ap Running (sym (ap state_of h))

-- from position b on, the run is the run from that position
pub run_from : (p : Position) (b k : ℕ) → IsRunning (run_of b p) → run_of k (position_at b p) ≡ run_of (b + k) p
run_from p b k here = rw (after-add step_of b k (Running p), at_position p b here) refl

position_same : (p q : Position) → p.machine ≡ q.machine → p.world ≡ q.world → p.calls ≡ q.calls → p ≡ q
position_same p q m w c = λ i. record { machine = m i; world = w i; calls = c i }

-- no two positions of a run that ends have the same machine and record position
pub no_repeat : (p : Position) (t c n : ℕ) (last : Position) (end : End) → run_of n p ≡ Ended last end → IsRunning (run_of c p) → t < c → spot_of (position_at t p) ≡ spot_of (position_at c p) → ⊥
no_repeat p t c n last end ended here before same =
    let earlier : IsRunning (run_of t p) = running_earlier step_of t c (Running p) (omega arith) here in
    let sum : t + (c - t) ≡ c = omega arith in
    let there : run_of (c - t) (position_at t p) ≡ Running (position_at c p) = run_from p t (c - t) earlier ∙ rw sum (at_position p c here) in
    let calls : (position_at c p).calls ≡ (position_at t p).calls = sym (ap (λ s. s.calls) same) in
    let world : (position_at c p).world ≡ (position_at t p).world = world_stays (position_at t p) (position_at c p) (c - t) there calls in
    let machine : (position_at c p).machine ≡ (position_at t p).machine = sym (ap (λ s. s.machine) same) in
    let back : run_of (c - t) (position_at t p) ≡ Running (position_at t p) = there ∙ ap Running (position_same (position_at c p) (position_at t p) machine world calls) in
    let goes_on : IsRunning (run_of n (position_at t p)) = never_ends step_of (c - t) (position_at t p) (omega arith) back n in
    let stops : run_of n (position_at t p) ≡ Ended last end = run_from p t n earlier ∙ over_later step_of n (t + n) (Running p) last end (omega arith) ended in
    cc (goes_on.1, stops)

-- the records up to e begin with those of the first k steps
pub records_split : (p : Position) (b e k : ℕ) → k ≤ e - b → (script_of p b e).entries ≡ entries_of k (position_at b p) ++ along step_of entry_at (e - b - k) (run_of k (position_at b p))
records_split p b e k within =
    let sum : e - b ≡ k + (e - b - k) = omega arith in
    ap (λ n. entries_of n (position_at b p)) sum ∙ along-add step_of entry_at k (e - b - k) (Running (position_at b p))

-- the play of a path is at the run's positions
pub path_follows : (p : Position) (b e k : ℕ) → IsRunning (run_of (b + k) p) → k ≤ e - b → play_of (script_of p b e) k (spot_of (position_at b p)) ≡ Running (spot_of (position_at (b + k) p))
path_follows p b e k there within =
    let here : IsRunning (run_of b p) = running_earlier step_of b (b + k) (Running p) (omega arith) there in
    follows (script_of p b e) (position_at b p) (position_at (b + k) p) k (along step_of entry_at (e - b - k) (run_of k (position_at b p))) refl (records_split p b e k within)
    (run_from p b k here ∙ at_position p (b + k) there)

pub match_between : (p : Position) (b c n : ℕ) (last : Position) (end : End) → run_of n p ≡ Ended last end → IsRunning (run_of c p) → b < c → IsMatch (path_between p b c) (c - b)
match_between p b c n last end ended there before = record {
  begun = omega arith;
  met = (let sum : b + (c - b) ≡ c = omega arith in rw sum at (path_follows p b c (c - b) (rw sum there) (omega arith)));
  least = λ k begun met. by_cases k met (cases_lt k (c - b));
}
  where
    by_cases : (k : ℕ) → path_after (path_between p b c) k ≡ Running (spot_of (position_at c p)) → (k < c - b) ⊎ (c - b ≤ k) → c - b ≤ k
    by_cases k met (inr le) = le
    by_cases k met (inl lt) =
        let here : path_after (path_between p b c) k ≡ Running (spot_of (position_at (b + k) p)) = path_follows p b c k (running_earlier step_of (b + k) c (Running p) (omega arith) there) (omega arith) in
        absurd (no_repeat p (b + k) c n last end ended there (omega arith) (running_same (path_after (path_between p b c) k) (spot_of (position_at (b + k) p)) (spot_of (position_at c p)) here met))

-- the last position's step ends the run
pub last_step_of_run : (p : Position) (t : ℕ) (end : End) → EndsAt p t end → step_of (position_at t p) ≡ Ended (position_at t p) end
last_step_of_run p t end h = sym (after-next step_of t (Running p) (position_at t p) (at_position p t h.position)) ∙ h.over

slice_get_none : {A : Type 0} (xs : List A) → slice_get xs (length xs) ≡ None
slice_get_none [] = refl
slice_get_none (x ∷ xs) = slice_get_none xs

-- at the last position no record of the run is left
pub none_left : (p : Position) (b t : ℕ) (end : End) → EndsAt p t end → b ≤ t → entry_for (script_of p b (t + 1)) (position_at t p).calls ≡ None
none_left p b t end h before = rw (place, records) (slice_get_none (entries_of (t - b) (position_at b p)))
  where
    sum : b + (t - b) ≡ t
    sum = omega arith

    goes : run_of (t - b) (position_at b p) ≡ Running (position_at t p)
    goes = run_from p b (t - b) (running_earlier step_of b t (Running p) before h.position) ∙ rw sum (at_position p t h.position)

    records : (script_of p b (t + 1)).entries ≡ entries_of (t - b) (position_at b p)
    records =
        let one : t + 1 - b ≡ t - b + 1 = omega arith in
        ap (λ n. entries_of n (position_at b p)) one ∙ along-next step_of entry_at (t - b) (Running (position_at b p)) (position_at t p) goes
        ∙ rw (stops (position_at t p) (position_at t p) end (last_step_of_run p t end h)).no_entry (append-nil (entries_of (t - b) (position_at b p)))

    place : (position_at t p).calls - (position_at b p).calls ≡ length (entries_of (t - b) (position_at b p))
    place = let count : (position_at t p).calls ≡ (position_at b p).calls + length (entries_of (t - b) (position_at b p)) = calls_along (position_at b p) (position_at t p) (t - b) goes in omega arith

-- a path to the end stands there after its last step
pub at_end : (p : Position) (b t : ℕ) (end : End) → EndsAt p t end → b ≤ t → (halt : Halt) × (path_after (last_path p b t) (t + 1 - b) ≡ Ended (spot_of (position_at t p)) halt)
at_end p b t end h before =
    let script = script_of p b (t + 1) in
    let sum : b + (t - b) ≡ t = omega arith in
    let one : t + 1 - b ≡ t - b + 1 = omega arith in
    let there : play_of script (t - b) (spot_of (position_at b p)) ≡ Running (spot_of (position_at t p)) = rw sum at (path_follows p b (t + 1) (t - b) (rw sum h.position) (omega arith)) in
    let halt = (stops (position_at t p) (position_at t p) end (last_step_of_run p t end h)).halts script (none_left p b t end h before) in
    (halt.0, ap (λ n. play_of script n (spot_of (position_at b p))) one ∙ after-next (play_step script) (t - b) (Running (spot_of (position_at b p))) (spot_of (position_at t p)) there ∙ halt.1)

pub match_last : (p : Position) (b t : ℕ) (end : End) → EndsAt p t end → b ≤ t → IsMatch (last_path p b t) (t + 1 - b)
match_last p b t end h before = record {
  begun = omega arith;
  met = (let there = at_end p b t end h before in (spot_of (position_at t p), there.0, there.1));
  least = λ k begun met. by_cases k met (cases_lt k (t + 1 - b));
}
  where
    by_cases : (k : ℕ) → IsEnded (path_after (last_path p b t) k) → (k < t + 1 - b) ⊎ (t + 1 - b ≤ k) → t + 1 - b ≤ k
    by_cases k met (inr le) = le
    by_cases k met (inl lt) =
        let goes : path_after (last_path p b t) k ≡ Running (spot_of (position_at (b + k) p)) = path_follows p b (t + 1) k (running_earlier step_of (b + k) t (Running p) (omega arith) h.position) (omega arith) in
        cc (goes, met.2)

pub within : (p : Position) (b c s : ℕ) → IsRunning (run_of c p) → b < c → IsMatch (path_between p b c) s → s ≤ c - b
within p b c s there before m =
    let sum : b + (c - b) ≡ c = omega arith in
    m.least (c - b) (omega arith) (rw sum at (path_follows p b c (c - b) (rw sum there) (omega arith)))
