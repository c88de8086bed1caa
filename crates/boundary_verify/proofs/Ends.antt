-- The step that ends a run, and paths by where they start.
use Rattle.std.proofs.Common.{◌≡◌, ℕ, zero, suc, ◌+◌, ◌-◌, ◌≤◌, ◌<◌, ◌⊎◌, inl, inr, refl, sym, ap, ◌∙◌, arith, add-one}
use Rattle.std.proofs.lemmas.Bool.{cases_lt}
use Rattle.guest_model.specs.Runs.{RunState, Running, Ended, IsRunning, state_of}
use Rattle.guest_model.specs.Serial.{Position, End, EndsAt, position_at, run_of, step_of}
use Rattle.guest_model.proofs.Onward.{stops}
use Rattle.guest_model.proofs.Runs.{after-next, after-zero, over_later, running_earlier}
use Rattle.boundary_verify.specs.Path.{last_path, path_between}
use Rattle.boundary_verify.proofs.Along.{position_zero}
use Rattle.boundary_verify.proofs.Matches.{run_from}

pub ending : (p : Position) (n : ℕ) (last : Position) (end : End) → run_of n p ≡ Ended last end → (t : ℕ) × (t < n) × EndsAt p t end
ending p zero last end h = cc (after-zero step_of (Running p), h)
ending p (suc n) last end h = go (λ same. sooner (ending p n last end same)) (run_of n p) refl
  where
    sooner : (t : ℕ) × (t < n) × EndsAt p t end → (t : ℕ) × (t < suc n) × EndsAt p t end
    sooner (t, lt, ends) = (t, omega arith, ends)

    go : (run_of n p ≡ Ended last end → (t : ℕ) × (t < suc n) × EndsAt p t end) → (x : RunState Position End) → run_of n p ≡ x → (t : ℕ) × (t < suc n) × EndsAt p t end
    go before (Running q) e =
        let next : run_of (n + 1) p ≡ step_of q = after-next step_of n (Running p) q e in
        let here : run_of (n + 1) p ≡ Ended last end = rw (add-one n) h in
        let over : step_of q ≡ Ended last end = sym next ∙ here in
        let same : last ≡ position_at n p = (stops q last end over).stays ∙ sym (ap state_of e) in
        (n, omega arith, record { position = (q, e); over = here ∙ ap (λ l. Ended l end) same })
    go before (Ended q other) e =
        let over : run_of (suc n) p ≡ Ended q other = over_later step_of n (suc n) (Running p) q other (omega arith) e in
        before (e ∙ sym over ∙ h)

ends_no_sooner : (p : Position) (t u : ℕ) (end other : End) → EndsAt p t end → EndsAt p u other → t ≤ u
ends_no_sooner p t u end other h k = go (cases_lt u t)
  where
    go : (u < t) ⊎ (t ≤ u) → t ≤ u
    go (inr le) = le
    go (inl lt) =
        let goes : IsRunning (run_of (u + 1) p) = running_earlier step_of (u + 1) t (Running p) (omega arith) h.position in
        cc (goes.1, k.over)

pub ends_once : (p : Position) (t u : ℕ) (end other : End) → EndsAt p t end → EndsAt p u other → (t ≡ u) × (end ≡ other)
ends_once p t u end other h k =
    let one : t ≤ u = ends_no_sooner p t u end other h k in
    let two : u ≤ t = ends_no_sooner p u t other end k h in
    let same : t ≡ u = omega arith in
    let over : run_of (u + 1) p ≡ Ended (position_at u p) end = rw same at h.over in
    (same, cc (over, k.over))

pub path_by_start : (p : Position) (b c : ℕ) → IsRunning (run_of c p) → b ≤ c → path_between p b c ≡ path_between (position_at b p) 0 (c - b)
path_by_start p b c there before =
    let sum : b + (c - b) ≡ c = omega arith in
    let start : IsRunning (run_of b p) = running_earlier step_of b c (Running p) before there in
    let later : position_at (c - b) (position_at b p) ≡ position_at c p = ap (λ (x : RunState Position End). state_of x) (run_from p b (c - b) start ∙ ap (λ n. run_of n p) sum) in
    let size : c - b - 0 ≡ c - b = omega arith in
    rw (position_zero (position_at b p), later, size) refl

pub last_by_start : (p : Position) (b t : ℕ) → b ≤ t → last_path p b t ≡ last_path (position_at b p) 0 (t - b)
last_by_start p b t before =
    let size : t - b + 1 - 0 ≡ t + 1 - b = omega arith in
    rw (position_zero (position_at b p), size) refl
