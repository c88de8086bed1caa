-- What is said along a run and along a play of the run's records is the same, step by step.
use Rattle.std.proofs.Common.{◌≡◌, ℕ, zero, suc, ◌+◌, ◌-◌, ◌≤◌, List, [], ◌∷◌, ◌++◌, refl, sym, ap, ◌∙◌, arith, add-one, append_assoc, length, map}
use Rattle.std.specs.Prelude.{None, Some}
use Rattle.std.proofs.lemmas.List.{append-nil, map-append}
use Rattle.call_record.specs.Record.{CallRecord}
use Rattle.guest_model.specs.Call.{Called, Went, Exits, call_of}
use Rattle.guest_model.specs.Call as calls
use Rattle.guest_model.specs.Effect.{Effect, Next, Call, Fault, effect_of}
use Rattle.guest_model.specs.Play.{Script, Spot, entry_for, machine_of, play_of, play_step, played_item, range_of, spot_of, written_at, written_by_entry, written_in_play}
use Rattle.guest_model.specs.Runs.{RunState, Running, Ended, IsRunning, after, along, here, landed, state_of}
use Rattle.guest_model.specs.Serial.{Position, End, completed, entries_of, entry_at, item_at, item_of, position_at, run_of, step_by, step_of}
use Rattle.guest_model.proofs.Follows.{calls_along, follows, follows_one, slice_get_next}
use Rattle.guest_model.proofs.Runs.{after-zero, along-next, along-zero, last_step, running_earlier}
use Rattle.boundary_verify.specs.Cuts.{stored_ranges, writes_at, writes_by}
use Rattle.boundary_verify.specs.Path.{script_of}
use Rattle.boundary_verify.proofs.Matches.{at_position, records_split, run_from}

pub along-one : {S E A : Type 0} (step : S → RunState S E) (f : S → List A) (n : ℕ) (x : RunState S E) (q : S) → after step n x ≡ Running q → along step f (suc n) x ≡ along step f n x ++ f q
along-one step f n x q h = rw (← add-one n) (along-next step f n x q h)

pub map-along : {S E A B : Type 0} (g : A → B) (step : S → RunState S E) (f : S → List A) (n : ℕ) (x : RunState S E) → map g (along step f n x) ≡ along step (λ s. map g (f s)) n x
unfolding along
map-along g step f zero x = refl
map-along {S} {E} g step f (suc n) x = map-append g (along step f n x) (here f (after step n x)) ∙ rw (map-along g step f n x) (ap (λ ys. along step (λ s. map g (f s)) n x ++ ys) (each (after step n x)))
  where
    each : (y : RunState S E) → map g (here f y) ≡ here (λ s. map g (f s)) y
    each (Running s) = refl
    each (Ended s e) = refl

-- f says of a step that goes on what g says of the play's step there, which takes the record that the run leaves
abbrev pub AreAlike : {A : Type 0} → Script → (Position → List A) → (Spot → List A) → Type 0
AreAlike script f g =
    (q r : Position) → step_of q ≡ Running r → play_step script (spot_of q) ≡ Running (spot_of r)
    → ((entry : CallRecord) → entry_at q ≡ entry ∷ [] → entry_for script q.calls ≡ Some entry) → g (spot_of q) ≡ f q

-- the record for the step from q is in its place
entry_here : (script : Script) (p q : Position) (n : ℕ) (rest : List CallRecord) → script.first ≡ p.calls → script.entries ≡ entries_of n p ++ (entry_at q ++ rest) → run_of n p ≡ Running q
    → (entry : CallRecord) → entry_at q ≡ entry ∷ [] → entry_for script q.calls ≡ Some entry
entry_here script p q n rest first all h entry is =
    let count : q.calls ≡ p.calls + length (entries_of n p) = calls_along p q n h in
    let place : q.calls - script.first ≡ length (entries_of n p) = omega arith in
    rw (place, all, is) (slice_get_next (entries_of n p) entry rest)

pub follows_along : {A : Type 0} (f : Position → List A) (g : Spot → List A) (script : Script) → AreAlike script f g → (p q : Position) (n : ℕ) (rest : List CallRecord)
    → script.first ≡ p.calls → script.entries ≡ entries_of n p ++ rest → run_of n p ≡ Running q → along (play_step script) g n (Running (spot_of p)) ≡ along step_of f n (Running p)
follows_along f g script alike p q zero rest first all h = along-zero (play_step script) g (Running (spot_of p)) ∙ sym (along-zero step_of f (Running p))
follows_along f g script alike p q (suc n) rest first all h =
    let l = last_step step_of n (Running p) q h in
    let earlier : script.entries ≡ entries_of n p ++ (entry_at l.0 ++ rest) = all ∙ rw (along-one step_of entry_at n (Running p) l.0 l.1) (append_assoc (entries_of n p) (entry_at l.0) rest) in
    let there : play_of script n (spot_of p) ≡ Running (spot_of l.0) = follows script p l.0 n (entry_at l.0 ++ rest) first earlier l.1 in
    let so_far : along (play_step script) g n (Running (spot_of p)) ≡ along step_of f n (Running p) = follows_along f g script alike p l.0 n (entry_at l.0 ++ rest) first earlier l.1 in
    let one : g (spot_of l.0) ≡ f l.0 = alike l.0 q l.2 (follows_one script p l.0 q n rest first all l.1 l.2) (entry_here script p l.0 n rest first earlier l.1) in
    along-one (play_step script) g n (Running (spot_of p)) (spot_of l.0) there
    ∙ rw (so_far, one) (sym (along-one step_of f n (Running p) l.0 l.1))

-- along a path, up to a position of the run
pub path_along : {A : Type 0} (f : Position → List A) (g : Spot → List A) (p : Position) (b e k : ℕ) → AreAlike (script_of p b e) f g → IsRunning (run_of (b + k) p) → k ≤ e - b
    → along (play_step (script_of p b e)) g k (Running (spot_of (position_at b p))) ≡ along step_of f k (Running (position_at b p))
path_along f g p b e k alike there within =
    let start : IsRunning (run_of b p) = running_earlier step_of b (b + k) (Running p) (omega arith) there in
    follows_along f g (script_of p b e) alike (position_at b p) (position_at (b + k) p) k (along step_of entry_at (e - b - k) (run_of k (position_at b p))) refl (records_split p b e k within)
    (run_from p b k start ∙ at_position p (b + k) there)

-- the trace
pub items_alike : (script : Script) → AreAlike script item_at (played_item script)
items_alike script q r one other entry =
    ap (λ x. item_of q.machine (machine_of x)) other ∙ sym (ap (λ x. item_of q.machine (completed x)) one)

-- the positions
pub spots_alike : (script : Script) → AreAlike script (λ q. map spot_of (landed (step_of q))) (λ s. landed (play_step script s))
spots_alike script q r one other entry = ap landed other ∙ sym (ap (λ (x : RunState Position End). map spot_of (landed x)) one)

-- the ranges that are written
pub writes_alike : (script : Script) → AreAlike script writes_at (written_at script)
unfolding writes_at written_at step_of entry_at
writes_alike script q r one other found = by_effect (effect_of q.machine) refl
  where
    by_call : effect_of q.machine ≡ Call → (called : Called) → call_of q.machine q.world ≡ called → written_by_entry (entry_for script q.calls) ≡ stored_ranges (entry_at q)
    by_call e (Went next later entry sent) h =
        let has : entry_at q ≡ entry ∷ [] = rw (e, h) refl in
        ap written_by_entry (found entry has) ∙ sym (append-nil (map range_of entry.stored)) ∙ sym (ap stored_ranges has)
    by_call e (Exits status) h = cc (one, ap (step_by q) e, h)
    by_call e (calls.Unsupported number) h = cc (one, ap (step_by q) e, h)

    by_effect : (e : Effect) → effect_of q.machine ≡ e → written_in_play script (spot_of q) (effect_of q.machine) ≡ writes_by q (effect_of q.machine)
    by_effect (Next next stored) e = rw e refl
    by_effect (Fault kind) e = rw e refl
    by_effect Call e = ap (written_in_play script (spot_of q)) e ∙ by_call e (call_of q.machine q.world) refl ∙ sym (ap (writes_by q) e)

pub writes_at_end : (script : Script) (q : Position) → entry_at q ≡ [] → entry_for script q.calls ≡ None → written_at script (spot_of q) ≡ writes_at q
unfolding writes_at written_at
writes_at_end script q no_entry none = by_effect (effect_of q.machine) refl
  where
    by_effect : (e : Effect) → effect_of q.machine ≡ e → written_in_play script (spot_of q) (effect_of q.machine) ≡ writes_by q (effect_of q.machine)
    by_effect (Next next stored) e = rw e refl
    by_effect (Fault kind) e = rw e refl
    by_effect Call e = ap (written_in_play script (spot_of q)) e ∙ ap written_by_entry none ∙ sym (ap stored_ranges no_entry) ∙ sym (ap (writes_by q) e)

-- the positions of a run from its start
pub position_zero : (p : Position) → position_at 0 p ≡ p
position_zero p = ap (λ (x : RunState Position End). state_of x) (after-zero step_of (Running p))

pub goes_to : (p : Position) (b c : ℕ) → IsRunning (run_of c p) → b ≤ c → run_of (c - b) (position_at b p) ≡ Running (position_at c p)
goes_to p b c there before =
    let sum : b + (c - b) ≡ c = omega arith in
    run_from p b (c - b) (running_earlier step_of b c (Running p) before there) ∙ rw sum (at_position p c there)
