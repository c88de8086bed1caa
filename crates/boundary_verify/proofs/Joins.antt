-- The pieces of a run, joined, are its trace.
use Rattle.std.proofs.Common.{◌≡◌, ℕ, ◌+◌, ◌-◌, ◌≤◌, ◌<◌, List, [], ◌∷◌, ◌++◌, refl, sym, ap, ◌∙◌, arith, le_of_lt, subst}
use Rattle.std.specs.List.{flat_map}
use Rattle.std.proofs.lemmas.List.{append-nil}
use Rattle.guest_model.specs.Play.{Script, Spot, machine_of, play_of, play_step, played_item, spot_of, written_at, written_of}
use Rattle.guest_model.specs.Runs.{Running, IsRunning, along}
use Rattle.guest_model.specs.Serial.{Position, End, EndsAt, TraceItem, completed, item_at, item_of, position_at, run_of, step_of, trace_of}
use Rattle.guest_model.proofs.Onward.{stops}
use Rattle.guest_model.proofs.Runs.{along-add, along-next, running_earlier}
use Rattle.boundary_verify.specs.Cuts.{AreBetween, writes_at, writes_of}
use Rattle.boundary_verify.specs.Path.{IsMatch, Path, last_path, path_between, path_trace, script_of}
use Rattle.boundary_verify.specs.Pieces.{ArePieces, HoldsForFirst, HoldsForPaths, IsPiece}
use Rattle.boundary_verify.proofs.Along.{AreAlike, goes_to, items_alike, path_along, position_zero, writes_alike, writes_at_end}
use Rattle.boundary_verify.proofs.Cuts.{within_last}
use Rattle.boundary_verify.proofs.Matches.{last_step_of_run, match_between, match_last, none_left, path_follows}

pub match_once : (path : Path) (s k : ℕ) → IsMatch path s → IsMatch path k → s ≡ k
match_once path s k m n =
    let one : s ≤ k = m.least k n.begun n.met in
    let two : k ≤ s = n.least s m.begun m.met in omega arith

-- the match between two positions of a run that ends
pub match_here : (p : Position) (t : ℕ) (end : End) (b c s : ℕ) → EndsAt p t end → b < c → c ≤ t → IsMatch (path_between p b c) s → s ≡ c - b
match_here p t end b c s h before within m =
    match_once (path_between p b c) s (c - b) m (match_between p b c (t + 1) (position_at t p) end h.over (running_earlier step_of c t (Running p) within h.position) before)

pub trace_between : (p : Position) (b c : ℕ) → IsRunning (run_of c p) → b ≤ c → path_trace (path_between p b c) (c - b) ≡ trace_of (c - b) (position_at b p)
trace_between p b c there before =
    let sum : b + (c - b) ≡ c = omega arith in
    path_along item_at (played_item (script_of p b c)) p b c (c - b) (items_alike (script_of p b c)) (rw sum there) (omega arith)

-- what is said along the path to the end of the run, where f and g say the same of the last step too
pub last_along : {A : Type 0} (f : Position → List A) (g : Spot → List A) (p : Position) (b t : ℕ) (end : End) → EndsAt p t end → b ≤ t → AreAlike (script_of p b (t + 1)) f g → g (spot_of (position_at t p)) ≡ f (position_at t p)
    → along (play_step (script_of p b (t + 1))) g (t + 1 - b) (Running (spot_of (position_at b p))) ≡ along step_of f (t + 1 - b) (Running (position_at b p))
last_along f g p b t end h before alike last =
    ap (λ n. along (play_step script) g n (Running (spot_of (position_at b p)))) size
    ∙ along-next (play_step script) g (t - b) (Running (spot_of (position_at b p))) (spot_of (position_at t p)) there
    ∙ rw (front, last) (sym (along-next step_of f (t - b) (Running (position_at b p)) (position_at t p) (goes_to p b t h.position before)))
    ∙ sym (ap (λ n. along step_of f n (Running (position_at b p))) size)
  where
    script : Script
    script = script_of p b (t + 1)

    size : t + 1 - b ≡ t - b + 1
    size = omega arith

    sum : b + (t - b) ≡ t
    sum = omega arith

    there : play_of script (t - b) (spot_of (position_at b p)) ≡ Running (spot_of (position_at t p))
    there = rw sum at (path_follows p b (t + 1) (t - b) (rw sum h.position) (omega arith))

    front : along (play_step script) g (t - b) (Running (spot_of (position_at b p))) ≡ along step_of f (t - b) (Running (position_at b p))
    front = path_along f g p b (t + 1) (t - b) alike (rw sum h.position) (omega arith)

pub trace_last : (p : Position) (b t : ℕ) (end : End) → EndsAt p t end → b ≤ t → path_trace (last_path p b t) (t + 1 - b) ≡ trace_of (t + 1 - b) (position_at b p)
trace_last p b t end h before =
    let script = script_of p b (t + 1) in
    let over = last_step_of_run p t end h in
    let halt = (stops (position_at t p) (position_at t p) end over).halts script (none_left p b t end h before) in
    last_along item_at (played_item script) p b t end h before (items_alike script)
    (ap (λ x. item_of (position_at t p).machine (machine_of x)) halt.1 ∙ sym (ap (λ x. item_of (position_at t p).machine (completed x)) over))

-- what the path to the end writes
pub writes_last : (p : Position) (b t : ℕ) (end : End) → EndsAt p t end → b ≤ t → written_of (script_of p b (t + 1)) (t + 1 - b) (spot_of (position_at b p)) ≡ writes_of (t + 1 - b) (position_at b p)
writes_last p b t end h before =
    let script = script_of p b (t + 1) in
    let no_entry = (stops (position_at t p) (position_at t p) end (last_step_of_run p t end h)).no_entry in
    last_along writes_at (written_at script) p b t end h before (writes_alike script) (writes_at_end script (position_at t p) no_entry (none_left p b t end h before))

-- the trace from position b to the end is that up to c and that from c on
pub trace_split : (p : Position) (b c t : ℕ) → IsRunning (run_of c p) → b ≤ c → c ≤ t → trace_of (c - b) (position_at b p) ++ trace_of (t + 1 - c) (position_at c p) ≡ trace_of (t + 1 - b) (position_at b p)
trace_split p b c t there before within =
    let whole : t + 1 - b ≡ c - b + (t + 1 - c) = omega arith in
    sym
    (ap (λ n. trace_of n (position_at b p)) whole ∙ along-add step_of item_at (c - b) (t + 1 - c) (Running (position_at b p))
    ∙ ap (λ x. trace_of (c - b) (position_at b p) ++ along step_of item_at (t + 1 - c) x) (goes_to p b c there before))

joined_from : (p : Position) (t : ℕ) (end : End) (b : ℕ) (cuts : List ℕ) (pieces : List (List TraceItem)) → EndsAt p t end → AreBetween t b cuts → ArePieces p t b cuts pieces → flat_map (λ x. x) pieces ≡ trace_of (t + 1 - b) (position_at b p)
joined_from p t end b [] [] h order wrong = absurd wrong
joined_from p t end b [] (items ∷ []) h order piece =
    let size : piece.distance ≡ t + 1 - b = match_once (last_path p b t) piece.distance (t + 1 - b) piece.exact (match_last p b t end h order) in
    append-nil items ∙ piece.items_are ∙ ap (path_trace (last_path p b t)) size ∙ trace_last p b t end h order
joined_from p t end b [] (items ∷ other ∷ pieces) h order wrong = absurd wrong
joined_from p t end b (c ∷ cuts) [] h order wrong = absurd wrong
joined_from p t end b (c ∷ cuts) (items ∷ pieces) h order all =
    let piece : IsPiece (path_between p b c) items = all.0 in
    let within : c ≤ t = within_last t c cuts order.1 in
    let there : IsRunning (run_of c p) = running_earlier step_of c t (Running p) within h.position in
    let size : piece.distance ≡ c - b = match_here p t end b c piece.distance h order.0 within piece.exact in
    let first : items ≡ trace_of (c - b) (position_at b p) = piece.items_are ∙ ap (path_trace (path_between p b c)) size ∙ trace_between p b c there (le_of_lt order.0) in
    rw (first, joined_from p t end c cuts pieces h order.1 all.1) (trace_split p b c t there (le_of_lt order.0) within)

-- the trace from position 0 on is the trace
pub trace_from_start : (p : Position) (t : ℕ) → trace_of (t + 1 - 0) (position_at 0 p) ≡ trace_of (t + 1) p
trace_from_start p t =
    let size : t + 1 - 0 ≡ t + 1 = omega arith in rw (position_zero p, size) refl

pub joined : (p : Position) (t : ℕ) (end : End) (cuts : List ℕ) (pieces : List (List TraceItem)) → EndsAt p t end → AreBetween t 0 cuts → ArePieces p t 0 cuts pieces → flat_map (λ x. x) pieces ≡ trace_of (t + 1) p
joined p t end cuts pieces h order all = joined_from p t end 0 cuts pieces h order all ∙ trace_from_start p t

-- one path after the other
pub path_more : {X : Type 0} (P : Path → X → Type 0) (p : Position) (b e c : ℕ) (cuts : List ℕ) (xs : List X) (x : X) → HoldsForFirst P p e b cuts xs → P (path_between p e c) x → HoldsForFirst P p c b (cuts ++ c ∷ []) (xs ++ x ∷ [])
path_more P p b e c [] [] x h next = (subst (λ o. P (path_between p o c) x) h next, refl)
path_more P p b e c [] (y ∷ xs) x h next = absurd h
path_more P p b e c (d ∷ cuts) [] x h next = absurd h
path_more P p b e c (d ∷ cuts) (y ∷ xs) x h next = (h.0, path_more P p d e c cuts xs x h.1 next)

pub paths_all : {X : Type 0} (P : Path → X → Type 0) (p : Position) (t b e : ℕ) (cuts : List ℕ) (xs : List X) (x : X) → HoldsForFirst P p e b cuts xs → P (last_path p e t) x → HoldsForPaths P p t b cuts (xs ++ x ∷ [])
paths_all P p t b e [] [] x h last = subst (λ o. P (last_path p o t) x) h last
paths_all P p t b e [] (y ∷ xs) x h last = absurd h
paths_all P p t b e (c ∷ cuts) [] x h last = absurd h
paths_all P p t b e (c ∷ cuts) (y ∷ []) x h last = (h.0, paths_all P p t c e cuts [] x h.1 last)
paths_all P p t b e (c ∷ cuts) (y ∷ z ∷ xs) x h last = (h.0, paths_all P p t c e cuts (z ∷ xs) x h.1 last)
