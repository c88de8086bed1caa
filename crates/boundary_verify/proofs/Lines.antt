-- What the plays of a run's paths count is what the lines of the run say, and what the lines add up to.
use Rattle.std.proofs.Common.{◌≡◌, ℕ, zero, suc, ◌+◌, ◌-◌, ◌≤◌, ◌<◌, List, [], ◌∷◌, refl, sym, ap, ◌∙◌, arith, length, map, add-one, le_of_lt, subst}
use Rattle.std.specs.Prelude.{Option, None, Some, option_and_then}
use Rattle.std.specs.List.{sum_by}
use Rattle.std.proofs.lemmas.List.Sums.{sum_by-cons}
use Rattle.std.proofs.lemmas.List.{append-nil, length-append}
use Rattle.rv_isa.specs.Decoded.{decoded}
use Rattle.rv_isa.specs.Table.{Fields}
use Rattle.guest_model.specs.Effect.{Effect, Next, Call, Fault, effect_of, effect_of_instruction, effect_of_word}
use Rattle.guest_model.specs.Machine.{Machine, instruction_at}
use Rattle.guest_model.specs.Play.{Halt, Spot, play_step, spot_of}
use Rattle.guest_model.specs.Runs.{RunState, Running, IsRunning, landed, reached, state_of}
use Rattle.guest_model.specs.Serial.{Position, End, EndsAt, completed, entries_of, entry_at, item_at, item_of, item_with, position_at, run_of, step_by, step_of, trace_of}
use Rattle.guest_model.specs.Space.{read_number}
use Rattle.guest_model.specs.Tests.{AreHits}
use Rattle.guest_model.specs.declared.Access.TheVariants.{Execute}
use Rattle.guest_model.proofs.Counts.{hits_once}
use Rattle.guest_model.proofs.Follows.{calls_along}
use Rattle.guest_model.proofs.Onward.{stops}
use Rattle.guest_model.proofs.Runs.{along-next, along-zero, last_step, running_earlier}
use Rattle.boundary_verify.specs.Cuts.{AreBetween}
use Rattle.boundary_verify.specs.Lines.{AreLines, AreLinesOfPaths, IsLastLine, IsLineBetween, IsLineOf, Line, spots_between}
use Rattle.boundary_verify.specs.Path.{IsMatch, Path, last_path, path_after, path_between, path_trace, script_of}
use Rattle.boundary_verify.proofs.Along.{along-one, goes_to, map-along, path_along, position_zero, spots_alike}
use Rattle.boundary_verify.proofs.Cuts.{within_last}
use Rattle.boundary_verify.proofs.Joins.{match_here, match_once, trace_between, trace_from_start, trace_last, trace_split}
use Rattle.boundary_verify.proofs.Matches.{at_end, at_position, last_step_of_run, match_between, match_last}

-- an effect without an instruction is a fault
abbrev IsFault : Effect → Type 0
IsFault (Next next stored) = ⊥
IsFault Call = ⊥
IsFault (Fault kind) = Unit {0}

fault_by : (m : Machine) (word : Option ℕ) → option_and_then decoded word ≡ None → IsFault (effect_of_word m word)
fault_by m None none = tt
fault_by m (Some word) none = subst IsFault (sym (ap (effect_of_instruction m) none)) tt

fault_without : (m : Machine) → instruction_at m ≡ None → IsFault (effect_of m)
unfolding effect_of
fault_without m none = fault_by m (read_number Execute m.space m.pc 4) none

ends_by : (p q : Position) (effect : Effect) → IsFault effect → step_by p effect ≡ Running q → ⊥
ends_by p q (Next m stored) fault h = fault
ends_by p q Call fault h = fault
ends_by p q (Fault kind) fault h = cc (h)

-- a step that goes on has its item
item_one : (p q : Position) → step_of p ≡ Running q → length (item_at p) ≡ 1
unfolding step_of item_of
item_one p q h = go (instruction_at p.machine) refl
  where
    go : (o : Option Fields) → instruction_at p.machine ≡ o → length (item_with p.machine (completed (step_of p)) (instruction_at p.machine)) ≡ 1
    go None e = absurd (ends_by p q (effect_of p.machine) (fault_without p.machine e) h)
    go (Some i) e = rw e refl

pub trace_length : (p q : Position) (n : ℕ) → run_of n p ≡ Running q → length (trace_of n p) ≡ n
trace_length p q zero h = ap length (along-zero step_of item_at (Running p))
trace_length p q (suc n) h =
    let l = last_step step_of n (Running p) q h in
    ap length (along-one step_of item_at n (Running p) l.0 l.1) ∙ length-append (trace_of n p) (item_at l.0) ∙ rw (trace_length p l.0 n l.1, item_one l.0 q l.2) (add-one n)

spots_are : (p : Position) (b c : ℕ) → IsRunning (run_of c p) → b ≤ c → reached (play_step (script_of p b c)) (c - b) (Running (spot_of (position_at b p))) ≡ spots_between p b c
spots_are p b c there before =
    let sum : b + (c - b) ≡ c = omega arith in
    path_along (λ q. map spot_of (landed (step_of q))) (λ s. landed (play_step (script_of p b c) s)) p b c (c - b) (spots_alike (script_of p b c)) (rw sum there) (omega arith)
    ∙ sym (map-along spot_of step_of (λ q. landed (step_of q)) (c - b) (Running (position_at b p)))

line_between : (p : Position) (t : ℕ) (end : End) (b c : ℕ) (line : Line) → EndsAt p t end → b < c → c ≤ t → IsLineOf (path_between p b c) line → IsLineBetween p b c line
line_between p t end b c line h before within is = record {
  steps = is.steps ∙ ap (λ n. length (path_trace path n)) size ∙ ap length (trace_between p b c there (le_of_lt before)) ∙ trace_length (position_at b p) (position_at c p) (c - b) (goes_to p b c there (le_of_lt before));
  calls =
      is.calls ∙ ap (λ n. (state_of (path_after path n)).calls - (position_at b p).calls) size
      ∙ ap (λ (x : RunState Spot Halt). (state_of x).calls - (position_at b p).calls) exact.met;
  hits =
      subst (λ spots. AreHits (spot_of (position_at c p)) spots line.hits) (spots_are p b c there (le_of_lt before))
      (subst (λ n. AreHits (spot_of (position_at c p)) (reached (play_step (script_of p b c)) n (Running (spot_of (position_at b p)))) line.hits) size is.hits);
}
  where
    path : Path
    path = path_between p b c

    there : IsRunning (run_of c p)
    there = running_earlier step_of c t (Running p) within h.position

    exact : IsMatch (path_between p b c) (c - b)
    exact = match_between p b c (t + 1) (position_at t p) end h.over there before

    size : is.distance ≡ c - b
    size = match_here p t end b c is.distance h before within is.exact

line_last : (p : Position) (t : ℕ) (end : End) (b : ℕ) (line : Line) → EndsAt p t end → b ≤ t → IsLineOf (last_path p b t) line → IsLastLine p t b line
line_last p t end b line h before is =
    let path = last_path p b t in
    let size : is.distance ≡ t + 1 - b = match_once path is.distance (t + 1 - b) is.exact (match_last p b t end h before) in record {
      steps = is.steps ∙ ap (λ n. length (path_trace path n)) size ∙ ap length (trace_last p b t end h before);
      calls =
          is.calls ∙ ap (λ n. (state_of (path_after path n)).calls - (position_at b p).calls) size
          ∙ ap (λ (x : RunState Spot Halt). (state_of x).calls - (position_at b p).calls) (at_end p b t end h before).1;
      hits = is.hits;
    }

pub lines_are : (p : Position) (t : ℕ) (end : End) (b : ℕ) (cuts : List ℕ) (lines : List Line) → EndsAt p t end → AreBetween t b cuts → AreLinesOfPaths p t b cuts lines → AreLines p t b cuts lines
lines_are p t end b [] [] h order wrong = wrong
lines_are p t end b [] (line ∷ []) h order is = line_last p t end b line h order is
lines_are p t end b [] (line ∷ other ∷ lines) h order wrong = wrong
lines_are p t end b (c ∷ cuts) [] h order wrong = wrong
lines_are p t end b (c ∷ cuts) (line ∷ lines) h order all =
    (line_between p t end b c line h order.0 (within_last t c cuts order.1) all.0, lines_are p t end c cuts lines h order.1 all.1)

-- there is one list of lines
line_same : (x y : Line) → x.steps ≡ y.steps → x.calls ≡ y.calls → x.hits ≡ y.hits → x ≡ y
line_same x y s c h = λ i. record { steps = s i; calls = c i; hits = h i }

between_once : (p : Position) (b c : ℕ) (x y : Line) → IsLineBetween p b c x → IsLineBetween p b c y → x ≡ y
between_once p b c x y m n =
    line_same x y (m.steps ∙ sym n.steps) (m.calls ∙ sym n.calls) (hits_once (spot_of (position_at c p)) (spots_between p b c) x.hits y.hits m.hits n.hits)

last_once : (p : Position) (t b : ℕ) (x y : Line) → IsLastLine p t b x → IsLastLine p t b y → x ≡ y
last_once p t b x y m n = line_same x y (m.steps ∙ sym n.steps) (m.calls ∙ sym n.calls) (m.hits ∙ sym n.hits)

pub lines_once : (p : Position) (t b : ℕ) (cuts : List ℕ) (xs ys : List Line) → AreLines p t b cuts xs → AreLines p t b cuts ys → xs ≡ ys
lines_once p t b [] [] ys m n = absurd m
lines_once p t b [] (x ∷ other ∷ xs) ys m n = absurd m
lines_once p t b [] (x ∷ []) [] m n = absurd n
lines_once p t b [] (x ∷ []) (y ∷ other ∷ ys) m n = absurd n
lines_once p t b [] (x ∷ []) (y ∷ []) m n = ap (λ z. z ∷ []) (last_once p t b x y m n)
lines_once p t b (c ∷ cuts) [] ys m n = absurd m
lines_once p t b (c ∷ cuts) (x ∷ xs) [] m n = absurd n
lines_once p t b (c ∷ cuts) (x ∷ xs) (y ∷ ys) m n = rw (between_once p b c x y m.0 n.0, lines_once p t c cuts xs ys m.1 n.1) refl

-- the steps add up
one_number : (f : Line → ℕ) (line : Line) → sum_by f (line ∷ []) ≡ f line
one_number f line = sum_by-cons f line [] ∙ omega arith

steps_from : (p : Position) (t : ℕ) (end : End) (b : ℕ) (cuts : List ℕ) (lines : List Line) → EndsAt p t end → AreBetween t b cuts → AreLines p t b cuts lines → sum_by (λ (l : Line). l.steps) lines ≡ length (trace_of (t + 1 - b) (position_at b p))
steps_from p t end b [] [] h order wrong = absurd wrong
steps_from p t end b [] (line ∷ []) h order is = one_number (λ (l : Line). l.steps) line ∙ is.steps
steps_from p t end b [] (line ∷ other ∷ lines) h order wrong = absurd wrong
steps_from p t end b (c ∷ cuts) [] h order wrong = absurd wrong
steps_from p t end b (c ∷ cuts) (line ∷ lines) h order all =
    let first : IsLineBetween p b c line = all.0 in
    let within : c ≤ t = within_last t c cuts order.1 in
    let there : IsRunning (run_of c p) = running_earlier step_of c t (Running p) within h.position in
    let size : length (trace_of (c - b) (position_at b p)) ≡ c - b = trace_length (position_at b p) (position_at c p) (c - b) (goes_to p b c there (le_of_lt order.0)) in
    let whole = ap length (trace_split p b c t there (le_of_lt order.0) within) in
    let parts = length-append (trace_of (c - b) (position_at b p)) (trace_of (t + 1 - c) (position_at c p)) in
    let rest = steps_from p t end c cuts lines h order.1 all.1 in
    sum_by-cons (λ (l : Line). l.steps) line lines ∙ rw (first.steps, rest) (sym (sym whole ∙ parts ∙ rw size refl))

-- and the calls
calls_from : (p : Position) (t : ℕ) (end : End) (b : ℕ) (cuts : List ℕ) (lines : List Line) → EndsAt p t end → AreBetween t b cuts → AreLines p t b cuts lines → sum_by (λ (l : Line). l.calls) lines ≡ (position_at t p).calls - (position_at b p).calls
calls_from p t end b [] [] h order wrong = absurd wrong
calls_from p t end b [] (line ∷ []) h order is = one_number (λ (l : Line). l.calls) line ∙ is.calls
calls_from p t end b [] (line ∷ other ∷ lines) h order wrong = absurd wrong
calls_from p t end b (c ∷ cuts) [] h order wrong = absurd wrong
calls_from p t end b (c ∷ cuts) (line ∷ lines) h order all =
    let head : IsLineBetween p b c line = all.0 in
    let within : c ≤ t = within_last t c cuts order.1 in
    let there : IsRunning (run_of c p) = running_earlier step_of c t (Running p) within h.position in
    let first : (position_at c p).calls ≡ (position_at b p).calls + length (entries_of (c - b) (position_at b p)) = calls_along (position_at b p) (position_at c p) (c - b) (goes_to p b c there (le_of_lt order.0)) in
    let second : (position_at t p).calls ≡ (position_at c p).calls + length (entries_of (t - c) (position_at c p)) = calls_along (position_at c p) (position_at t p) (t - c) (goes_to p c t h.position within) in
    let rest = calls_from p t end c cuts lines h order.1 all.1 in
    sum_by-cons (λ (l : Line). l.calls) line lines ∙ rw (head.calls, rest) (omega arith)

pub steps_add_up : (p : Position) (t : ℕ) (end : End) (cuts : List ℕ) (lines : List Line) → EndsAt p t end → AreBetween t 0 cuts → AreLines p t 0 cuts lines → sum_by (λ (l : Line). l.steps) lines ≡ length (trace_of (t + 1) p)
steps_add_up p t end cuts lines h order all = steps_from p t end 0 cuts lines h order all ∙ ap length (trace_from_start p t)

pub calls_add_up : (p : Position) (t : ℕ) (end : End) (cuts : List ℕ) (lines : List Line) → EndsAt p t end → AreBetween t 0 cuts → AreLines p t 0 cuts lines → sum_by (λ (l : Line). l.calls) lines ≡ length (entries_of (t + 1) p)
calls_add_up p t end cuts lines h order all =
    let there : run_of t p ≡ Running (position_at t p) = at_position p t h.position in
    let count : (position_at t p).calls ≡ p.calls + length (entries_of t p) = calls_along p (position_at t p) t there in
    let none : entry_at (position_at t p) ≡ [] = (stops (position_at t p) (position_at t p) end (last_step_of_run p t end h)).no_entry in
    let whole : entries_of (t + 1) p ≡ entries_of t p = along-next step_of entry_at t (Running p) (position_at t p) there ∙ rw none (append-nil (entries_of t p)) in
    calls_from p t end 0 cuts lines h order all ∙ rw (position_zero p, whole) (omega arith)
