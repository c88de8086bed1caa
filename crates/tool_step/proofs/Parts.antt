-- The events of a step, part by part.
use Rattle.std.proofs.Common.{◌≡◌, ℕ, not, ◌==◌, ◌+◌, ◌≤◌, Bool, true, false, List, [], ◌++◌, length, refl, sym, ap, subst, ◌∙◌, append_assoc, arith, length-append}
use Rattle.std.specs.Prelude.{Option, None, Some, unwrap_or, if◌then◌else◌}
use Rattle.std.specs.List.{flat_map}
use Rattle.std.specs.Option.{option_map}
use Rattle.std.proofs.lemmas.Bool.Decides.{nat_tests}
use Rattle.std.proofs.lemmas.List.{append-nil, length-map, nil_from_length}
use Rattle.rv_isa.specs.Table.{Fields}
use Rattle.guest_model.specs.Machine.{Machine, instruction_at}
use Rattle.guest_model.specs.Serial.{item_of, item_with}
use Rattle.insert_points.specs.Arguments.{jumps}
use Rattle.insert_points.specs.Events.{Called, events_of, late_events, operands_of}
use Rattle.insert_points.specs.Plan.{FewCalls, IsFound, IsFoundAt, PlanFields, called_at, found_calls, is_called, nothing_called}
use Rattle.insert_points.specs.declared.call.Event.{Event}
use Rattle.insert_points.specs.declared.operands.Operands.{Operands}
use Rattle.insert_points.specs.declared.plan.CallsAt.{CallsAt}
use Rattle.insert_points.specs.declared.plan.Found.{Found}
use Rattle.insert_points.specs.declared.planned.PlannedCall.{PlannedCall}
use Rattle.tool_step.specs.Steps.{AreCalls, LacksLate, count_given, events_after, events_by, item_events, operands_of_machine, step_events, events_behind}

-- the events before an instruction
abbrev pub early_by : Called → Operands → List ℕ → Bool → List Event
early_by called o registers fresh =
    events_by o registers called.routine ++ ((if fresh then events_by o registers called.block else []) ++ events_by o registers called.before)

-- all events of a step
abbrev all_by : PlanFields → Machine → Option Machine → Operands → List Event
all_by plan m c o =
    events_by o m.registers (called_at plan o.pc).routine
    ++ ((if m.fresh then events_by o m.registers (called_at plan o.pc).block else [])
    ++ (events_by o m.registers (called_at plan o.pc).before
    ++ late_events (called_at plan o.pc) o c))

abbrev pub operands_with : Machine → Fields → Operands
operands_with m i = operands_of (record { before = m; instruction = i; completion = None })

step_is : (plan : PlanFields) (m : Machine) (c : Option Machine) (o : Operands) → operands_of_machine m ≡ Some o → step_events plan m c ≡ all_by plan m c o
unfolding item_of events_of
step_is plan m c o is = go (instruction_at m) is
  where
    go : (i : Option Fields) → option_map (operands_with m) i ≡ Some o → flat_map (item_events plan) (item_with m c i) ≡ all_by plan m c o
    go None e = cc
    go (Some i) e = append-nil (all_by plan m c (operands_with m i)) ∙ ap (all_by plan m c) (ap (λ (x : Option Operands). unwrap_or x o) e)

-- the events before the instruction are those of a step that does not complete
pub early_is : (plan : PlanFields) (m : Machine) (o : Operands) → operands_of_machine m ≡ Some o → step_events plan m None ≡ early_by (called_at plan o.pc) o m.registers m.fresh
early_is plan m o is =
    let called = called_at plan o.pc in
    let block : List Event = if m.fresh then events_by o m.registers called.block else [] in
    step_is plan m None o is ∙ ap (λ (es : List Event). events_by o m.registers called.routine ++ (block ++ es)) (append-nil (events_by o m.registers called.before))

pub all_by_operands : (plan : PlanFields) (before after : Machine) (o : Operands) → operands_of_machine before ≡ Some o → step_events plan before (Some after) ≡ step_events plan before None ++ events_after plan o after
all_by_operands plan before after o is =
    let called = called_at plan o.pc in
    let routine = events_by o before.registers called.routine in
    let block : List Event = if before.fresh then events_by o before.registers called.block else [] in
    let early = events_by o before.registers called.before in
    let late = events_after plan o after in
    step_is plan before (Some after) o is
    ∙ sym (ap (λ (es : List Event). es ++ late) (early_is plan before o is)
    ∙ (append_assoc routine (block ++ early) late ∙ ap (λ (es : List Event). routine ++ es) (append_assoc block early late)))

if_le : (b : Bool) (xs : List Event) (n : ℕ) → length xs ≤ n → length (if b then xs else []) ≤ n
if_le true xs n h = h
if_le false xs n h = omega arith

length_events : (o : Operands) (registers : List ℕ) (calls : List PlannedCall) → length (events_by o registers calls) ≡ length calls
length_events o registers calls = simp length-map

late_le : (called : Called) (o : Operands) (c : Option Machine) → length (late_events called o c) ≤ length called.after + length called.taken
late_le called o None = omega arith
late_le called o (Some after) = go (jumps o)
  where
    go : (b : Bool) → length (events_by o after.registers (if b then called.taken else called.after)) ≤ length called.after + length called.taken
    go true = omega (arith, length_events o after.registers called.taken)
    go false = omega (arith, length_events o after.registers called.after)

-- how many calls there are at an address
abbrev count_of : Called → ℕ
count_of called = length called.routine + length called.block + (length called.before + length called.after + length called.taken)

events_le : (plan : PlanFields) (m : Machine) (c : Option Machine) (o : Operands) → operands_of_machine m ≡ Some o → length (step_events plan m c) ≤ count_of (called_at plan o.pc)
events_le plan m c o is =
    let called = called_at plan o.pc in
    let routine = events_by o m.registers called.routine in
    let block : List Event = if m.fresh then events_by o m.registers called.block else [] in
    let early = events_by o m.registers called.before in
    let late = late_events called o c in
    let sum : length (routine ++ (block ++ (early ++ late))) ≡ length routine + (length block + (length early + length late)) = simp length-append in
    let block_few : length block ≤ length called.block = if_le m.fresh (events_by o m.registers called.block) (length called.block) (omega (arith, length_events o m.registers called.block)) in
    omega (arith, ap length (step_is plan m c o is), sum, block_few, length_events o m.registers called.routine, length_events o m.registers called.before, late_le called o c)

-- a step gives at most 24 events
pub few_events : (plan : PlanFields) (m : Machine) (c : Option Machine) (o : Operands) → operands_of_machine m ≡ Some o → FewCalls (called_at plan o.pc) → length (step_events plan m c) ≤ 24
few_events plan m c o is few = omega (arith, events_le plan m c o is, few.routine, few.block, few.instruction)

-- the operands are of the instruction at pc
pub pc_is : (m : Machine) (o : Operands) → operands_of_machine m ≡ Some o → o.pc ≡ m.pc
pc_is m o is = go (instruction_at m) is
  where
    go : (i : Option Fields) → option_map (operands_with m) i ≡ Some o → o.pc ≡ m.pc
    go None e = cc
    go (Some i) e = sym (ap (λ (x : Operands). x.pc) (ap (λ (x : Option Operands). unwrap_or x o) e))

-- no events where no instruction stands
pub none_stands : (plan : PlanFields) (m : Machine) (c : Option Machine) → operands_of_machine m ≡ None → step_events plan m c ≡ []
unfolding item_of
none_stands plan m c is = go (instruction_at m) is
  where
    go : (i : Option Fields) → option_map (operands_with m) i ≡ None → flat_map (item_events plan) (item_with m c i) ≡ []
    go None e = refl
    go (Some i) e = cc

no_calls : (n : ℕ) → not (n == 0) ≡ false → n ≡ 0
no_calls n e = grind arith

-- where nothing is called behind an instruction, the events are those before it
plain_by : (plan : PlanFields) (m : Machine) (c : Option Machine) (o : Operands) → operands_of_machine m ≡ Some o → LacksLate (called_at plan o.pc) → step_events plan m c ≡ early_by (called_at plan o.pc) o m.registers m.fresh
plain_by plan m c o is lacks =
    let called = called_at plan o.pc in
    let block : List Event = if m.fresh then events_by o m.registers called.block else [] in
    let before = events_by o m.registers called.before in
    let none : late_events called o c ≡ [] = nil_from_length (late_events called o c) (omega (arith, late_le called o c, lacks)) in
    step_is plan m c o is ∙ ap (λ (es : List Event). events_by o m.registers called.routine ++ (block ++ es)) (ap (λ (es : List Event). before ++ es) none ∙ append-nil before)

pub plain_found : (plan : PlanFields) (m : Machine) (c : Option Machine) (o : Operands) (f : Found) → operands_of_machine m ≡ Some o → IsFound (called_at plan m.pc) f → LacksLate (found_calls f) → step_events plan m c ≡ early_by (found_calls f) o m.registers m.fresh
plain_found plan m c o f is found lacks =
    let same : called_at plan o.pc ≡ found_calls f = ap (called_at plan) (pc_is m o is) ∙ found.calls in
    plain_by plan m c o is (subst LacksLate (sym same) lacks) ∙ ap (λ (called : Called). early_by called o m.registers m.fresh) same

-- and none where nothing is called
pub none_called : (plan : PlanFields) (m : Machine) (c : Option Machine) → is_called (called_at plan m.pc) ≡ false → step_events plan m c ≡ []
none_called plan m c h = go (operands_of_machine m) refl
  where
    go : (o : Option Operands) → operands_of_machine m ≡ o → step_events plan m c ≡ []
    go None e = none_stands plan m c e
    go (Some o) e =
        let here : count_of (called_at plan o.pc) ≡ count_of (called_at plan m.pc) = ap (λ (a : ℕ). count_of (called_at plan a)) (pc_is m o e) in
        nil_from_length (step_events plan m c) (omega (arith, events_le plan m c o e, here, no_calls (count_of (called_at plan m.pc)) h))

-- the events of calls that were looked up
pub early_given : (plan : PlanFields) (m : Machine) (o : Operands) (routine block before : List PlannedCall) → operands_of_machine m ≡ Some o
    → routine ≡ (called_at plan o.pc).routine → block ≡ (called_at plan o.pc).block → before ≡ (called_at plan o.pc).before
    → events_by o m.registers routine ++ ((if m.fresh then events_by o m.registers block else []) ++ events_by o m.registers before) ≡ step_events plan m None
early_given plan m o routine block before is r b f =
    ap (λ (xs : List PlannedCall). events_by o m.registers xs ++ ((if m.fresh then events_by o m.registers block else []) ++ events_by o m.registers before)) r
    ∙ (ap (λ (xs : List PlannedCall). events_by o m.registers (called_at plan o.pc).routine ++ ((if m.fresh then events_by o m.registers xs else []) ++ events_by o m.registers before)) b
    ∙ (ap (λ (xs : List PlannedCall). events_by o m.registers (called_at plan o.pc).routine ++ ((if m.fresh then events_by o m.registers (called_at plan o.pc).block else []) ++ events_by o m.registers xs)) f
    ∙ sym (early_is plan m o is)))

pub late_given : (plan : PlanFields) (m : Machine) (o : Operands) (behind taken : List PlannedCall) → behind ≡ (called_at plan o.pc).after → taken ≡ (called_at plan o.pc).taken
    → events_by o m.registers (if jumps o then taken else behind) ≡ events_after plan o m
late_given plan m o behind taken a t =
    ap (λ (xs : List PlannedCall). events_by o m.registers (if jumps o then xs else behind)) t
    ∙ ap (λ (xs : List PlannedCall). events_by o m.registers (if jumps o then (called_at plan o.pc).taken else xs)) a

-- the events of a step that completed
pub all_is : (plan : PlanFields) (before after : Machine) → step_events plan before (Some after) ≡ step_events plan before None ++ events_behind plan (operands_of_machine before) after
all_is plan before after = go (operands_of_machine before) refl
  where
    go : (o : Option Operands) → operands_of_machine before ≡ o → step_events plan before (Some after) ≡ step_events plan before None ++ events_behind plan o after
    go None e = none_stands plan before (Some after) e ∙ (sym (none_stands plan before None e) ∙ sym (append-nil (step_events plan before None)))
    go (Some o) e = all_by_operands plan before after o e

-- calls that were looked up at an address
pub calls_given : (plan : PlanFields) (a b : ℕ) (given : CallsAt) → a ≡ b → given.routine.now ≡ (called_at plan a).routine → given.block.now ≡ (called_at plan a).block → given.before.now ≡ (called_at plan a).before
    → given.after.now ≡ (called_at plan a).after → given.taken.now ≡ (called_at plan a).taken → AreCalls given (called_at plan b)
calls_given plan a b given same r k f n t = subst (λ (x : ℕ). AreCalls given (called_at plan x)) same (record { routine = r; block = k; before = f; after = n; taken = t })

counts : (given : CallsAt) (called : Called) → AreCalls given called → count_given given ≡ count_of called
counts given called are = omega (arith, ap length are.routine, ap length are.block, ap length are.before, ap length are.after, ap length are.taken)

no_count : (n k : ℕ) → n ≡ k → (n == 0) ≡ true → not (k == 0) ≡ false
no_count n k same none = grind (arith, nat_tests)

pub none_given : (plan : PlanFields) (pc a : ℕ) (given : CallsAt) → a ≡ pc → given.routine.now ≡ (called_at plan a).routine → given.block.now ≡ (called_at plan a).block → given.before.now ≡ (called_at plan a).before
    → given.after.now ≡ (called_at plan a).after → given.taken.now ≡ (called_at plan a).taken → (count_given given == 0) ≡ true → is_called (called_at plan pc) ≡ false
none_given plan pc a given same r k f n t none = no_count (count_given given) (count_of (called_at plan pc)) (counts given (called_at plan pc) (calls_given plan a pc given same r k f n t)) none

-- none where nothing was found
pub none_found : (plan : PlanFields) (m : Machine) (c : Option Machine) → called_at plan m.pc ≡ nothing_called → step_events plan m c ≡ []
none_found plan m c none = none_called plan m c (ap is_called none)

pub few_found : (plan : PlanFields) (m : Machine) (c : Option Machine) (found : Option Found) → IsFoundAt plan m.pc found → length (step_events plan m c) ≤ 24
few_found plan m c None none = omega (arith, ap length (none_found plan m c none))
few_found plan m c (Some f) found = go (operands_of_machine m) refl
  where
    go : (o : Option Operands) → operands_of_machine m ≡ o → length (step_events plan m c) ≤ 24
    go None e = omega (arith, ap length (none_stands plan m c e))
    go (Some o) e = few_events plan m c o e (subst (λ (a : ℕ). FewCalls (called_at plan a)) (sym (pc_is m o e)) found.few)
