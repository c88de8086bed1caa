-- The lengths of a run's blocks add up to its instructions.
use Rattle.std.proofs.Common.{◌≡◌, ℕ, zero, suc, ◌+◌, ◌≤◌, ◌%◌, ◌^◌, List, [], ◌∷◌, ◌++◌, refl, sym, ap, subst, ◌∙◌, arith, add-zero, zero-add}
use Rattle.std.specs.Prelude.{Bool, true, false, map, Option, None, Some, cond, if◌then◌else◌}
use Rattle.std.specs.List.{All, sum_by}
use Rattle.std.specs.Option.{option_map}
use Rattle.std.proofs.lemmas.Bool.{true≢false}
use Rattle.std.proofs.lemmas.Grind.{flat_map-append}
use Rattle.std.proofs.lemmas.List.{append-nil}
use Rattle.std.proofs.lemmas.List.Elements.{All-cons, All-head, All-nil, All-tail}
use Rattle.std.proofs.lemmas.List.Sums.{sum_by-append}
use Rattle.rv_isa.specs.Kinds.{ends_block}
use Rattle.rv_isa.specs.Table.{Fields}
use Rattle.guest_model.specs.Machine.{Machine, instruction_at}
use Rattle.guest_model.specs.Runs.{RunState, Running, Ended, advance, here}
use Rattle.guest_model.specs.Serial.{Exit, Signal, Unsupported, End, Position, TraceItem, completed, item_at, item_of, item_with, run_of, step_of, trace_of}
use Rattle.guest_model.proofs.Runs.{after-suc, after-zero, along-suc, along-zero}
use Rattle.ins_views.specs.Blocks.{block_length}
use Rattle.ins_views.specs.Views.{IsViews, ViewFields, ins_at}
use Rattle.ins_views.proofs.Blocks.{block_by_block, ins_placed}
use Rattle.insert_points.specs.Arguments.{jumps}
use Rattle.insert_points.specs.Events.{Called, event_of, events_of, late_events, operands_of}
use Rattle.insert_points.specs.Planned.{plan_call, plan_calls}
use Rattle.insert_points.specs.declared.call.Arg.TheVariants.{Const}
use Rattle.insert_points.specs.declared.call.Event.{Event}
use Rattle.insert_points.specs.declared.call.Point.TheVariants.{Before, After, Taken}
use Rattle.insert_points.specs.declared.operands.Operands.{Operands}
use Rattle.insert_points.specs.declared.planned.PlannedCall.{PlannedCall}
use Rattle.tool_law.specs.Events.{step_events, trace_events}
use Rattle.tool_law.specs.Planning as planning
use Rattle.tool_law.specs.Planning.{called_of, routine_starting}
use Rattle.tool_counts.specs.Calls.{block_count_calls, call_before, instruction_calls}
use Rattle.tool_counts.specs.Counts.{length_of, own_events}
use Rattle.tool_parts.specs.Calls.{is_own}
use Rattle.tool_counts.proofs.Effects.{exit_ends, fault_without, next_leads}

-- nothing but one call is called at an address: at its block, or at its instruction
abbrev only_block : PlannedCall → Called
only_block call = record { routine = []; block = call ∷ []; before = []; after = []; taken = [] }

abbrev only_before : PlannedCall → Called
only_before call = record { routine = []; block = []; before = call ∷ []; after = []; taken = [] }

-- the instruction's block is called with its length
block_called : (views : ViewFields) (a : ℕ) (i : Fields) → ins_at views a ≡ Some i → called_of block_count_calls views a ≡ only_block (plan_call None (call_before (Const (block_length views a) ∷ [])))
unfolding called_of plan_calls
block_called views a i is = go (routine_starting views a) (ins_at views a) is
  where
    go : (k : Option ℕ) (o : Option Fields) → o ≡ Some i
        → record {
          routine = planning.routine_calls block_count_calls a k;
          block = planning.block_calls block_count_calls (option_map (λ _. record { head = a; len = block_length views a }) o);
          before = planning.instruction_calls block_count_calls Before a o;
          after = planning.instruction_calls block_count_calls After a o;
          taken = planning.instruction_calls block_count_calls Taken a o;
        } ≡ only_block (plan_call None (call_before (Const (block_length views a) ∷ [])))
    go k None e = cc
    go None (Some j) e = refl
    go (Some k) (Some j) e = refl

instruction_called : (views : ViewFields) (a : ℕ) (i : Fields) → ins_at views a ≡ Some i → called_of instruction_calls views a ≡ only_before (plan_call (Some i.op) (call_before []))
unfolding called_of plan_calls
instruction_called views a i is = go (routine_starting views a) (ins_at views a) is
  where
    go : (k : Option ℕ) (o : Option Fields) → o ≡ Some i
        → record {
          routine = planning.routine_calls instruction_calls a k;
          block = planning.block_calls instruction_calls (option_map (λ _. record { head = a; len = block_length views a }) o);
          before = planning.instruction_calls instruction_calls Before a o;
          after = planning.instruction_calls instruction_calls After a o;
          taken = planning.instruction_calls instruction_calls Taken a o;
        } ≡ only_before (plan_call (Some i.op) (call_before []))
    go k None e = cc
    go None (Some j) e = let same : j ≡ i = cc in ap (λ (f : Fields). only_before (plan_call (Some f.op) (call_before []))) same
    go (Some k) (Some j) e = let same : j ≡ i = cc in ap (λ (f : Fields). only_before (plan_call (Some f.op) (call_before []))) same

no_late : (called : Called) (o : Operands) (c : Option Machine) → called.after ≡ [] → called.taken ≡ [] → late_events called o c ≡ []
no_late called o None after taken = refl
no_late called o (Some m) after taken = go (jumps o)
  where
    go : (b : Bool) → map (event_of o m.registers) (if b then called.taken else called.after) ≡ []
    go true = ap (map (event_of o m.registers)) taken
    go false = ap (map (event_of o m.registers)) after

-- the events of such a step
block_event : (call : PlannedCall) (item : TraceItem) → events_of (only_block call) item ≡ (if item.before.fresh then event_of (operands_of item) item.before.registers call ∷ [] else [])
unfolding events_of
block_event call item =
    ap (λ (es : List Event). (if item.before.fresh then event_of (operands_of item) item.before.registers call ∷ [] else []) ++ es) (no_late (only_block call) (operands_of item) item.completion refl refl)
    ∙ append-nil (if item.before.fresh then event_of (operands_of item) item.before.registers call ∷ [] else [])

instruction_event : (call : PlannedCall) (item : TraceItem) → events_of (only_before call) item ≡ event_of (operands_of item) item.before.registers call ∷ []
unfolding events_of
instruction_event call item = go item.before.fresh
  where
    go : (b : Bool) → (if b then [] else []) ++ (event_of (operands_of item) item.before.registers call ∷ late_events (only_before call) (operands_of item) item.completion) ≡ event_of (operands_of item) item.before.registers call ∷ []
    go true = ap (λ (es : List Event). event_of (operands_of item) item.before.registers call ∷ es) (no_late (only_before call) (operands_of item) item.completion refl refl)
    go false = ap (λ (es : List Event). event_of (operands_of item) item.before.registers call ∷ es) (no_late (only_before call) (operands_of item) item.completion refl refl)

module _ (views : ViewFields) where
  -- an instruction of the views
  abbrev IsKnown : TraceItem → Type 0
  IsKnown item = ins_at views item.before.pc ≡ Some item.instruction

  -- what a step adds to the blocks' lengths, and to the instructions
  abbrev begun : Machine → ℕ
  begun m = if m.fresh then block_length views m.pc else 0

  abbrev blocks : List TraceItem → ℕ
  blocks items = sum_by length_of (trace_events block_count_calls views items)

  abbrev ones : List TraceItem → ℕ
  ones items = own_events (trace_events instruction_calls views items)

  blocks_at : (item : TraceItem) → IsKnown item → sum_by length_of (step_events block_count_calls views item) ≡ begun item.before
  blocks_at item known =
      let called = block_called views item.before.pc item.instruction known in
      let call = plan_call None (call_before (Const (block_length views item.before.pc) ∷ [])) in
      ap (λ (c : Called). sum_by length_of (events_of c item)) called ∙ (ap (sum_by length_of) (block_event call item) ∙ go item.before.fresh)
    where
      go : (b : Bool) → sum_by length_of (if b then event_of (operands_of item) item.before.registers (plan_call None (call_before (Const (block_length views item.before.pc) ∷ []))) ∷ [] else []) ≡ (if b then block_length views item.before.pc else 0)
      go true = zero-add (block_length views item.before.pc)
      go false = refl

  ones_at : (item : TraceItem) → IsKnown item → own_events (step_events instruction_calls views item) ≡ 1
  ones_at item known =
      let called = instruction_called views item.before.pc item.instruction known in
      ap (λ (c : Called). own_events (events_of c item)) called ∙ ap own_events (instruction_event (plan_call (Some item.instruction.op) (call_before [])) item)

  -- one item more
  blocks_more : (items : List TraceItem) (item : TraceItem) → IsKnown item → blocks (items ++ item ∷ []) ≡ blocks items + begun item.before
  blocks_more items item known =
      ap (sum_by length_of) (flat_map-append (step_events block_count_calls views) items (item ∷ []))
      ∙ (sum_by-append length_of (trace_events block_count_calls views items) (step_events block_count_calls views item ++ [])
      ∙ ap (λ (n : ℕ). blocks items + n) (ap (sum_by length_of) (append-nil (step_events block_count_calls views item)) ∙ blocks_at item known))

  ones_more : (items : List TraceItem) (item : TraceItem) → IsKnown item → ones (items ++ item ∷ []) ≡ ones items + 1
  ones_more items item known =
      ap own_events (flat_map-append (step_events instruction_calls views) items (item ∷ []))
      ∙ (sum_by-append (λ e. cond (is_own e) 1 0) (trace_events instruction_calls views items) (step_events instruction_calls views item ++ [])
      ∙ ap (λ (n : ℕ). ones items + n) (ap own_events (append-nil (step_events instruction_calls views item)) ∙ ones_at item known))

  -- how many instructions are still to come of a block that was counted
  abbrev pending : Machine → ℕ
  pending m = if m.fresh then 0 else block_length views m.pc

  both : (b : Bool) (n : ℕ) → (if b then n else 0) + (if b then 0 else n) ≡ n
  both true n = add-zero n
  both false n = zero-add n

  next_pending : (fresh ends : Bool) (pc there here : ℕ) → fresh ≡ ends → (ends ≡ false → pc ≡ there) → here ≡ (if ends then 1 else block_length views there + 1) → here ≡ 1 + (if fresh then 0 else block_length views pc)
  next_pending true true pc there here f p h = h
  next_pending false false pc there here f p h = omega (arith, h, ap (block_length views) (p refl))
  next_pending true false pc there here f p h = absurd (true≢false f)
  next_pending false true pc there here f p h = absurd (true≢false (sym f))

  within : (pc : ℕ) → pc + 4 ≤ 0x40000000 → (pc + 4) % 2 ^ 32 ≡ pc + 4
  within pc le = omega arith

  -- the block that a step belongs to
  step_pending : IsViews views → (p q : Position) (i : Fields) → instruction_at p.machine ≡ Some i → ins_at views p.machine.pc ≡ Some i → step_of p ≡ Running q → block_length views p.machine.pc ≡ 1 + pending q.machine
  step_pending is p q i here known on =
      let leads = next_leads p q i here on in
      let pc = p.machine.pc in
      let placed = ins_placed views pc i is known in
      next_pending q.machine.fresh (ends_block i.op) q.machine.pc (pc + 4) (block_length views pc) leads.fresh (λ e. leads.pc e ∙ within pc placed.below) (block_by_block views pc i is known)

  -- a step adds its item
  item_is : (p : Position) (i : Fields) → instruction_at p.machine ≡ Some i → item_at p ≡ record { before = p.machine; instruction = i; completion = completed (step_of p) } ∷ []
  unfolding item_of
  item_is p i here = ap (item_with p.machine (completed (step_of p))) here

  All-first : (xs ys : List TraceItem) → All IsKnown (xs ++ ys) → All IsKnown xs
  All-first [] ys h = All-nil IsKnown
  All-first (x ∷ xs) ys h = All-cons IsKnown x xs (All-head IsKnown x (xs ++ ys) h) (All-first xs ys (All-tail IsKnown x (xs ++ ys) h))

  All-last : (xs ys : List TraceItem) → All IsKnown (xs ++ ys) → All IsKnown ys
  All-last [] ys h = h
  All-last (x ∷ xs) ys h = All-last xs ys (All-tail IsKnown x (xs ++ ys) h)

  abbrev IsBalanced : RunState Position End → List TraceItem → Type 0
  IsBalanced (Running q) items = blocks items ≡ ones items + pending q.machine
  IsBalanced (Ended q (Exit status)) items = blocks items ≡ ones items
  IsBalanced (Ended q end) items = Unit {0}

  module _ (is : IsViews views) where
    -- an instruction that ends its block is the last one that was still to come
    last_pending : (p : Position) (i : Fields) → ins_at views p.machine.pc ≡ Some i → ends_block i.op ≡ true → block_length views p.machine.pc ≡ 1
    last_pending p i known ends = block_by_block views p.machine.pc i is known ∙ ap (λ (b : Bool). if b then 1 else block_length views (p.machine.pc + 4) + 1) ends

    own_item : (p : Position) (items : List TraceItem) (i : Fields) → instruction_at p.machine ≡ Some i → All IsKnown (items ++ item_at p) → ins_at views p.machine.pc ≡ Some i
    own_item p items i here known =
        let item : TraceItem = record { before = p.machine; instruction = i; completion = completed (step_of p) } in
        let all : All IsKnown (items ++ item ∷ []) = subst (λ (xs : List TraceItem). All IsKnown (items ++ xs)) (item_is p i here) known in
        All-head IsKnown item [] (All-last items (item ∷ []) all)

    step_balanced : (p : Position) (items : List TraceItem) (i : Fields) (state : RunState Position End) → instruction_at p.machine ≡ Some i → ins_at views p.machine.pc ≡ Some i → step_of p ≡ state
        → blocks items ≡ ones items + pending p.machine → IsBalanced state (items ++ record { before = p.machine; instruction = i; completion = completed (step_of p) } ∷ [])
    step_balanced p items i (Running q) here own leads balanced =
        let item : TraceItem = record { before = p.machine; instruction = i; completion = completed (step_of p) } in
        let whole = both p.machine.fresh (block_length views p.machine.pc) in
        omega (arith, blocks_more items item own, ones_more items item own, whole, step_pending is p q i here own leads, balanced)
    step_balanced p items i (Ended q (Exit status)) here own leads balanced =
        let item : TraceItem = record { before = p.machine; instruction = i; completion = completed (step_of p) } in
        let whole = both p.machine.fresh (block_length views p.machine.pc) in
        omega (arith, blocks_more items item own, ones_more items item own, whole, last_pending p i own (exit_ends p q status i here leads), balanced)
    step_balanced p items i (Ended q (Signal kind pc)) here own leads balanced = tt
    step_balanced p items i (Ended q (Unsupported number pc)) here own leads balanced = tt

    next_balanced : (p : Position) (items : List TraceItem) → blocks items ≡ ones items + pending p.machine → All IsKnown (items ++ item_at p) → IsBalanced (step_of p) (items ++ item_at p)
    next_balanced p items balanced known = go (instruction_at p.machine) refl
      where
        go : (o : Option Fields) → instruction_at p.machine ≡ o → IsBalanced (step_of p) (items ++ item_at p)
        go None here = let fault = fault_without p here in subst (λ (s : RunState Position End). IsBalanced s (items ++ item_at p)) (sym fault.1) tt
        go (Some i) here = subst (λ (xs : List TraceItem). IsBalanced (step_of p) (items ++ xs)) (sym (item_is p i here)) (step_balanced p items i (step_of p) here (own_item p items i here known) refl balanced)

    -- one step more, by where the run stands
    more_balanced : (n : ℕ) (start : Position) (state : RunState Position End) → run_of n start ≡ state → (All IsKnown (trace_of n start) → IsBalanced state (trace_of n start)) → All IsKnown (trace_of (suc n) start)
        → IsBalanced (run_of (suc n) start) (trace_of (suc n) start)
    more_balanced n start (Running p) at before known =
        let more : trace_of (suc n) start ≡ trace_of n start ++ item_at p = along-suc step_of item_at n (Running start) ∙ ap (λ (s : RunState Position End). trace_of n start ++ here item_at s) at in
        let leads : run_of (suc n) start ≡ step_of p = after-suc step_of n (Running start) ∙ ap (advance step_of) at in
        let all : All IsKnown (trace_of n start ++ item_at p) = subst (All IsKnown) more known in
        subst (λ (s : RunState Position End). IsBalanced s (trace_of (suc n) start)) (sym leads)
        (subst (λ (xs : List TraceItem). IsBalanced (step_of p) xs) (sym more) (next_balanced p (trace_of n start) (before (All-first (trace_of n start) (item_at p) all)) all))
    more_balanced n start (Ended q e) at before known =
        let more : trace_of (suc n) start ≡ trace_of n start = along-suc step_of item_at n (Running start) ∙ (ap (λ (s : RunState Position End). trace_of n start ++ here item_at s) at ∙ append-nil (trace_of n start)) in
        let leads : run_of (suc n) start ≡ Ended q e = after-suc step_of n (Running start) ∙ ap (advance step_of) at in
        subst (λ (s : RunState Position End). IsBalanced s (trace_of (suc n) start)) (sym leads)
        (subst (λ (xs : List TraceItem). IsBalanced (Ended q e) xs) (sym more) (before (subst (All IsKnown) more known)))

    run_balanced : (n : ℕ) (start : Position) → start.machine.fresh ≡ true → All IsKnown (trace_of n start) → IsBalanced (run_of n start) (trace_of n start)
    run_balanced zero start fresh known =
        subst (λ (s : RunState Position End). IsBalanced s (trace_of 0 start)) (sym (after-zero step_of (Running start)))
        (subst (λ (xs : List TraceItem). blocks xs ≡ ones xs + pending start.machine) (sym (along-zero step_of item_at (Running start))) (ap (λ (b : Bool). 0 + (if b then 0 else block_length views start.machine.pc)) (sym fresh)))
    run_balanced (suc n) start fresh known = more_balanced n start (run_of n start) refl (λ all. run_balanced n start fresh all) known

    pub adds_up : (n : ℕ) (start last : Position) (status : ℕ) → start.machine.fresh ≡ true → run_of n start ≡ Ended last (Exit status) → All IsKnown (trace_of n start)
        → sum_by length_of (trace_events block_count_calls views (trace_of n start)) ≡ own_events (trace_events instruction_calls views (trace_of n start))
    adds_up n start last status fresh ends known = subst (λ (s : RunState Position End). IsBalanced s (trace_of n start)) ends (run_balanced n start fresh known)
