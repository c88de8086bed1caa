-- The pc of each position of a run is an address, where that of the first one is.
use Rattle.std.proofs.Common.{◌≡◌, ℕ, zero, suc, ◌*◌, ◌/◌, ◌%◌, ◌^◌, ◌<◌, ◌==◌, Bool, true, false, cond, List, refl, sym, subst, arith}
use Rattle.std.specs.Prelude.{Option, Some, None}
use Rattle.std.specs.List.{All}
use Rattle.std.proofs.lemmas.List.Elements.{All-append, All-nil}
use Rattle.rv_isa.specs.Arithmetic.{amo_of}
use Rattle.rv_isa.specs.Decoded.{decoded}
use Rattle.rv_isa.specs.Kinds.{is_taken, mem_size}
use Rattle.rv_isa.specs.Table.{Fields}
use Rattle.rv_isa.specs.declared.op.Op.{Op}
use Rattle.rv_isa.specs.declared.op.Op.TheVariants.{Lui, Auipc, Jal, Jalr, Beq, Bne, Blt, Bge, Bltu, Bgeu, Lb, Lbu, Lh, Lhu, Lw, Sb, Sh, Sw, Fence, Ecall, Ebreak, LrW, ScW, AmoswapW, AmoaddW, AmoxorW, AmoandW, AmoorW, AmominW, AmomaxW, AmominuW, AmomaxuW}
use Rattle.guest_model.specs.Call.{Called, Went, Exits, World, call_with, call_of, finished}
use Rattle.guest_model.specs.Call as calls
use Rattle.guest_model.specs.Calls.{Deed, Answers, Takes, Sends, Tells, Maps, Ends, deed_of}
use Rattle.guest_model.specs.Effect.{Effect, Next, Call, Fault, rs1_value, rs2_value, address, target, goes_on, passes, writes_some, branches, loads, loads_some, stores, stores_some, aligned, reserves, reserves_some, swaps, swaps_into, swaps_some, stores_conditionally, stores_reserved, conditional_some, machine_at, machine_with, misaligned, effect_by, effect_of, effect_of_instruction, effect_of_word}
use Rattle.guest_model.specs.Machine.{Machine, following, is_reserved}
use Rattle.guest_model.specs.Runs.{RunState, Running, Ended, here}
use Rattle.guest_model.specs.Serial.{Position, End, TraceItem, completed, item_at, run_of, step_of, trace_of}
use Rattle.guest_model.specs.Serial as serial
use Rattle.guest_model.specs.Space.{Space, read_number, write_number}
use Rattle.guest_model.specs.declared.Access.TheVariants.{Read, Execute}
use Rattle.guest_model.proofs.Runs.{along-suc, along-zero, after-zero, last_step, running_same}
use Rattle.serial_run.proofs.Events.{InRange, item_in_range}

wraps : (a : ℕ) → a % 2 ^ 32 < 2 ^ 32
wraps a = omega arith

even_wraps : (a : ℕ) → 2 * (a % 2 ^ 32 / 2) < 2 ^ 32
even_wraps a = omega arith

-- an instruction that completes leaves an address in pc
abbrev LeavesAddress : Effect → Type 0
LeavesAddress (Next next stored) = next.pc < 2 ^ 32
LeavesAddress Call = Unit {0}
LeavesAddress (Fault kind) = Unit {0}

computed : (m : Machine) (i : Fields) (o : Option ℕ) → LeavesAddress (writes_some m i o)
computed m i None = wraps _
computed m i (Some value) = wraps _

jumped : (m : Machine) (i : Fields) (to : ℕ) (b : Bool) → to < 2 ^ 32 → LeavesAddress (cond b (goes_on (machine_with m i (following m) to)) (Fault misaligned))
jumped m i to true fits = fits
jumped m i to false fits = tt

branched : (m : Machine) (i : Fields) (b c : Bool) → LeavesAddress (cond b (cond c (goes_on (machine_at m i (target m i))) (Fault misaligned)) (passes m i))
branched m i true true = wraps _
branched m i true false = tt
branched m i false c = wraps _

loaded : (m : Machine) (i : Fields) (o : Option ℕ) → LeavesAddress (loads_some m i o)
loaded m i None = tt
loaded m i (Some n) = wraps _

stored : (m : Machine) (i : Fields) (s : Option Space) → LeavesAddress (stores_some m i s)
stored m i (Some s) = wraps _
stored m i None = tt

by_branch : (m : Machine) (i : Fields) → LeavesAddress (branches m i)
by_branch m i = branched m i (is_taken i.op (rs1_value m i) (rs2_value m i)) (target m i % 4 == 0)

by_load : (m : Machine) (i : Fields) → LeavesAddress (loads m i)
by_load m i = loaded m i (read_number Read m.space (address m i) (mem_size i.op))

by_store : (m : Machine) (i : Fields) → LeavesAddress (stores m i)
by_store m i = stored m i (write_number m.space (address m i) (mem_size i.op) (rs2_value m i))

is_aligned : (e : Effect) (b : Bool) → LeavesAddress e → LeavesAddress (cond b e (Fault misaligned))
is_aligned e true leaves = leaves
is_aligned e false leaves = tt

reserved : (m : Machine) (i : Fields) (o : Option ℕ) → LeavesAddress (reserves_some m i o)
reserved m i None = tt
reserved m i (Some v) = wraps _

swapped_into : (m : Machine) (i : Fields) (v : ℕ) (s : Option Space) → LeavesAddress (swaps_into m i v s)
swapped_into m i v None = tt
swapped_into m i v (Some s) = wraps _

swapped : (m : Machine) (i : Fields) (o : Option ℕ) → LeavesAddress (swaps_some m i o)
swapped m i None = tt
swapped m i (Some v) = swapped_into m i v (write_number m.space (address m i) 4 (amo_of i.op v (rs2_value m i)))

stored_reserved : (m : Machine) (i : Fields) (is : Bool) (s : Option Space) → LeavesAddress (stores_reserved m i is s)
stored_reserved m i is None = tt
stored_reserved m i true (Some s) = wraps _
stored_reserved m i false (Some s) = wraps _

conditional : (m : Machine) (i : Fields) (o : Option ℕ) → LeavesAddress (conditional_some m i o)
conditional m i None = tt
conditional m i (Some v) = stored_reserved m i (is_reserved m.reservation (address m i)) (write_number m.space (address m i) 4 (rs2_value m i))

by_reserve : (m : Machine) (i : Fields) → LeavesAddress (aligned m i (reserves m i))
by_reserve m i = is_aligned (reserves m i) (address m i % 4 == 0) (reserved m i (read_number Read m.space (address m i) 4))

by_swap : (m : Machine) (i : Fields) → LeavesAddress (aligned m i (swaps m i))
by_swap m i = is_aligned (swaps m i) (address m i % 4 == 0) (swapped m i (read_number Read m.space (address m i) 4))

by_condition : (m : Machine) (i : Fields) → LeavesAddress (aligned m i (stores_conditionally m i))
by_condition m i = is_aligned (stores_conditionally m i) (address m i % 4 == 0) (conditional m i (read_number Read m.space (address m i) 4))

by_row : (op : Op) (m : Machine) (i : Fields) → LeavesAddress (effect_by op m i)
by_row Lui m i = wraps _
by_row Auipc m i = wraps _
by_row Jal m i = jumped m i _ _ (wraps _)
by_row Jalr m i = jumped m i _ _ (even_wraps _)
by_row Beq m i = by_branch m i
by_row Bne m i = by_branch m i
by_row Blt m i = by_branch m i
by_row Bge m i = by_branch m i
by_row Bltu m i = by_branch m i
by_row Bgeu m i = by_branch m i
by_row Lb m i = by_load m i
by_row Lh m i = by_load m i
by_row Lw m i = by_load m i
by_row Lbu m i = by_load m i
by_row Lhu m i = by_load m i
by_row Sb m i = by_store m i
by_row Sh m i = by_store m i
by_row Sw m i = by_store m i
by_row Fence m i = wraps _
by_row Ecall m i = tt
by_row Ebreak m i = tt
by_row LrW m i = by_reserve m i
by_row ScW m i = by_condition m i
by_row AmoswapW m i = by_swap m i
by_row AmoaddW m i = by_swap m i
by_row AmoxorW m i = by_swap m i
by_row AmoandW m i = by_swap m i
by_row AmoorW m i = by_swap m i
by_row AmominW m i = by_swap m i
by_row AmomaxW m i = by_swap m i
by_row AmominuW m i = by_swap m i
by_row AmomaxuW m i = by_swap m i
by_row _ m i = computed m i _

by_instruction : (m : Machine) (i : Option Fields) → LeavesAddress (effect_of_instruction m i)
by_instruction m None = tt
by_instruction m (Some i) = by_row i.op m i

by_word : (m : Machine) (word : Option ℕ) → LeavesAddress (effect_of_word m word)
by_word m None = tt
by_word m (Some word) = by_instruction m (decoded word)

by_effect : (m : Machine) → LeavesAddress (effect_of m)
unfolding effect_of
by_effect m = by_word m (read_number Execute m.space m.pc 4)

-- so does a call that goes on
abbrev CallLeavesAddress : Called → Type 0
CallLeavesAddress (Went next later entry sent) = next.pc < 2 ^ 32
CallLeavesAddress (Exits status) = Unit {0}
CallLeavesAddress (calls.Unsupported number) = Unit {0}

finished_at : (m : Machine) (answer : ℕ) → (finished m answer).pc < 2 ^ 32
unfolding finished
finished_at m answer = wraps _

by_deed : (m : Machine) (w : World) (deed : Option Deed) → CallLeavesAddress (call_with deed m w)
by_deed m w None = tt
by_deed m w (Some (Answers answer)) = finished_at _ _
by_deed m w (Some (Takes into)) = finished_at _ _
by_deed m w (Some (Sends port bytes answer)) = finished_at _ _
by_deed m w (Some (Tells at)) = finished_at _ _
by_deed m w (Some (Maps changed)) = finished_at _ _
by_deed m w (Some (Ends status)) = tt

by_call : (m : Machine) (w : World) → CallLeavesAddress (call_of m w)
unfolding call_of
by_call m w = by_deed m w (deed_of m)

-- and so does a step
abbrev StepLeavesAddress : RunState Position End → Type 0
StepLeavesAddress (Running q) = q.machine.pc < 2 ^ 32
StepLeavesAddress (Ended q end) = Unit {0}

by_step : (p : Position) → StepLeavesAddress (step_of p)
unfolding step_of
by_step p = go (effect_of p.machine) (by_effect p.machine)
  where
    go_call : (c : Called) → CallLeavesAddress c → StepLeavesAddress (serial.step_by_call p c)
    go_call (Went next later entry sent) h = h
    go_call (Exits status) h = tt
    go_call (calls.Unsupported number) h = tt

    go : (e : Effect) → LeavesAddress e → StepLeavesAddress (serial.step_by p e)
    go (Next next stored) h = h
    go Call h = go_call (call_of p.machine p.world) (by_call p.machine p.world)
    go (Fault kind) h = tt

at_address : (p : Position) → p.machine.pc < 2 ^ 32 → (n : ℕ) → StepLeavesAddress (run_of n p)
at_address p fits n = go (run_of n p) n refl
  where
    go : (x : RunState Position End) (n : ℕ) → run_of n p ≡ x → StepLeavesAddress x
    go (Ended q end) n is = tt
    go (Running q) zero is = subst (λ (k : Position). k.machine.pc < 2 ^ 32) (running_same (run_of 0 p) p q (after-zero step_of (Running p)) is) fits
    go (Running q) (suc n) is =
        let before = last_step step_of n (Running p) q is in subst StepLeavesAddress before.2 (by_step before.0)

items_here : (x : RunState Position End) → StepLeavesAddress x → All InRange (here item_at x)
items_here (Running q) h = item_in_range q.machine (completed (step_of q)) h
items_here (Ended q end) h = All-nil InRange

pub trace_in_range : (p : Position) → p.machine.pc < 2 ^ 32 → (n : ℕ) → All InRange (trace_of n p)
trace_in_range p fits zero = subst (λ (items : List TraceItem). All InRange items) (sym (along-zero step_of item_at (Running p))) (All-nil InRange)
trace_in_range p fits (suc n) =
    subst (λ (items : List TraceItem). All InRange items) (sym (along-suc step_of item_at n (Running p)))
    (All-append InRange (trace_of n p) (here item_at (run_of n p)) (trace_in_range p fits n) (items_here (run_of n p) (at_address p fits n)))
