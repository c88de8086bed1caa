-- Where a step of a run leads: to the next address, unless the instruction ends a block.
use Rattle.std.proofs.Common.{◌≡◌, ℕ, refl, ap, sym, subst, ◌∙◌}
use Rattle.std.specs.Prelude.{Bool, true, false, ◌==◌, ◌%◌, Option, None, Some, option_and_then, if◌then◌else◌}
use Rattle.std.proofs.lemmas.Bool.{true≢false}
use Rattle.rv_isa.specs.Arithmetic.{alu_of, amo_of}
use Rattle.rv_isa.specs.Decoded.{decoded}
use Rattle.rv_isa.specs.Kinds.{ends_block, is_taken, mem_size}
use Rattle.rv_isa.specs.Table.{Fields}
use Rattle.rv_isa.specs.declared.op.Op.{Op}
use Rattle.rv_isa.specs.declared.op.Op.TheVariants.{Lui, Auipc, Jal, Jalr, Beq, Bne, Blt, Bge, Bltu, Bgeu, Lb, Lh, Lw, Lbu, Lhu, Sb, Sh, Sw, Addi, Slti, Sltiu, Xori, Ori, Andi, Slli, Srli, Srai, Add, Sub, Sll, Slt, Sltu, Xor, Srl, Sra, Or, And, Fence, Ecall, Ebreak, Mul, Mulh, Mulhsu, Mulhu, Div, Divu, Rem, Remu, LrW, ScW, AmoswapW, AmoaddW, AmoxorW, AmoandW, AmoorW, AmominW, AmomaxW, AmominuW, AmomaxuW}
use Rattle.guest_model.specs.Call.{call_of, call_with, finished}
use Rattle.guest_model.specs.Calls.{Deed, Answers, Takes, Sends, Tells, Maps, Ends, deed_of}
use Rattle.guest_model.specs.Effect.{Effect, Next, Call, Fault, address, branches, computes, effect_by, effect_of, effect_of_instruction, effect_of_word, jumps, loads, loads_some, rs1_value, rs2_value, stores, stores_some, aligned, reserves, reserves_some, swaps, swaps_into, swaps_some, stores_conditionally, stores_reserved, conditional_some, target, writes, writes_some, passes, goes_on, machine_at, machine_with, immediate, even, misaligned}
use Rattle.guest_model.specs.Machine.{Machine, following, instruction_at, is_reserved}
use Rattle.guest_model.specs.Runs.{RunState, Running, Ended}
use Rattle.guest_model.specs.Serial.{End, Exit, Signal, Position, step_by, step_by_call, step_of}
use Rattle.guest_model.specs.Space.{Space, read_number, write_number}
use Rattle.guest_model.specs.declared.Access.TheVariants.{Execute, Read}

-- the machine after an instruction that completed
pub record LeadsTo (m : Machine) (i : Fields) (next : Machine) : Type 0 where
  pub fresh : next.fresh ≡ ends_block i.op
  pub pc : ends_block i.op ≡ false → next.pc ≡ following m

abbrev IsFault : Effect → Type 0
IsFault (Next next stored) = ⊥
IsFault Call = ⊥
IsFault (Fault kind) = Unit {0}

-- the machine that a run goes on with, and whether it is fresh
abbrev machine_or : Machine → RunState Position End → Machine
machine_or m (Running q) = q.machine
machine_or m (Ended q end) = m

abbrev fresh_of : RunState Position End → Bool
fresh_of (Running q) = q.machine.fresh
fresh_of (Ended q end) = false

-- an effect that keeps to it; a call ends a block
abbrev Keeps : Machine → Fields → Effect → Type 0
Keeps m i (Next next stored) = LeadsTo m i next
Keeps m i Call = ends_block i.op ≡ true
Keeps m i (Fault kind) = Unit {0}

writes_keeps : (m : Machine) (i : Fields) (value : ℕ) → Keeps m i (writes m i value)
writes_keeps m i value = record { fresh = refl; pc = λ _. refl }

computes_keeps : (m : Machine) (i : Fields) (operand : ℕ) → Keeps m i (computes m i operand)
computes_keeps m i operand = go (alu_of i.op (rs1_value m i) operand)
  where
    go : (r : Option ℕ) → Keeps m i (writes_some m i r)
    go None = record { fresh = refl; pc = λ _. refl }
    go (Some value) = record { fresh = refl; pc = λ _. refl }

loads_keeps : (m : Machine) (i : Fields) → Keeps m i (loads m i)
loads_keeps m i = go (read_number Read m.space (address m i) (mem_size i.op))
  where
    go : (r : Option ℕ) → Keeps m i (loads_some m i r)
    go None = tt
    go (Some n) = record { fresh = refl; pc = λ _. refl }

stores_keeps : (m : Machine) (i : Fields) → Keeps m i (stores m i)
stores_keeps m i = go (write_number m.space (address m i) (mem_size i.op) (rs2_value m i))
  where
    go : (r : Option Space) → Keeps m i (stores_some m i r)
    go None = tt
    go (Some s) = record { fresh = refl; pc = λ _. refl }

either_keeps : (m : Machine) (i : Fields) (b : Bool) (x y : Effect) → Keeps m i x → Keeps m i y → Keeps m i (if b then x else y)
either_keeps m i true x y h k = h
either_keeps m i false x y h k = k

-- an instruction that ends a block may lead anywhere
anywhere : (m : Machine) (i : Fields) (next : Machine) → ends_block i.op ≡ true → next.fresh ≡ ends_block i.op → LeadsTo m i next
anywhere m i next ends fresh = record { fresh = fresh; pc = λ e. absurd (true≢false (sym ends ∙ e)) }

jumps_keeps : (m : Machine) (i : Fields) (to : ℕ) → ends_block i.op ≡ true → Keeps m i (jumps m i to)
jumps_keeps m i to ends = either_keeps m i (to % 4 == 0) (goes_on (machine_with m i (following m) to)) (Fault misaligned) (anywhere m i (machine_with m i (following m) to) ends refl) tt

branches_keeps : (m : Machine) (i : Fields) → ends_block i.op ≡ true → Keeps m i (branches m i)
branches_keeps m i ends =
    either_keeps m i (is_taken i.op (rs1_value m i) (rs2_value m i)) (if target m i % 4 == 0 then goes_on (machine_at m i (target m i)) else Fault misaligned) (passes m i)
    (either_keeps m i (target m i % 4 == 0) (goes_on (machine_at m i (target m i))) (Fault misaligned) (anywhere m i (machine_at m i (target m i)) ends refl) tt)
    (anywhere m i (machine_at m i (following m)) ends refl)

reserves_keeps : (m : Machine) (i : Fields) → Keeps m i (aligned m i (reserves m i))
reserves_keeps m i = either_keeps m i (address m i % 4 == 0) (reserves m i) (Fault misaligned) (go (read_number Read m.space (address m i) 4)) tt
  where
    go : (r : Option ℕ) → Keeps m i (reserves_some m i r)
    go None = tt
    go (Some v) = record { fresh = refl; pc = λ _. refl }

swaps_keeps : (m : Machine) (i : Fields) → Keeps m i (aligned m i (swaps m i))
swaps_keeps m i = either_keeps m i (address m i % 4 == 0) (swaps m i) (Fault misaligned) (go (read_number Read m.space (address m i) 4)) tt
  where
    into : (v : ℕ) (s : Option Space) → Keeps m i (swaps_into m i v s)
    into v None = tt
    into v (Some s) = record { fresh = refl; pc = λ _. refl }

    go : (r : Option ℕ) → Keeps m i (swaps_some m i r)
    go None = tt
    go (Some v) = into v (write_number m.space (address m i) 4 (amo_of i.op v (rs2_value m i)))

conditional_keeps : (m : Machine) (i : Fields) → Keeps m i (aligned m i (stores_conditionally m i))
conditional_keeps m i = either_keeps m i (address m i % 4 == 0) (stores_conditionally m i) (Fault misaligned) (go (read_number Read m.space (address m i) 4)) tt
  where
    by : (is : Bool) (s : Option Space) → Keeps m i (stores_reserved m i is s)
    by is None = tt
    by true (Some s) = record { fresh = refl; pc = λ _. refl }
    by false (Some s) = record { fresh = refl; pc = λ _. refl }

    go : (r : Option ℕ) → Keeps m i (conditional_some m i r)
    go None = tt
    go (Some v) = by (is_reserved m.reservation (address m i)) (write_number m.space (address m i) 4 (rs2_value m i))

row_keeps : (op : Op) (m : Machine) (i : Fields) → i.op ≡ op → Keeps m i (effect_by op m i)
row_keeps Lui m i is = writes_keeps m i (immediate i)
row_keeps Auipc m i is = writes_keeps m i (target m i)
row_keeps Jal m i is = jumps_keeps m i (target m i) (ap ends_block is)
row_keeps Jalr m i is = jumps_keeps m i (even (address m i)) (ap ends_block is)
row_keeps Beq m i is = branches_keeps m i (ap ends_block is)
row_keeps Bne m i is = branches_keeps m i (ap ends_block is)
row_keeps Blt m i is = branches_keeps m i (ap ends_block is)
row_keeps Bge m i is = branches_keeps m i (ap ends_block is)
row_keeps Bltu m i is = branches_keeps m i (ap ends_block is)
row_keeps Bgeu m i is = branches_keeps m i (ap ends_block is)
row_keeps Lb m i is = loads_keeps m i
row_keeps Lh m i is = loads_keeps m i
row_keeps Lw m i is = loads_keeps m i
row_keeps Lbu m i is = loads_keeps m i
row_keeps Lhu m i is = loads_keeps m i
row_keeps Sb m i is = stores_keeps m i
row_keeps Sh m i is = stores_keeps m i
row_keeps Sw m i is = stores_keeps m i
row_keeps Addi m i is = computes_keeps m i (immediate i)
row_keeps Slti m i is = computes_keeps m i (immediate i)
row_keeps Sltiu m i is = computes_keeps m i (immediate i)
row_keeps Xori m i is = computes_keeps m i (immediate i)
row_keeps Ori m i is = computes_keeps m i (immediate i)
row_keeps Andi m i is = computes_keeps m i (immediate i)
row_keeps Slli m i is = computes_keeps m i (immediate i)
row_keeps Srli m i is = computes_keeps m i (immediate i)
row_keeps Srai m i is = computes_keeps m i (immediate i)
row_keeps Add m i is = computes_keeps m i (rs2_value m i)
row_keeps Sub m i is = computes_keeps m i (rs2_value m i)
row_keeps Sll m i is = computes_keeps m i (rs2_value m i)
row_keeps Slt m i is = computes_keeps m i (rs2_value m i)
row_keeps Sltu m i is = computes_keeps m i (rs2_value m i)
row_keeps Xor m i is = computes_keeps m i (rs2_value m i)
row_keeps Srl m i is = computes_keeps m i (rs2_value m i)
row_keeps Sra m i is = computes_keeps m i (rs2_value m i)
row_keeps Or m i is = computes_keeps m i (rs2_value m i)
row_keeps And m i is = computes_keeps m i (rs2_value m i)
row_keeps Fence m i is = record { fresh = refl; pc = λ _. refl }
row_keeps Ecall m i is = ap ends_block is
row_keeps Ebreak m i is = tt
row_keeps Mul m i is = computes_keeps m i (rs2_value m i)
row_keeps Mulh m i is = computes_keeps m i (rs2_value m i)
row_keeps Mulhsu m i is = computes_keeps m i (rs2_value m i)
row_keeps Mulhu m i is = computes_keeps m i (rs2_value m i)
row_keeps Div m i is = computes_keeps m i (rs2_value m i)
row_keeps Divu m i is = computes_keeps m i (rs2_value m i)
row_keeps Rem m i is = computes_keeps m i (rs2_value m i)
row_keeps Remu m i is = computes_keeps m i (rs2_value m i)
row_keeps LrW m i is = reserves_keeps m i
row_keeps ScW m i is = conditional_keeps m i
row_keeps AmoswapW m i is = swaps_keeps m i
row_keeps AmoaddW m i is = swaps_keeps m i
row_keeps AmoxorW m i is = swaps_keeps m i
row_keeps AmoandW m i is = swaps_keeps m i
row_keeps AmoorW m i is = swaps_keeps m i
row_keeps AmominW m i is = swaps_keeps m i
row_keeps AmomaxW m i is = swaps_keeps m i
row_keeps AmominuW m i is = swaps_keeps m i
row_keeps AmomaxuW m i is = swaps_keeps m i

-- the effect of the instruction at pc
effect_here : (m : Machine) (i : Fields) → instruction_at m ≡ Some i → effect_of m ≡ effect_by i.op m i
unfolding effect_of
effect_here m i is = go (read_number Execute m.space m.pc 4) is
  where
    go : (word : Option ℕ) → option_and_then decoded word ≡ Some i → effect_of_word m word ≡ effect_by i.op m i
    go None e = cc
    go (Some w) e = ap (effect_of_instruction m) e

no_effect : (m : Machine) → instruction_at m ≡ None → IsFault (effect_of m)
unfolding effect_of
no_effect m is = go (read_number Execute m.space m.pc 4) is
  where
    go : (word : Option ℕ) → option_and_then decoded word ≡ None → IsFault (effect_of_word m word)
    go None e = tt
    go (Some w) e = subst (λ (o : Option Fields). IsFault (effect_of_instruction m o)) (sym e) tt

keeps_here : (m : Machine) (i : Fields) → instruction_at m ≡ Some i → Keeps m i (effect_of m)
keeps_here m i is = subst (Keeps m i) (sym (effect_here m i is)) (row_keeps i.op m i refl)

-- a call that goes on leads to a fresh machine
went_fresh : (deed : Option Deed) (m : Machine) (p : Position) (q : Position) → step_by_call p (call_with deed m p.world) ≡ Running q → q.machine.fresh ≡ true
unfolding finished
went_fresh None m p q on = cc
went_fresh (Some (Answers answer)) m p q on = sym (ap fresh_of on)
went_fresh (Some (Takes into)) m p q on = sym (ap fresh_of on)
went_fresh (Some (Sends port bytes answer)) m p q on = sym (ap fresh_of on)
went_fresh (Some (Tells at)) m p q on = sym (ap fresh_of on)
went_fresh (Some (Maps changed)) m p q on = sym (ap fresh_of on)
went_fresh (Some (Ends status)) m p q on = cc

step_by_effect : (p : Position) (e : Effect) → effect_of p.machine ≡ e → step_of p ≡ step_by p e
unfolding step_of
step_by_effect p e is = ap (step_by p) is

-- a step that goes on
pub next_leads : (p q : Position) (i : Fields) → instruction_at p.machine ≡ Some i → step_of p ≡ Running q → LeadsTo p.machine i q.machine
unfolding call_of
next_leads p q i is on = go (effect_of p.machine) refl (keeps_here p.machine i is)
  where
    go : (e : Effect) → effect_of p.machine ≡ e → Keeps p.machine i e → LeadsTo p.machine i q.machine
    go (Next next stored) e k = subst (λ (m : Machine). LeadsTo p.machine i m) (ap (machine_or next) (sym (step_by_effect p (Next next stored) e) ∙ on)) k
    go Call e k = anywhere p.machine i q.machine k (went_fresh (deed_of p.machine) p.machine p q (sym (step_by_effect p Call e) ∙ on) ∙ sym k)
    go (Fault kind) e k = let no = sym (step_by_effect p (Fault kind) e) ∙ on in cc

-- a step that ends by exit
pub exit_ends : (p last : Position) (status : ℕ) (i : Fields) → instruction_at p.machine ≡ Some i → step_of p ≡ Ended last (Exit status) → ends_block i.op ≡ true
exit_ends p last status i is over = go (effect_of p.machine) refl (keeps_here p.machine i is)
  where
    go : (e : Effect) → effect_of p.machine ≡ e → Keeps p.machine i e → ends_block i.op ≡ true
    go (Next next stored) e k = let no = sym (step_by_effect p (Next next stored) e) ∙ over in cc
    go Call e k = k
    go (Fault kind) e k = let no = sym (step_by_effect p (Fault kind) e) ∙ over in cc

-- without an instruction it is a fault
pub fault_without : (p : Position) → instruction_at p.machine ≡ None → (kind : ℕ) × (step_of p ≡ Ended p (Signal kind p.machine.pc))
fault_without p is = go (effect_of p.machine) refl (no_effect p.machine is)
  where
    go : (e : Effect) → effect_of p.machine ≡ e → IsFault e → (kind : ℕ) × (step_of p ≡ Ended p (Signal kind p.machine.pc))
    go (Next next stored) e f = absurd f
    go Call e f = absurd f
    go (Fault kind) e f = (kind, step_by_effect p (Fault kind) e)
