-- What one instruction does to a machine (RISC-V unprivileged manual, "RV32I Base Integer Instruction Set" and the M and A
-- extensions).
use Rattle.std.specs.Prelude.{ℕ, ◌+◌, ◌*◌, ◌/◌, ◌%◌, ◌==◌, Bool, true, false, List, [], ◌∷◌, Option, Some, None, if◌then◌else◌}
use Rattle.rv_isa.specs.Word.{unsigned_of}
use Rattle.rv_isa.specs.Table.{Fields}
use Rattle.rv_isa.specs.Decoded.{decoded}
use Rattle.rv_isa.specs.Arithmetic.{alu_of, amo_of}
use Rattle.rv_isa.specs.Kinds.{is_taken, loaded_of, mem_size, ends_block}
use Rattle.rv_isa.specs.declared.op.Op.{Op}
use Rattle.rv_isa.specs.declared.op.Op.TheVariants.{Lui, Auipc, Jal, Jalr, Beq, Bne, Blt, Bge, Bltu, Bgeu, Lb, Lh, Lw, Lbu, Lhu, Sb, Sh, Sw, Addi, Slti, Sltiu, Xori, Ori, Andi, Slli, Srli, Srai, Add, Sub, Sll, Slt, Sltu, Xor, Srl, Sra, Or, And, Fence, Ecall, Ebreak, Mul, Mulh, Mulhsu, Mulhu, Div, Divu, Rem, Remu, LrW, ScW, AmoswapW, AmoaddW, AmoxorW, AmoandW, AmoorW, AmominW, AmomaxW, AmominuW, AmomaxuW}
use Rattle.guest_model.specs.Areas.{wrap}
use Rattle.guest_model.specs.Range.{Range, range}
use Rattle.guest_model.specs.Space.{Space, read_number, write_number}
use Rattle.guest_model.specs.Machine.{Machine, register, put, following, is_reserved}
use Rattle.guest_model.specs.declared.Access.TheVariants.{Read, Execute}

pub data Effect : Type 0 where
  -- the instruction completed, and stored in these ranges
  Next : (next : Machine) (stored : List Range) → Effect
  -- it asks for a call; the machine stays
  Call : Effect
  -- it faults; the machine stays
  Fault : (kind : ℕ) → Effect

-- the kinds of faults, by the numbers of their signals (Linux, signal(7)): SIGILL, SIGTRAP, SIGBUS, SIGSEGV
abbrev pub illegal : ℕ
illegal = 4

abbrev pub breakpoint : ℕ
breakpoint = 5

abbrev pub misaligned : ℕ
misaligned = 7

abbrev pub access : ℕ
access = 11

-- the value of rs1, the value of rs2, the immediate modulo 2^32
abbrev pub rs1_value : Machine → Fields → ℕ
rs1_value m i = register m i.rs1

abbrev pub rs2_value : Machine → Fields → ℕ
rs2_value m i = register m i.rs2

abbrev pub immediate : Fields → ℕ
immediate i = unsigned_of i.imm

-- where a load, a store or an atomic goes, and where a jump by a register goes before its lowest bit is cleared
abbrev pub address : Machine → Fields → ℕ
address m i = wrap (rs1_value m i + immediate i)

-- where a branch or a jump from pc goes
abbrev pub target : Machine → Fields → ℕ
target m i = wrap (m.pc + immediate i)

abbrev pub even : ℕ → ℕ
even a = 2 * (a / 2)

-- the machine at another pc, after this instruction
abbrev pub machine_at : Machine → Fields → ℕ → Machine
machine_at m i next = record m { pc = next; fresh = ends_block i.op }

-- the same with a value in rd
abbrev pub machine_with : Machine → Fields → ℕ → ℕ → Machine
machine_with m i value next = record m { pc = next; registers = put i.rd value m.registers; fresh = ends_block i.op }

-- behind this instruction, with a value in rd, where this is reserved from then on
abbrev pub machine_reserving : Machine → Fields → ℕ → Option ℕ → Machine
machine_reserving m i value reservation = record (machine_with m i value (following m)) { reservation = reservation }

-- the instruction completed, and stored nothing
abbrev pub goes_on : Machine → Effect
goes_on next = Next next []

-- nothing but pc changes
abbrev pub passes : Machine → Fields → Effect
passes m i = goes_on (machine_at m i (following m))

-- rd gets a value
abbrev pub writes : Machine → Fields → ℕ → Effect
writes m i value = goes_on (machine_with m i value (following m))

-- the arithmetic and logic instructions, from rs1 and a second operand
abbrev pub writes_some : Machine → Fields → Option ℕ → Effect
writes_some m i None = passes m i
writes_some m i (Some value) = writes m i value

abbrev pub computes : Machine → Fields → ℕ → Effect
computes m i operand = writes_some m i (alu_of i.op (rs1_value m i) operand)

-- pc gets the target, which must be a multiple of 4 ("Base Instruction Formats"), and rd the address behind the jump
abbrev pub jumps : Machine → Fields → ℕ → Effect
jumps m i to = if to % 4 == 0 then goes_on (machine_with m i (following m) to) else Fault misaligned

-- the target counts only where the branch is taken
abbrev pub branches : Machine → Fields → Effect
branches m i =
    if is_taken i.op (rs1_value m i) (rs2_value m i)
    then (if target m i % 4 == 0 then goes_on (machine_at m i (target m i)) else Fault misaligned)
    else passes m i

-- rd gets what was read
abbrev pub loads_some : Machine → Fields → Option ℕ → Effect
loads_some m i None = Fault access
loads_some m i (Some n) = writes m i (loaded_of i.op n)

abbrev pub loads : Machine → Fields → Effect
loads m i = loads_some m i (read_number Read m.space (address m i) (mem_size i.op))

-- the low bytes of rs2 go to memory
abbrev pub stores_some : Machine → Fields → Option Space → Effect
stores_some m i None = Fault access
stores_some m i (Some s) =
    Next (record m { pc = following m; space = s; fresh = ends_block i.op }) (range (address m i) (mem_size i.op) ∷ [])

abbrev pub stores : Machine → Fields → Effect
stores m i = stores_some m i (write_number m.space (address m i) (mem_size i.op) (rs2_value m i))

-- An atomic's address must be a multiple of 4, which is tested before any permission. The manual's A extension
-- ("Load-Reserved/Store-Conditional Instructions", "Atomic Memory Operations") asks for an exception where it is not; that it
-- is this one is a choice of the project's own, as are the permissions below.
abbrev pub aligned : Machine → Fields → Effect → Effect
aligned m i does = if address m i % 4 == 0 then does else Fault misaligned

-- lr.w, which needs that the word may be read: rd gets it, and its address is reserved
abbrev pub reserves_some : Machine → Fields → Option ℕ → Effect
reserves_some m i None = Fault access
reserves_some m i (Some v) = goes_on (machine_reserving m i v (Some (address m i)))

abbrev pub reserves : Machine → Fields → Effect
reserves m i = reserves_some m i (read_number Read m.space (address m i) 4)

-- An atomic memory operation, which needs that the word may be read and written: rd gets the word, and what the operation
-- makes of it and of rs2, as it was before, goes to memory. What is reserved stays so.
abbrev pub swaps_into : Machine → Fields → ℕ → Option Space → Effect
swaps_into m i v None = Fault access
swaps_into m i v (Some s) = Next (record (machine_with m i v (following m)) { space = s }) (range (address m i) 4 ∷ [])

abbrev pub swaps_some : Machine → Fields → Option ℕ → Effect
swaps_some m i None = Fault access
swaps_some m i (Some v) = swaps_into m i v (write_number m.space (address m i) 4 (amo_of i.op v (rs2_value m i)))

abbrev pub swaps : Machine → Fields → Effect
swaps m i = swaps_some m i (read_number Read m.space (address m i) 4)

-- sc.w, which needs that the word may be read and written, also where it stores nothing: where its address is reserved, rs2
-- goes to memory and rd gets 0, else rd gets 1; and nothing is reserved from then on
abbrev pub stores_reserved : Machine → Fields → Bool → Option Space → Effect
stores_reserved m i reserved None = Fault access
stores_reserved m i true (Some s) = Next (record (machine_reserving m i 0 None) { space = s }) (range (address m i) 4 ∷ [])
stores_reserved m i false (Some s) = goes_on (machine_reserving m i 1 None)

abbrev pub conditional_some : Machine → Fields → Option ℕ → Effect
conditional_some m i None = Fault access
conditional_some m i (Some v) =
    stores_reserved m i (is_reserved m.reservation (address m i)) (write_number m.space (address m i) 4 (rs2_value m i))

abbrev pub stores_conditionally : Machine → Fields → Effect
stores_conditionally m i = conditional_some m i (read_number Read m.space (address m i) 4)

-- one row for each instruction
abbrev pub effect_by : Op → Machine → Fields → Effect
effect_by Lui m i = writes m i (immediate i)
effect_by Auipc m i = writes m i (target m i)
effect_by Jal m i = jumps m i (target m i)
effect_by Jalr m i = jumps m i (even (address m i))
effect_by Beq m i = branches m i
effect_by Bne m i = branches m i
effect_by Blt m i = branches m i
effect_by Bge m i = branches m i
effect_by Bltu m i = branches m i
effect_by Bgeu m i = branches m i
effect_by Lb m i = loads m i
effect_by Lh m i = loads m i
effect_by Lw m i = loads m i
effect_by Lbu m i = loads m i
effect_by Lhu m i = loads m i
effect_by Sb m i = stores m i
effect_by Sh m i = stores m i
effect_by Sw m i = stores m i
effect_by Addi m i = computes m i (immediate i)
effect_by Slti m i = computes m i (immediate i)
effect_by Sltiu m i = computes m i (immediate i)
effect_by Xori m i = computes m i (immediate i)
effect_by Ori m i = computes m i (immediate i)
effect_by Andi m i = computes m i (immediate i)
effect_by Slli m i = computes m i (immediate i)
effect_by Srli m i = computes m i (immediate i)
effect_by Srai m i = computes m i (immediate i)
effect_by Add m i = computes m i (rs2_value m i)
effect_by Sub m i = computes m i (rs2_value m i)
effect_by Sll m i = computes m i (rs2_value m i)
effect_by Slt m i = computes m i (rs2_value m i)
effect_by Sltu m i = computes m i (rs2_value m i)
effect_by Xor m i = computes m i (rs2_value m i)
effect_by Srl m i = computes m i (rs2_value m i)
effect_by Sra m i = computes m i (rs2_value m i)
effect_by Or m i = computes m i (rs2_value m i)
effect_by And m i = computes m i (rs2_value m i)
effect_by Fence m i = passes m i
effect_by Ecall m i = Call
effect_by Ebreak m i = Fault breakpoint
effect_by Mul m i = computes m i (rs2_value m i)
effect_by Mulh m i = computes m i (rs2_value m i)
effect_by Mulhsu m i = computes m i (rs2_value m i)
effect_by Mulhu m i = computes m i (rs2_value m i)
effect_by Div m i = computes m i (rs2_value m i)
effect_by Divu m i = computes m i (rs2_value m i)
effect_by Rem m i = computes m i (rs2_value m i)
effect_by Remu m i = computes m i (rs2_value m i)
effect_by LrW m i = aligned m i (reserves m i)
effect_by ScW m i = aligned m i (stores_conditionally m i)
effect_by AmoswapW m i = aligned m i (swaps m i)
effect_by AmoaddW m i = aligned m i (swaps m i)
effect_by AmoxorW m i = aligned m i (swaps m i)
effect_by AmoandW m i = aligned m i (swaps m i)
effect_by AmoorW m i = aligned m i (swaps m i)
effect_by AmominW m i = aligned m i (swaps m i)
effect_by AmomaxW m i = aligned m i (swaps m i)
effect_by AmominuW m i = aligned m i (swaps m i)
effect_by AmomaxuW m i = aligned m i (swaps m i)

-- what an instruction does, or the word that has no row
abbrev pub effect_of_instruction : Machine → Option Fields → Effect
effect_of_instruction m None = Fault illegal
effect_of_instruction m (Some i) = effect_by i.op m i

-- what a fetched word does, or the fetch that is denied
abbrev pub effect_of_word : Machine → Option ℕ → Effect
effect_of_word m None = Fault access
effect_of_word m (Some word) = effect_of_instruction m (decoded word)

-- the effect of the instruction at pc
unfoldable pub effect_of : Machine → Effect
effect_of m = effect_of_word m (read_number Execute m.space m.pc 4)

-- the ranges that an instruction stored in
abbrev pub stored_by : Effect → List Range
stored_by (Next next stored) = stored
stored_by Call = []
stored_by (Fault kind) = []
