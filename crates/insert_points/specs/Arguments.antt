-- What the arguments of a call mean. IARG_INST_PTR, IARG_MEMORYREAD_EA, IARG_MEMORYWRITE_EA, IARG_BRANCH_TAKEN,
-- IARG_BRANCH_TARGET_ADDR, IARG_REG_VALUE and IARG_UINT32 of the Pin user guide; MemSize is this project's own.
use Rattle.std.specs.Prelude.{ℕ, ◌+◌, Bool, true, List, slice_index, if◌then◌else◌}
use Rattle.rv_isa.specs.Kinds.{is_taken, mem_size}
use Rattle.rv_isa.specs.declared.op.Op.{Op}
use Rattle.rv_isa.specs.declared.op.Op.TheVariants.{Jal, Jalr, Beq, Bne, Blt, Bge, Bltu, Bgeu, Lb, Lh, Lw, Lbu, Lhu, Sb, Sh, Sw, LrW, ScW, AmoswapW, AmoaddW, AmoxorW, AmoandW, AmoorW, AmominW, AmomaxW, AmominuW, AmomaxuW}
use Rattle.guest_model.specs.Areas.{wrap}
use Rattle.guest_model.specs.Effect.{even, immediate}
use Rattle.insert_points.specs.declared.call.Arg.{Arg}
use Rattle.insert_points.specs.declared.call.Arg.TheVariants.{InstPtr, ReadEa, WriteEa, MemSize, BranchTaken, Target, Reg, Const}
use Rattle.insert_points.specs.declared.operands.Operands.{Operands}

-- rs1 with the immediate, which is 0 in an atomic: where a load, a store or an atomic goes, and where jalr goes before the
-- lowest bit is cleared
abbrev pub address_of : Operands → ℕ
address_of o = wrap (o.a + immediate o.instr)

-- pc with the immediate: where a branch or jal goes
abbrev pub ahead_of : Operands → ℕ
ahead_of o = wrap (o.pc + immediate o.instr)

-- whether an instruction goes elsewhere, if it completes: a jump, or a branch whose condition holds before
abbrev pub jumps_by : Op → ℕ → ℕ → Bool
jumps_by Jal a b = true
jumps_by Jalr a b = true
jumps_by op a b = is_taken op a b

abbrev pub jumps : Operands → Bool
jumps o = jumps_by o.instr.op o.a o.b

abbrev pub read_address : Op → Operands → ℕ
read_address Lb o = address_of o
read_address Lh o = address_of o
read_address Lw o = address_of o
read_address Lbu o = address_of o
read_address Lhu o = address_of o
read_address LrW o = address_of o
read_address AmoswapW o = address_of o
read_address AmoaddW o = address_of o
read_address AmoxorW o = address_of o
read_address AmoandW o = address_of o
read_address AmoorW o = address_of o
read_address AmominW o = address_of o
read_address AmomaxW o = address_of o
read_address AmominuW o = address_of o
read_address AmomaxuW o = address_of o
read_address _ o = 0

abbrev pub write_address : Op → Operands → ℕ
write_address Sb o = address_of o
write_address Sh o = address_of o
write_address Sw o = address_of o
write_address ScW o = address_of o
write_address AmoswapW o = address_of o
write_address AmoaddW o = address_of o
write_address AmoxorW o = address_of o
write_address AmoandW o = address_of o
write_address AmoorW o = address_of o
write_address AmominW o = address_of o
write_address AmomaxW o = address_of o
write_address AmominuW o = address_of o
write_address AmomaxuW o = address_of o
write_address _ o = 0

abbrev pub target_of : Op → Operands → ℕ
target_of Jal o = ahead_of o
target_of Jalr o = even (address_of o)
target_of Beq o = ahead_of o
target_of Bne o = ahead_of o
target_of Blt o = ahead_of o
target_of Bge o = ahead_of o
target_of Bltu o = ahead_of o
target_of Bgeu o = ahead_of o
target_of _ o = 0

-- one row for each argument; the registers are those at the call's point, and a register past the last one is 0
abbrev pub value_of : Arg → Operands → List ℕ → ℕ
value_of InstPtr o registers = o.pc
value_of ReadEa o registers = read_address o.instr.op o
value_of WriteEa o registers = write_address o.instr.op o
value_of MemSize o registers = mem_size o.instr.op
value_of BranchTaken o registers = if jumps o then 1 else 0
value_of Target o registers = target_of o.instr.op o
value_of (Reg n) o registers = slice_index registers n
value_of (Const v) o registers = v
