-- The table as a function: the instruction that a word means.
use Rattle.std.specs.Prelude.{ℕ, ◌^◌, Bool, ◌==◌, nat_lt, ◌&&◌, if◌then◌else◌, List, [], ◌∷◌, Option, Some, None}
use Rattle.std.specs.Option.{option_map}
use Rattle.rv_isa.specs.Word.{bits}
use Rattle.rv_isa.specs.Table.{Row, Fields, R, I, Shift, S, B, U, J, Bare, Whole, Atomic, Reserve, row_of, rd_of, rs1_of, rs2_of, imm_of}
use Rattle.rv_isa.specs.declared.op.Op.{Op}
use Rattle.rv_isa.specs.declared.op.Op.TheVariants.{Lui, Auipc, Jal, Jalr, Beq, Bne, Blt, Bge, Bltu, Bgeu, Lb, Lh, Lw, Lbu, Lhu, Sb, Sh, Sw, Addi, Slti, Sltiu, Xori, Ori, Andi, Slli, Srli, Srai, Add, Sub, Sll, Slt, Sltu, Xor, Srl, Sra, Or, And, Fence, Ecall, Ebreak, Mul, Mulh, Mulhsu, Mulhu, Div, Divu, Rem, Remu, LrW, ScW, AmoswapW, AmoaddW, AmoxorW, AmoandW, AmoorW, AmominW, AmomaxW, AmominuW, AmomaxuW}

-- the names in the table's order
abbrev pub ops : List Op
ops = Lui ∷ Auipc ∷ Jal ∷ Jalr ∷ Beq ∷ Bne ∷ Blt ∷ Bge ∷ Bltu ∷ Bgeu ∷ Lb ∷ Lh ∷ Lw ∷ Lbu ∷ Lhu ∷ Sb ∷ Sh ∷ Sw ∷ Addi ∷ Slti ∷ Sltiu ∷ Xori ∷ Ori ∷ Andi ∷ Slli ∷ Srli ∷ Srai ∷ Add ∷ Sub ∷ Sll ∷ Slt ∷ Sltu ∷ Xor ∷ Srl ∷ Sra ∷ Or ∷ And ∷ Fence ∷ Ecall ∷ Ebreak ∷ Mul ∷ Mulh ∷ Mulhsu ∷ Mulhu ∷ Div ∷ Divu ∷ Rem ∷ Remu ∷ LrW ∷ ScW ∷ AmoswapW ∷ AmoaddW ∷ AmoxorW ∷ AmoandW ∷ AmoorW ∷ AmominW ∷ AmomaxW ∷ AmominuW ∷ AmomaxuW ∷ []

-- what a row fixes stands in the word, as a test
abbrev pub is_fixed : Row → ℕ → Bool
is_fixed (R opcode f3 f7) word = (bits word 6 0 == opcode) && ((bits word 14 12 == f3) && (bits word 31 25 == f7))
is_fixed (I opcode f3) word = (bits word 6 0 == opcode) && (bits word 14 12 == f3)
is_fixed (Shift opcode f3 f7) word = (bits word 6 0 == opcode) && ((bits word 14 12 == f3) && (bits word 31 25 == f7))
is_fixed (S opcode f3) word = (bits word 6 0 == opcode) && (bits word 14 12 == f3)
is_fixed (B opcode f3) word = (bits word 6 0 == opcode) && (bits word 14 12 == f3)
is_fixed (U opcode) word = bits word 6 0 == opcode
is_fixed (J opcode) word = bits word 6 0 == opcode
is_fixed (Bare opcode f3) word = (bits word 6 0 == opcode) && (bits word 14 12 == f3)
is_fixed (Whole fixed) word = word == fixed
is_fixed (Atomic opcode f3 f5) word = (bits word 6 0 == opcode) && ((bits word 14 12 == f3) && (bits word 31 27 == f5))
is_fixed (Reserve opcode f3 f5) word = (bits word 6 0 == opcode) && ((bits word 14 12 == f3) && ((bits word 31 27 == f5) && (bits word 24 20 == 0)))

-- the first name whose row the word has
abbrev pub first_op : ℕ → List Op → Option Op
first_op word [] = None
first_op word (op ∷ rest) = if is_fixed (row_of op) word then Some op else first_op word rest

-- the instruction of this name that the word spells
abbrev pub instr_in : Op → ℕ → Fields
instr_in op word = record { op = op; rd = rd_of (row_of op) word; rs1 = rs1_of (row_of op) word; rs2 = rs2_of (row_of op) word; imm = imm_of (row_of op) word }

-- None where no row has the word
unfoldable pub decoded : ℕ → Option Fields
decoded word = if nat_lt word (2 ^ 32) then option_map (λ op. instr_in op word) (first_op word ops) else None
