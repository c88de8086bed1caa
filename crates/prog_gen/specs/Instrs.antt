-- Instructions by their form: those of registers, with an immediate, stores, branches, upper immediates, jumps.
use Rattle.std.specs.Prelude.{ℕ, ℤ, pos}
use Rattle.rv_isa.specs.Table.{Fields}
use Rattle.rv_isa.specs.declared.op.Op.{Op}
use Rattle.rv_isa.specs.declared.op.Op.TheVariants.{Lui, Jal, Ecall}

-- op rd, rs1, rs2
abbrev pub registers : Op → ℕ → ℕ → ℕ → Fields
registers op rd rs1 rs2 = record { op = op; rd = rd; rs1 = rs1; rs2 = rs2; imm = pos 0 }

-- op rd, rs1, imm
abbrev pub immediate : Op → ℕ → ℕ → ℤ → Fields
immediate op rd rs1 imm = record { op = op; rd = rd; rs1 = rs1; rs2 = 0; imm = imm }

-- op rs2, imm(rs1)
abbrev pub store : Op → ℕ → ℤ → ℕ → Fields
store op rs2 imm rs1 = record { op = op; rd = 0; rs1 = rs1; rs2 = rs2; imm = imm }

-- a branch on two registers, this far on
abbrev pub branch : Op → ℕ → ℕ → ℤ → Fields
branch op rs1 rs2 imm = record { op = op; rd = 0; rs1 = rs1; rs2 = rs2; imm = imm }

-- lui rd
abbrev pub upper : ℕ → ℤ → Fields
upper rd imm = record { op = Lui; rd = rd; rs1 = 0; rs2 = 0; imm = imm }

-- jal rd, this far on
abbrev pub jump : ℕ → ℤ → Fields
jump rd imm = record { op = Jal; rd = rd; rs1 = 0; rs2 = 0; imm = imm }

abbrev pub ecall : Fields
ecall = record { op = Ecall; rd = 0; rs1 = 0; rs2 = 0; imm = pos 0 }
