-- What the fields of a kept word mean: an instruction, or none where a number that no register has stands for its rd.
use Rattle.std.specs.Prelude.{ℕ, ◌==◌, ℤ, Option, Some, None, if◌then◌else◌}
use Rattle.rv_isa.specs.Table.{Fields}
use Rattle.rv_isa.specs.declared.op.Op.{Op}
use Rattle.rv_isa.specs.declared.decoded_word.TheConstants.{NO_INSTRUCTION}

abbrev pub kept : Op → ℕ → ℕ → ℕ → ℤ → Option Fields
kept op rd rs1 rs2 imm = if rd == NO_INSTRUCTION then None else Some (record { op = op; rd = rd; rs1 = rs1; rs2 = rs2; imm = imm })
