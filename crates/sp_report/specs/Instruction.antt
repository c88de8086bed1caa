-- The instructions that list their fields.
use Rattle.std.specs.Prelude.{◌==◌, Bool, false}
use Rattle.rv_isa.specs.Table.{Row, I, row_of}
use Rattle.rv_isa.specs.declared.op.Op.{Op}

-- of the instructions with an immediate of 12 bits those that compute
abbrev pub lists_row : Row → Bool
lists_row (I opcode _) = opcode == 0b0010011
lists_row _ = false

abbrev pub lists_fields : Op → Bool
lists_fields op = lists_row (row_of op)
