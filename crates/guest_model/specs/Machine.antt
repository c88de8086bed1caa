-- A guest's machine: one hart of RV32IMA with its memory (RISC-V unprivileged manual, "Programmers' Model for Base Integer ISA").
use Rattle.std.specs.Prelude.{ℕ, ◌+◌, ◌==◌, Bool, false, true, List, Option, None, Some, slice_index, slice_set, if◌then◌else◌, option_and_then, refl}
use Rattle.std.specs.Coded.{Coded, coded_ℕ, coded_bool, coded_list, coded_option, coded×, code_by}
use Rattle.rv_isa.specs.Table.{Fields}
use Rattle.rv_isa.specs.Decoded.{decoded}
use Rattle.guest_model.specs.Areas.{wrap}
use Rattle.guest_model.specs.Descriptors.{Descriptors, all_closed, descriptors_code}
use Rattle.guest_model.specs.Space.{Space, read_number, space_code}
use Rattle.guest_model.specs.declared.Access.TheVariants.{Execute}

pub record Machine : Type 0 where
  -- the address of the next instruction
  pub pc : ℕ
  -- x0 to x31, each of 32 bits; x0 is 0
  pub registers : List ℕ
  pub space : Space
  -- the last instruction ended a block, or none has run
  pub fresh : Bool
  -- the address that lr.w reserved, where no sc.w and no call came since ("Load-Reserved/Store-Conditional Instructions")
  pub reservation : Option ℕ
  pub descriptors : Descriptors

-- the machine at its first instruction: no file is open, and nothing is reserved
abbrev pub at_start : ℕ → List ℕ → Space → Machine
at_start pc registers space = record { pc = pc; registers = registers; space = space; fresh = true; reservation = None; descriptors = all_closed }

-- the value of a register
abbrev pub register : Machine → ℕ → ℕ
register m n = slice_index m.registers n

-- whether this address is the one that is reserved
abbrev pub is_reserved : Option ℕ → ℕ → Bool
is_reserved None a = false
is_reserved (Some reserved) a = reserved == a

-- the registers with a value in rd; a write to x0 is dropped
abbrev pub put : ℕ → ℕ → List ℕ → List ℕ
put rd value registers = if rd == 0 then registers else slice_set registers rd value

-- the address of the instruction behind the one at pc
abbrev pub following : Machine → ℕ
following m = wrap (m.pc + 4)

-- the instruction at pc: the four bytes there are in executable areas, and their word has a row in the table
abbrev pub instruction_at : Machine → Option Fields
instruction_at m = option_and_then decoded (read_number Execute m.space m.pc 4)

-- how a machine is stored as plain data
abbrev pub machine_code : Coded Machine
machine_code = code_by (ℕ × (List ℕ × (Space × (Bool × (Option ℕ × Descriptors)))))
    (coded× coded_ℕ (coded× (coded_list coded_ℕ) (coded× space_code (coded× coded_bool (coded× (coded_option coded_ℕ) descriptors_code)))))
    (λ m. (m.pc, (m.registers, (m.space, (m.fresh, (m.reservation, m.descriptors))))))
    (λ p. record { pc = p.0; registers = p.1.0; space = p.1.1.0; fresh = p.1.1.1.0; reservation = p.1.1.1.1.0; descriptors = p.1.1.1.1.1 }) (λ _. refl)
