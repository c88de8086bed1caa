-- What the code asks of a row: its form as the code names it, and the six fields that a word is made of.
use Rattle.std.specs.Prelude.{◌≡◌, ℕ, ◌*◌, ◌<◌, ◌^◌}
use Rattle.rv_isa.specs.Word.{bits}
use Rattle.rv_isa.specs.Table.{Row}
use Rattle.rv_isa.specs.declared.op.Form.{Form}
use Rattle.rv_isa.specs.declared.op.Form.TheVariants as forms

abbrev pub form_of : Row → Form
form_of (Row.R _ _ _) = forms.R
form_of (Row.I _ _) = forms.I
form_of (Row.Shift _ _ _) = forms.Shift
form_of (Row.S _ _) = forms.S
form_of (Row.B _ _) = forms.B
form_of (Row.U _) = forms.U
form_of (Row.J _) = forms.J
form_of (Row.Bare _ _) = forms.Bare
form_of (Row.Whole _) = forms.Bare
form_of (Row.Atomic _ _ _) = forms.Atomic
form_of (Row.Reserve _ _ _) = forms.Reserve

abbrev pub opcode_of : Row → ℕ
opcode_of (Row.R opcode _ _) = opcode
opcode_of (Row.I opcode _) = opcode
opcode_of (Row.Shift opcode _ _) = opcode
opcode_of (Row.S opcode _) = opcode
opcode_of (Row.B opcode _) = opcode
opcode_of (Row.U opcode) = opcode
opcode_of (Row.J opcode) = opcode
opcode_of (Row.Bare opcode _) = opcode
opcode_of (Row.Whole _) = 0
opcode_of (Row.Atomic opcode _ _) = opcode
opcode_of (Row.Reserve opcode _ _) = opcode

abbrev pub f3_of : Row → ℕ
f3_of (Row.R _ f3 _) = f3
f3_of (Row.I _ f3) = f3
f3_of (Row.Shift _ f3 _) = f3
f3_of (Row.S _ f3) = f3
f3_of (Row.B _ f3) = f3
f3_of (Row.U _) = 0
f3_of (Row.J _) = 0
f3_of (Row.Bare _ f3) = f3
f3_of (Row.Whole _) = 0
f3_of (Row.Atomic _ f3 _) = f3
f3_of (Row.Reserve _ f3 _) = f3

abbrev pub f7_of : Row → ℕ
f7_of (Row.R _ _ f7) = f7
f7_of (Row.I _ _) = 0
f7_of (Row.Shift _ _ f7) = f7
f7_of (Row.S _ _) = 0
f7_of (Row.B _ _) = 0
f7_of (Row.U _) = 0
f7_of (Row.J _) = 0
f7_of (Row.Bare _ _) = 0
f7_of (Row.Whole _) = 0
f7_of (Row.Atomic _ _ f5) = f5 * 4
f7_of (Row.Reserve _ _ f5) = f5 * 4

-- the six fields of a word
pub record HasFields (word opcode rd f3 rs1 rs2 f7 : ℕ) : Type 0 where
  pub fits : word < 2 ^ 32
  pub in_opcode : bits word 6 0 ≡ opcode
  pub in_rd : bits word 11 7 ≡ rd
  pub in_f3 : bits word 14 12 ≡ f3
  pub in_rs1 : bits word 19 15 ≡ rs1
  pub in_rs2 : bits word 24 20 ≡ rs2
  pub in_f7 : bits word 31 25 ≡ f7
