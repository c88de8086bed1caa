use Rattle.rv_isa.specs.Table.{row_of}
use Rattle.rv_isa.proofs.Unique.{in_form}
use Rattle.rv_isa.proofs.laws.in_form.Goals as goal

pub returns : goal.returns
returns c = λ word i h. in_form (row_of i.op) word i h.rd h.rs1 h.rs2 h.imm
