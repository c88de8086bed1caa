-- The table has 59 names.
use Rattle.std.proofs.Common.{◌<◌, arith}
use Rattle.rv_isa.specs.declared.op.Op.{Op}
use Rattle.rv_isa.specs.declared.op.Op.TheVariants.{Lui, Auipc, Jal, Jalr, Beq, Bne, Blt, Bge, Bltu, Bgeu, Lb, Lh, Lw, Lbu, Lhu, Sb, Sh, Sw, Addi, Slti, Sltiu, Xori, Ori, Andi, Slli, Srli, Srai, Add, Sub, Sll, Slt, Sltu, Xor, Srl, Sra, Or, And, Fence, Ecall, Ebreak, Mul, Mulh, Mulhsu, Mulhu, Div, Divu, Rem, Remu, LrW, ScW, AmoswapW, AmoaddW, AmoxorW, AmoandW, AmoorW, AmominW, AmomaxW, AmominuW, AmomaxuW}
use Rattle.rv_isa.specs.Places.{place_of}

pub place_fits : (op : Op) → place_of op < 59
place_fits Lui = omega arith
place_fits Auipc = omega arith
place_fits Jal = omega arith
place_fits Jalr = omega arith
place_fits Beq = omega arith
place_fits Bne = omega arith
place_fits Blt = omega arith
place_fits Bge = omega arith
place_fits Bltu = omega arith
place_fits Bgeu = omega arith
place_fits Lb = omega arith
place_fits Lh = omega arith
place_fits Lw = omega arith
place_fits Lbu = omega arith
place_fits Lhu = omega arith
place_fits Sb = omega arith
place_fits Sh = omega arith
place_fits Sw = omega arith
place_fits Addi = omega arith
place_fits Slti = omega arith
place_fits Sltiu = omega arith
place_fits Xori = omega arith
place_fits Ori = omega arith
place_fits Andi = omega arith
place_fits Slli = omega arith
place_fits Srli = omega arith
place_fits Srai = omega arith
place_fits Add = omega arith
place_fits Sub = omega arith
place_fits Sll = omega arith
place_fits Slt = omega arith
place_fits Sltu = omega arith
place_fits Xor = omega arith
place_fits Srl = omega arith
place_fits Sra = omega arith
place_fits Or = omega arith
place_fits And = omega arith
place_fits Fence = omega arith
place_fits Ecall = omega arith
place_fits Ebreak = omega arith
place_fits Mul = omega arith
place_fits Mulh = omega arith
place_fits Mulhsu = omega arith
place_fits Mulhu = omega arith
place_fits Div = omega arith
place_fits Divu = omega arith
place_fits Rem = omega arith
place_fits Remu = omega arith
place_fits LrW = omega arith
place_fits ScW = omega arith
place_fits AmoswapW = omega arith
place_fits AmoaddW = omega arith
place_fits AmoxorW = omega arith
place_fits AmoandW = omega arith
place_fits AmoorW = omega arith
place_fits AmominW = omega arith
place_fits AmomaxW = omega arith
place_fits AmominuW = omega arith
place_fits AmomaxuW = omega arith
