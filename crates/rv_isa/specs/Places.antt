-- The place of an instruction's name in the table, counted from 0: how many names stand before it.
use Rattle.std.specs.Prelude.{ℕ}
use Rattle.rv_isa.specs.declared.op.Op.{Op}
use Rattle.rv_isa.specs.declared.op.Op.TheVariants.{Lui, Auipc, Jal, Jalr, Beq, Bne, Blt, Bge, Bltu, Bgeu, Lb, Lh, Lw, Lbu, Lhu, Sb, Sh, Sw, Addi, Slti, Sltiu, Xori, Ori, Andi, Slli, Srli, Srai, Add, Sub, Sll, Slt, Sltu, Xor, Srl, Sra, Or, And, Fence, Ecall, Ebreak, Mul, Mulh, Mulhsu, Mulhu, Div, Divu, Rem, Remu, LrW, ScW, AmoswapW, AmoaddW, AmoxorW, AmoandW, AmoorW, AmominW, AmomaxW, AmominuW, AmomaxuW}

abbrev pub place_of : Op → ℕ
place_of Lui = 0
place_of Auipc = 1
place_of Jal = 2
place_of Jalr = 3
place_of Beq = 4
place_of Bne = 5
place_of Blt = 6
place_of Bge = 7
place_of Bltu = 8
place_of Bgeu = 9
place_of Lb = 10
place_of Lh = 11
place_of Lw = 12
place_of Lbu = 13
place_of Lhu = 14
place_of Sb = 15
place_of Sh = 16
place_of Sw = 17
place_of Addi = 18
place_of Slti = 19
place_of Sltiu = 20
place_of Xori = 21
place_of Ori = 22
place_of Andi = 23
place_of Slli = 24
place_of Srli = 25
place_of Srai = 26
place_of Add = 27
place_of Sub = 28
place_of Sll = 29
place_of Slt = 30
place_of Sltu = 31
place_of Xor = 32
place_of Srl = 33
place_of Sra = 34
place_of Or = 35
place_of And = 36
place_of Fence = 37
place_of Ecall = 38
place_of Ebreak = 39
place_of Mul = 40
place_of Mulh = 41
place_of Mulhsu = 42
place_of Mulhu = 43
place_of Div = 44
place_of Divu = 45
place_of Rem = 46
place_of Remu = 47
place_of LrW = 48
place_of ScW = 49
place_of AmoswapW = 50
place_of AmoaddW = 51
place_of AmoxorW = 52
place_of AmoandW = 53
place_of AmoorW = 54
place_of AmominW = 55
place_of AmomaxW = 56
place_of AmominuW = 57
place_of AmomaxuW = 58
