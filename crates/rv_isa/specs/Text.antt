-- The text of an instruction: its name, a space, and its operands.
use Rattle.std.specs.Prelude.{ℕ, List, ◌++◌, codes, ◌==◌, if◌then◌else◌, ℤ, false}
use Rattle.std.specs.Fmt.{decimal, signed_decimal, digits}
use Rattle.rv_isa.specs.Table.{Row, Fields, R, I, Shift, S, B, U, J, Bare, Whole, Atomic, Reserve, row_of}
use Rattle.rv_isa.specs.Word.{bits, unsigned_of}
use Rattle.rv_isa.specs.declared.op.Op.{Op}
use Rattle.rv_isa.specs.declared.op.Op.TheVariants.{Lui, Auipc, Jal, Jalr, Beq, Bne, Blt, Bge, Bltu, Bgeu, Lb, Lh, Lw, Lbu, Lhu, Sb, Sh, Sw, Addi, Slti, Sltiu, Xori, Ori, Andi, Slli, Srli, Srai, Add, Sub, Sll, Slt, Sltu, Xor, Srl, Sra, Or, And, Fence, Ecall, Ebreak, Mul, Mulh, Mulhsu, Mulhu, Div, Divu, Rem, Remu, LrW, ScW, AmoswapW, AmoaddW, AmoxorW, AmoandW, AmoorW, AmominW, AmomaxW, AmominuW, AmomaxuW}

-- the name in lower case
abbrev pub name_of : Op → List ℕ
name_of Lui = codes "lui"
name_of Auipc = codes "auipc"
name_of Jal = codes "jal"
name_of Jalr = codes "jalr"
name_of Beq = codes "beq"
name_of Bne = codes "bne"
name_of Blt = codes "blt"
name_of Bge = codes "bge"
name_of Bltu = codes "bltu"
name_of Bgeu = codes "bgeu"
name_of Lb = codes "lb"
name_of Lh = codes "lh"
name_of Lw = codes "lw"
name_of Lbu = codes "lbu"
name_of Lhu = codes "lhu"
name_of Sb = codes "sb"
name_of Sh = codes "sh"
name_of Sw = codes "sw"
name_of Addi = codes "addi"
name_of Slti = codes "slti"
name_of Sltiu = codes "sltiu"
name_of Xori = codes "xori"
name_of Ori = codes "ori"
name_of Andi = codes "andi"
name_of Slli = codes "slli"
name_of Srli = codes "srli"
name_of Srai = codes "srai"
name_of Add = codes "add"
name_of Sub = codes "sub"
name_of Sll = codes "sll"
name_of Slt = codes "slt"
name_of Sltu = codes "sltu"
name_of Xor = codes "xor"
name_of Srl = codes "srl"
name_of Sra = codes "sra"
name_of Or = codes "or"
name_of And = codes "and"
name_of Fence = codes "fence"
name_of Ecall = codes "ecall"
name_of Ebreak = codes "ebreak"
name_of Mul = codes "mul"
name_of Mulh = codes "mulh"
name_of Mulhsu = codes "mulhsu"
name_of Mulhu = codes "mulhu"
name_of Div = codes "div"
name_of Divu = codes "divu"
name_of Rem = codes "rem"
name_of Remu = codes "remu"
name_of LrW = codes "lr.w"
name_of ScW = codes "sc.w"
name_of AmoswapW = codes "amoswap.w"
name_of AmoaddW = codes "amoadd.w"
name_of AmoxorW = codes "amoxor.w"
name_of AmoandW = codes "amoand.w"
name_of AmoorW = codes "amoor.w"
name_of AmominW = codes "amomin.w"
name_of AmomaxW = codes "amomax.w"
name_of AmominuW = codes "amominu.w"
name_of AmomaxuW = codes "amomaxu.w"

abbrev pub register : ℕ → List ℕ
register n = codes "x" ++ decimal n

-- ` a,b,c`
abbrev pub listed : List ℕ → List ℕ → List ℕ → List ℕ
listed a b c = codes " " ++ (a ++ (codes "," ++ (b ++ (codes "," ++ c))))

-- ` r,imm(base)`
abbrev pub addressed : ℕ → ℤ → ℕ → List ℕ
addressed r imm base = codes " " ++ (register r ++ (codes "," ++ (signed_decimal imm ++ (codes "(" ++ (register base ++ codes ")")))))

-- `(base)`
abbrev pub pointed : ℕ → List ℕ
pointed base = codes "(" ++ (register base ++ codes ")")

-- what stands after the name: the computing I forms list their fields, and the loads and jalr have an address
abbrev pub arguments : Row → Fields → List ℕ
arguments (R _ _ _) i = listed (register i.rd) (register i.rs1) (register i.rs2)
arguments (I opcode _) i = if opcode == 0b0010011 then listed (register i.rd) (register i.rs1) (signed_decimal i.imm) else addressed i.rd i.imm i.rs1
arguments (Shift _ _ _) i = listed (register i.rd) (register i.rs1) (signed_decimal i.imm)
arguments (S _ _) i = addressed i.rs2 i.imm i.rs1
arguments (B _ _) i = listed (register i.rs1) (register i.rs2) (signed_decimal i.imm)
arguments (U _) i = codes " " ++ (register i.rd ++ (codes ",0x" ++ digits 16 false (bits (unsigned_of i.imm) 31 12)))
arguments (J _) i = codes " " ++ (register i.rd ++ (codes "," ++ signed_decimal i.imm))
arguments (Bare _ _) i = codes ""
arguments (Whole _) i = codes ""
arguments (Atomic _ _ _) i = listed (register i.rd) (register i.rs2) (pointed i.rs1)
arguments (Reserve _ _ _) i = codes " " ++ (register i.rd ++ (codes "," ++ pointed i.rs1))

abbrev pub text_of : Fields → List ℕ
text_of i = name_of i.op ++ arguments (row_of i.op) i
