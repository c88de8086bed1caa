-- The instructions of RV32IMA: which words have which name, and where a word keeps its fields.
-- The RISC-V unprivileged manual: "Base Instruction Formats", "Immediate Encoding Variants", and the tables
-- "RV32I Base Instruction Set", "RV32M Standard Extension" and "RV32A Standard Extension" of the instruction set listings.
use Rattle.std.specs.Prelude.{◌≡◌, ℕ, ◌+◌, ◌-◌, ◌*◌, ◌%◌, ◌^◌, ◌<◌, ℤ, pos, ◌≤ℤ◌, ◌<ℤ◌, neg_ℤ}
use Rattle.rv_isa.specs.Word.{bits, signed, unsigned_of}
use Rattle.rv_isa.specs.declared.op.Op.{Op}
use Rattle.rv_isa.specs.declared.op.Op.TheVariants.{Lui, Auipc, Jal, Jalr, Beq, Bne, Blt, Bge, Bltu, Bgeu, Lb, Lh, Lw, Lbu, Lhu, Sb, Sh, Sw, Addi, Slti, Sltiu, Xori, Ori, Andi, Slli, Srli, Srai, Add, Sub, Sll, Slt, Sltu, Xor, Srl, Sra, Or, And, Fence, Ecall, Ebreak, Mul, Mulh, Mulhsu, Mulhu, Div, Divu, Rem, Remu, LrW, ScW, AmoswapW, AmoaddW, AmoxorW, AmoandW, AmoorW, AmominW, AmomaxW, AmominuW, AmomaxuW}

-- An instruction: its name, the numbers of its registers, and its immediate. A field that its form lacks is 0.
pub record Fields : Type 0 where
  pub op : Op
  pub rd : ℕ
  pub rs1 : ℕ
  pub rs2 : ℕ
  pub imm : ℤ

-- A row of the table: the instruction's form, and what it fixes, which is the opcode, f3 and f7, or the whole word.
-- `Shift` is the I form of the shifts, which fixes f7 too; `Bare` is fence's, whose other fields are ignored. `Atomic` is the
-- R form of the atomics, which fixes the upper five bits of f7 and ignores the two below (aq and rl); `Reserve` is the same
-- with an rs2 field of 0.
pub data Row : Type 0 where
  R : (opcode f3 f7 : ℕ) → Row
  I : (opcode f3 : ℕ) → Row
  Shift : (opcode f3 f7 : ℕ) → Row
  S : (opcode f3 : ℕ) → Row
  B : (opcode f3 : ℕ) → Row
  U : (opcode : ℕ) → Row
  J : (opcode : ℕ) → Row
  Bare : (opcode f3 : ℕ) → Row
  Whole : (word : ℕ) → Row
  Atomic : (opcode f3 f5 : ℕ) → Row
  Reserve : (opcode f3 f5 : ℕ) → Row

-- the table
abbrev pub row_of : Op → Row
row_of Lui = U 0b0110111
row_of Auipc = U 0b0010111
row_of Jal = J 0b1101111
row_of Jalr = I 0b1100111 0b000
row_of Beq = B 0b1100011 0b000
row_of Bne = B 0b1100011 0b001
row_of Blt = B 0b1100011 0b100
row_of Bge = B 0b1100011 0b101
row_of Bltu = B 0b1100011 0b110
row_of Bgeu = B 0b1100011 0b111
row_of Lb = I 0b0000011 0b000
row_of Lh = I 0b0000011 0b001
row_of Lw = I 0b0000011 0b010
row_of Lbu = I 0b0000011 0b100
row_of Lhu = I 0b0000011 0b101
row_of Sb = S 0b0100011 0b000
row_of Sh = S 0b0100011 0b001
row_of Sw = S 0b0100011 0b010
row_of Addi = I 0b0010011 0b000
row_of Slti = I 0b0010011 0b010
row_of Sltiu = I 0b0010011 0b011
row_of Xori = I 0b0010011 0b100
row_of Ori = I 0b0010011 0b110
row_of Andi = I 0b0010011 0b111
row_of Slli = Shift 0b0010011 0b001 0b0000000
row_of Srli = Shift 0b0010011 0b101 0b0000000
row_of Srai = Shift 0b0010011 0b101 0b0100000
row_of Add = R 0b0110011 0b000 0b0000000
row_of Sub = R 0b0110011 0b000 0b0100000
row_of Sll = R 0b0110011 0b001 0b0000000
row_of Slt = R 0b0110011 0b010 0b0000000
row_of Sltu = R 0b0110011 0b011 0b0000000
row_of Xor = R 0b0110011 0b100 0b0000000
row_of Srl = R 0b0110011 0b101 0b0000000
row_of Sra = R 0b0110011 0b101 0b0100000
row_of Or = R 0b0110011 0b110 0b0000000
row_of And = R 0b0110011 0b111 0b0000000
row_of Fence = Bare 0b0001111 0b000
row_of Ecall = Whole 0x00000073
row_of Ebreak = Whole 0x00100073
row_of Mul = R 0b0110011 0b000 0b0000001
row_of Mulh = R 0b0110011 0b001 0b0000001
row_of Mulhsu = R 0b0110011 0b010 0b0000001
row_of Mulhu = R 0b0110011 0b011 0b0000001
row_of Div = R 0b0110011 0b100 0b0000001
row_of Divu = R 0b0110011 0b101 0b0000001
row_of Rem = R 0b0110011 0b110 0b0000001
row_of Remu = R 0b0110011 0b111 0b0000001
row_of LrW = Reserve 0b0101111 0b010 0b00010
row_of ScW = Atomic 0b0101111 0b010 0b00011
row_of AmoswapW = Atomic 0b0101111 0b010 0b00001
row_of AmoaddW = Atomic 0b0101111 0b010 0b00000
row_of AmoxorW = Atomic 0b0101111 0b010 0b00100
row_of AmoandW = Atomic 0b0101111 0b010 0b01100
row_of AmoorW = Atomic 0b0101111 0b010 0b01000
row_of AmominW = Atomic 0b0101111 0b010 0b10000
row_of AmomaxW = Atomic 0b0101111 0b010 0b10100
row_of AmominuW = Atomic 0b0101111 0b010 0b11000
row_of AmomaxuW = Atomic 0b0101111 0b010 0b11100

-- what a row fixes stands in the word
abbrev pub IsFixed : Row → ℕ → Type 0
IsFixed (R opcode f3 f7) word = (bits word 6 0 ≡ opcode) × (bits word 14 12 ≡ f3) × (bits word 31 25 ≡ f7)
IsFixed (I opcode f3) word = (bits word 6 0 ≡ opcode) × (bits word 14 12 ≡ f3)
IsFixed (Shift opcode f3 f7) word = (bits word 6 0 ≡ opcode) × (bits word 14 12 ≡ f3) × (bits word 31 25 ≡ f7)
IsFixed (S opcode f3) word = (bits word 6 0 ≡ opcode) × (bits word 14 12 ≡ f3)
IsFixed (B opcode f3) word = (bits word 6 0 ≡ opcode) × (bits word 14 12 ≡ f3)
IsFixed (U opcode) word = bits word 6 0 ≡ opcode
IsFixed (J opcode) word = bits word 6 0 ≡ opcode
IsFixed (Bare opcode f3) word = (bits word 6 0 ≡ opcode) × (bits word 14 12 ≡ f3)
IsFixed (Whole fixed) word = word ≡ fixed
IsFixed (Atomic opcode f3 f5) word = (bits word 6 0 ≡ opcode) × (bits word 14 12 ≡ f3) × (bits word 31 27 ≡ f5)
IsFixed (Reserve opcode f3 f5) word = (bits word 6 0 ≡ opcode) × (bits word 14 12 ≡ f3) × (bits word 31 27 ≡ f5) × (bits word 24 20 ≡ 0)

-- the register that the word's bits 11 to 7 name, in the forms that have one
abbrev pub rd_of : Row → ℕ → ℕ
rd_of (S _ _) word = 0
rd_of (B _ _) word = 0
rd_of (Bare _ _) word = 0
rd_of (Whole _) word = 0
rd_of _ word = bits word 11 7

-- bits 19 to 15
abbrev pub rs1_of : Row → ℕ → ℕ
rs1_of (U _) word = 0
rs1_of (J _) word = 0
rs1_of (Bare _ _) word = 0
rs1_of (Whole _) word = 0
rs1_of _ word = bits word 19 15

-- bits 24 to 20
abbrev pub rs2_of : Row → ℕ → ℕ
rs2_of (R _ _ _) word = bits word 24 20
rs2_of (S _ _) word = bits word 24 20
rs2_of (B _ _) word = bits word 24 20
rs2_of (Atomic _ _ _) word = bits word 24 20
rs2_of _ word = 0

-- The immediates of the forms: their pieces in the word, each at its place, with bit 31 of the word as the sign.
abbrev pub i_immediate : ℕ → ℤ
i_immediate word = signed 12 (bits word 31 20)

abbrev pub s_immediate : ℕ → ℤ
s_immediate word = signed 12 (bits word 31 25 * 2 ^ 5 + bits word 11 7)

abbrev pub b_immediate : ℕ → ℤ
b_immediate word = signed 13 (bits word 31 31 * 2 ^ 12 + bits word 7 7 * 2 ^ 11 + bits word 30 25 * 2 ^ 5 + bits word 11 8 * 2 ^ 1)

abbrev pub u_immediate : ℕ → ℤ
u_immediate word = signed 32 (bits word 31 12 * 2 ^ 12)

abbrev pub j_immediate : ℕ → ℤ
j_immediate word = signed 21 (bits word 31 31 * 2 ^ 20 + bits word 19 12 * 2 ^ 12 + bits word 20 20 * 2 ^ 11 + bits word 30 21 * 2 ^ 1)

-- the immediate in each form; a shift's is its amount, bits 24 to 20
abbrev pub imm_of : Row → ℕ → ℤ
imm_of (I _ _) word = i_immediate word
imm_of (Shift _ _ _) word = pos (bits word 24 20)
imm_of (S _ _) word = s_immediate word
imm_of (B _ _) word = b_immediate word
imm_of (U _) word = u_immediate word
imm_of (J _) word = j_immediate word
imm_of _ word = pos 0

-- The decoding relation: the word is one of the instruction's.
pub record Decodes (word : ℕ) (i : Fields) : Type 0 where
  pub is_word : word < 2 ^ 32
  pub fixed : IsFixed (row_of i.op) word
  pub rd : i.rd ≡ rd_of (row_of i.op) word
  pub rs1 : i.rs1 ≡ rs1_of (row_of i.op) word
  pub rs2 : i.rs2 ≡ rs2_of (row_of i.op) word
  pub imm : i.imm ≡ imm_of (row_of i.op) word

-- z is a number of `width` bits in two's complement
abbrev pub HasWidth : ℕ → ℤ → Type 0
HasWidth width z = (neg_ℤ (pos (2 ^ (width - 1))) ≤ℤ z) × (z <ℤ pos (2 ^ (width - 1)))

-- n divides z, which is a number of 32 bits
abbrev pub IsMultipleOf : ℤ → ℕ → Type 0
IsMultipleOf z n = unsigned_of z % n ≡ 0

-- the fields that a form has are in their range, and the others are 0
abbrev pub HasForm : Row → Fields → Type 0
HasForm (R _ _ _) i = (i.rd < 32) × (i.rs1 < 32) × (i.rs2 < 32) × (i.imm ≡ pos 0)
HasForm (I _ _) i = (i.rd < 32) × (i.rs1 < 32) × (i.rs2 ≡ 0) × HasWidth 12 i.imm
HasForm (Shift _ _ _) i = (i.rd < 32) × (i.rs1 < 32) × (i.rs2 ≡ 0) × (pos 0 ≤ℤ i.imm) × (i.imm <ℤ pos 32)
HasForm (S _ _) i = (i.rd ≡ 0) × (i.rs1 < 32) × (i.rs2 < 32) × HasWidth 12 i.imm
HasForm (B _ _) i = (i.rd ≡ 0) × (i.rs1 < 32) × (i.rs2 < 32) × HasWidth 13 i.imm × IsMultipleOf i.imm 2
HasForm (U _) i = (i.rd < 32) × (i.rs1 ≡ 0) × (i.rs2 ≡ 0) × HasWidth 32 i.imm × IsMultipleOf i.imm 4096
HasForm (J _) i = (i.rd < 32) × (i.rs1 ≡ 0) × (i.rs2 ≡ 0) × HasWidth 21 i.imm × IsMultipleOf i.imm 2
HasForm (Bare _ _) i = (i.rd ≡ 0) × (i.rs1 ≡ 0) × (i.rs2 ≡ 0) × (i.imm ≡ pos 0)
HasForm (Whole _) i = (i.rd ≡ 0) × (i.rs1 ≡ 0) × (i.rs2 ≡ 0) × (i.imm ≡ pos 0)
HasForm (Atomic _ _ _) i = (i.rd < 32) × (i.rs1 < 32) × (i.rs2 < 32) × (i.imm ≡ pos 0)
HasForm (Reserve _ _ _) i = (i.rd < 32) × (i.rs1 < 32) × (i.rs2 ≡ 0) × (i.imm ≡ pos 0)

-- the invariant of an instruction
abbrev pub IsInstr : Fields → Type 0
IsInstr i = HasForm (row_of i.op) i

-- The bits that an atomic's row ignores are 0. No word of fence counts, whose ignored fields have no value of their own.
abbrev pub HasPlainBits : Row → ℕ → Type 0
HasPlainBits (Bare _ _) word = ⊥
HasPlainBits (Atomic _ _ _) word = bits word 26 25 ≡ 0
HasPlainBits (Reserve _ _ _) word = bits word 26 25 ≡ 0
HasPlainBits _ word = Unit {0}
