-- What the instructions that compute give, from two values of 32 bits, and what the atomics store. The RISC-V unprivileged
-- manual, "Integer Computational Instructions", of the M extension "Multiplication Operations" and "Division Operations", and
-- of the A extension "Atomic Memory Operations".
use Rattle.std.specs.Prelude.{ℕ, ◌+◌, ◌-◌, ◌*◌, ◌/◌, ◌%◌, ◌^◌, ◌==◌, nat_lt, if◌then◌else◌, Bool, Option, Some, None, ℤ, pos, ◌-ℤ◌, ◌*ℤ◌, int_lt, int_div, int_rem, bit_and, bit_or, bit_xor}
use Rattle.std.specs.Int.{int_shr}
use Rattle.rv_isa.specs.Word.{signed_of, modulo}
use Rattle.rv_isa.specs.declared.op.Op.{Op}
use Rattle.rv_isa.specs.declared.op.Op.TheVariants.{Addi, Slti, Sltiu, Xori, Ori, Andi, Slli, Srli, Srai, Add, Sub, Sll, Slt, Sltu, Xor, Srl, Sra, Or, And, Mul, Mulh, Mulhsu, Mulhu, Div, Divu, Rem, Remu, AmoswapW, AmoaddW, AmoxorW, AmoandW, AmoorW, AmominW, AmomaxW, AmominuW, AmomaxuW}

-- 1 where it holds, else 0
abbrev pub set_if : Bool → ℕ
set_if holds = if holds then 1 else 0

-- the shift amount is the low 5 bits
abbrev pub amount : ℕ → ℕ
amount b = b % 2 ^ 5

-- the low and the upper 32 bits of a product
abbrev pub lower : ℕ → ℕ
lower product = product % 2 ^ 32

abbrev pub upper : ℤ → ℕ
upper product = modulo (int_shr product 32)

abbrev pub all_ones : ℕ
all_ones = 2 ^ 32 - 1

-- One row a name. b is the second register's value, or the immediate, sign extended, as 32 bits. The signed quotient
-- is rounded towards zero; the one that overflows, of -2^31 by -1, is 2^31 modulo 2^32, which is the dividend, and
-- its remainder is 0. A division by zero gives all ones, and its remainder is the dividend.
abbrev pub alu_of : Op → ℕ → ℕ → Option ℕ
alu_of Addi a b = Some ((a + b) % 2 ^ 32)
alu_of Slti a b = Some (set_if (int_lt (signed_of a) (signed_of b)))
alu_of Sltiu a b = Some (set_if (nat_lt a b))
alu_of Xori a b = Some (bit_xor a b)
alu_of Ori a b = Some (bit_or a b)
alu_of Andi a b = Some (bit_and a b)
alu_of Slli a b = Some (lower (a * 2 ^ amount b))
alu_of Srli a b = Some (a / 2 ^ amount b)
alu_of Srai a b = Some (modulo (int_shr (signed_of a) (amount b)))
alu_of Add a b = Some ((a + b) % 2 ^ 32)
alu_of Sub a b = Some (modulo (pos a -ℤ pos b))
alu_of Sll a b = Some (lower (a * 2 ^ amount b))
alu_of Slt a b = Some (set_if (int_lt (signed_of a) (signed_of b)))
alu_of Sltu a b = Some (set_if (nat_lt a b))
alu_of Xor a b = Some (bit_xor a b)
alu_of Srl a b = Some (a / 2 ^ amount b)
alu_of Sra a b = Some (modulo (int_shr (signed_of a) (amount b)))
alu_of Or a b = Some (bit_or a b)
alu_of And a b = Some (bit_and a b)
alu_of Mul a b = Some (lower (a * b))
alu_of Mulh a b = Some (upper (signed_of a *ℤ signed_of b))
alu_of Mulhsu a b = Some (upper (signed_of a *ℤ pos b))
alu_of Mulhu a b = Some (a * b / 2 ^ 32)
alu_of Div a b = Some (if b == 0 then all_ones else modulo (int_div (signed_of a) (signed_of b)))
alu_of Divu a b = Some (if b == 0 then all_ones else a / b)
alu_of Rem a b = Some (if b == 0 then a else modulo (int_rem (signed_of a) (signed_of b)))
alu_of Remu a b = Some (if b == 0 then a else a % b)
alu_of _ a b = None

-- What an atomic memory operation stores, from the word v that it read and the value b of rs2. One row a name; the others
-- are no such operations.
abbrev pub amo_of : Op → ℕ → ℕ → ℕ
amo_of AmoswapW v b = b
amo_of AmoaddW v b = (v + b) % 2 ^ 32
amo_of AmoxorW v b = bit_xor v b
amo_of AmoandW v b = bit_and v b
amo_of AmoorW v b = bit_or v b
amo_of AmominW v b = if int_lt (signed_of v) (signed_of b) then v else b
amo_of AmomaxW v b = if int_lt (signed_of b) (signed_of v) then v else b
amo_of AmominuW v b = if nat_lt v b then v else b
amo_of AmomaxuW v b = if nat_lt b v then v else b
amo_of _ v b = b
