-- Branches, loads, stores, block ends, and the kinds of jumps.
use Rattle.std.specs.Prelude.{ℕ, ◌==◌, nat_lt, if◌then◌else◌, Bool, true, false, not, ◌&&◌, ◌||◌, int_lt}
use Rattle.rv_isa.specs.Word.{signed, signed_of, modulo}
use Rattle.rv_isa.specs.declared.op.Op.{Op}
use Rattle.rv_isa.specs.declared.op.Op.TheVariants.{Jal, Jalr, Beq, Bne, Blt, Bge, Bltu, Bgeu, Lb, Lh, Lw, Lbu, Lhu, Sb, Sh, Sw, Ecall, Ebreak, LrW, ScW, AmoswapW, AmoaddW, AmoxorW, AmoandW, AmoorW, AmominW, AmomaxW, AmominuW, AmomaxuW}
use Rattle.rv_isa.specs.declared.kinds.Link.{Link}
use Rattle.rv_isa.specs.declared.kinds.Link.TheVariants as links

-- The branches that are taken at the values a of rs1 and b of rs2. The RISC-V unprivileged manual, "Conditional Branches".
abbrev pub is_taken : Op → ℕ → ℕ → Bool
is_taken Beq a b = a == b
is_taken Bne a b = not (a == b)
is_taken Blt a b = int_lt (signed_of a) (signed_of b)
is_taken Bge a b = not (int_lt (signed_of a) (signed_of b))
is_taken Bltu a b = nat_lt a b
is_taken Bgeu a b = not (nat_lt a b)
is_taken _ a b = false

-- What a load puts into its register: n, the little-endian number of the loaded bytes, sign extended by lb and lh,
-- zero extended by lbu and lhu. The manual, "Load and Store Instructions".
abbrev pub loaded_of : Op → ℕ → ℕ
loaded_of Lb n = modulo (signed 8 n)
loaded_of Lh n = modulo (signed 16 n)
loaded_of _ n = n

-- how many bytes an instruction loads or stores; an atomic, one word
abbrev pub mem_size : Op → ℕ
mem_size Lb = 1
mem_size Lbu = 1
mem_size Sb = 1
mem_size Lh = 2
mem_size Lhu = 2
mem_size Sh = 2
mem_size Lw = 4
mem_size Sw = 4
mem_size LrW = 4
mem_size ScW = 4
mem_size AmoswapW = 4
mem_size AmoaddW = 4
mem_size AmoxorW = 4
mem_size AmoandW = 4
mem_size AmoorW = 4
mem_size AmominW = 4
mem_size AmomaxW = 4
mem_size AmominuW = 4
mem_size AmomaxuW = 4
mem_size _ = 0

-- the instructions that end a block: branches, jumps, ecall and ebreak
abbrev pub ends_block : Op → Bool
ends_block Jal = true
ends_block Jalr = true
ends_block Beq = true
ends_block Bne = true
ends_block Blt = true
ends_block Bge = true
ends_block Bltu = true
ends_block Bgeu = true
ends_block Ecall = true
ends_block Ebreak = true
ends_block _ = false

-- x1 and x5 keep return addresses
abbrev pub is_link : ℕ → Bool
is_link register = register == 1 || register == 5

-- What a jump does to the stack of return addresses. The manual, "Unconditional Jumps", the table of hints in the
-- register operands of jalr.
abbrev pub link_of : Op → ℕ → ℕ → Link
link_of Jal rd rs1 = if is_link rd then links.Push else links.None
link_of Jalr rd rs1 = if is_link rd then (if is_link rs1 && not (rd == rs1) then links.PopPush else links.Push) else (if is_link rs1 then links.Pop else links.None)
link_of _ rd rs1 = links.None
