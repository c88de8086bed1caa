-- The instructions of a demo program.
use Rattle.std.specs.Prelude.{ℕ, ◌+◌, ◌-◌, ◌*◌, ◌/◌, ◌%◌, pos, negsuc, List, [], ◌∷◌, ◌++◌, map, get_or}
use Rattle.std.specs.List.{flat_map, range_with_len}
use Rattle.rv_isa.specs.Table.{Fields}
use Rattle.rv_isa.specs.declared.op.Op.TheVariants.{Add, Sub, Xor, Mul, Divu, Sltu, Lw, Sw, And, Or, Addi, Bne, Jalr}
use Rattle.prog_gen.specs.Instrs.{registers, immediate, store, branch, upper, jump, ecall}
use Rattle.prog_gen.specs.Draws.{draw}
use Rattle.prog_gen.specs.File.{headers}

-- It sets x8 and x20 to the zeros' address, x18 to a page, x19 to a mask of their pages, and x9 to the rounds of its
-- loop.
abbrev pub start : ℕ → List Fields
start n =
    upper 20 (pos 0x100000) ∷ upper 8 (pos 0x100000) ∷ upper 18 (pos 0x1000) ∷ upper 19 (pos 0xf000)
    ∷ immediate Addi 9 0 (pos (1000 + n % 1000)) ∷ []

-- the eight instructions that a drawn number can stand for
abbrev pub choices : ℕ → List Fields
choices d =
    let rd = 10 + d / 8 % 6 in
    let a = 10 + d / 64 % 6 in
    let b = 10 + d / 512 % 6 in
    let offset = pos (4 * (d / 4096 % 512)) in
    registers Add rd a b ∷ registers Sub rd a b ∷ registers Xor rd a b ∷ registers Mul rd a b
    ∷ registers Divu rd a b ∷ registers Sltu rd a b ∷ immediate Lw rd 8 offset ∷ store Sw b offset 8 ∷ []

-- the one that it stands for
abbrev pub instr_of : ℕ → Fields
instr_of d = get_or (choices d) (d % 8) ecall

-- so many drawn instructions, from the draw of this number on
unfoldable pub drawn : ℕ → ℕ → ℕ → List Fields
drawn n first count = map (λ k. instr_of (draw n k)) (range_with_len first count)

-- The call of this number, from 0 on, of a drawn function. It is word 37 + k of the code, and function f begins with
-- word 55 + 9 * f.
abbrev pub call : ℕ → ℕ → Fields
call n k = jump 1 (pos (4 * (55 + 9 * (draw n (33 + k) % 64) - (37 + k))))

-- the first of its calls
unfoldable pub calls : ℕ → ℕ → List Fields
calls n count = map (call n) (range_with_len 0 count)

-- A round ends: x8 goes to the next page of the zeros, and after the last to the first. The loop begins 40 words back.
abbrev pub turn : List Fields
turn =
    registers Add 8 8 18 ∷ registers And 8 8 19 ∷ registers Or 8 8 20 ∷ immediate Addi 9 9 (negsuc 0)
    ∷ branch Bne 9 0 (negsuc 159) ∷ []

-- It writes the four bytes of x10, and exits with 0.
abbrev pub finish : List Fields
finish =
    store Sw 10 (pos 0) 20 ∷ immediate Addi 17 0 (pos 64) ∷ immediate Addi 10 0 (pos 1) ∷ immediate Addi 11 20 (pos 0)
    ∷ immediate Addi 12 0 (pos 4) ∷ ecall ∷ immediate Addi 17 0 (pos 93) ∷ immediate Addi 10 0 (pos 0) ∷ ecall ∷ []

-- a function: eight drawn instructions and the return
abbrev pub function : ℕ → ℕ → List Fields
function n f = drawn n (37 + 8 * f) 8 ++ immediate Jalr 0 1 (pos 0) ∷ []

-- the first of its functions
unfoldable pub functions : ℕ → ℕ → List Fields
functions n count = flat_map (function n) (range_with_len 0 count)

-- all of it: 631 instructions
abbrev pub demo_instrs : ℕ → List Fields
demo_instrs n = start n ++ drawn n 1 32 ++ calls n 4 ++ turn ++ finish ++ functions n 64

abbrev pub demo_headers : List ℕ
demo_headers = headers 2640 0x100000 0x10000
