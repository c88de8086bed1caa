-- What a word fixes of its instruction, and an instruction of its word.
use Rattle.std.proofs.Common.{◌≡◌, ◌≢◌, ℕ, ◌<◌, ◌^◌, ℤ, arith, ap, subst, ◌∙◌}
use Rattle.std.proofs.lemmas.Int.{ints}
use Rattle.rv_isa.specs.Table.{Row, Fields, R, I, Shift, S, B, U, J, Bare, Whole, Atomic, Reserve, IsFixed, Decodes, row_of, rd_of, rs1_of, rs2_of, imm_of, HasForm, HasPlainBits}
use Rattle.rv_isa.specs.declared.op.Op.{Op}
use Rattle.rv_isa.specs.declared.op.Op.TheVariants.{Fence}

-- two instructions with equal fields are one
pub same_fields : (i j : Fields) → i.op ≡ j.op → i.rd ≡ j.rd → i.rs1 ≡ j.rs1 → i.rs2 ≡ j.rs2 → i.imm ≡ j.imm → i ≡ j
same_fields i j op rd rs1 rs2 imm =
    let f : Op → ℕ → ℕ → ℕ → ℤ → Fields = λ op rd rs1 rs2 imm. record { op = op; rd = rd; rs1 = rs1; rs2 = rs2; imm = imm } in
    ap (λ v. f v i.rd i.rs1 i.rs2 i.imm) op ∙ ap (λ v. f j.op v i.rs1 i.rs2 i.imm) rd ∙ ap (λ v. f j.op j.rd v i.rs2 i.imm) rs1 ∙ ap (λ v. f j.op j.rd j.rs1 v i.imm) rs2 ∙ ap (λ v. f j.op j.rd j.rs1 j.rs2 v) imm

-- a word has one instruction of each name
pub one_instr : (word : ℕ) (i j : Fields) → i.op ≡ j.op → Decodes word i → Decodes word j → i ≡ j
one_instr word i j same p q = same_fields i j same (cc) (cc) (cc) (cc)

-- A row has one word with these fields and no other bits.
pub same_word : (row : Row) (word other : ℕ) → HasPlainBits row word → HasPlainBits row other → word < 2 ^ 32 → other < 2 ^ 32 → IsFixed row word → IsFixed row other → rd_of row word ≡ rd_of row other → rs1_of row word ≡ rs1_of row other → rs2_of row word ≡ rs2_of row other → imm_of row word ≡ imm_of row other → word ≡ other
same_word (R _ _ _) word other p q m n f g rd rs1 rs2 imm = omega arith
same_word (I _ _) word other p q m n f g rd rs1 rs2 imm = grind (arith, ints)
same_word (Shift _ _ _) word other p q m n f g rd rs1 rs2 imm = omega (arith, ints)
same_word (S _ _) word other p q m n f g rd rs1 rs2 imm = grind (arith, ints)
same_word (B _ _) word other p q m n f g rd rs1 rs2 imm = grind (arith, ints)
same_word (U _) word other p q m n f g rd rs1 rs2 imm = grind (arith, ints)
same_word (J _) word other p q m n f g rd rs1 rs2 imm = grind (arith, ints)
same_word (Bare _ _) word other p q m n f g rd rs1 rs2 imm = absurd p
same_word (Whole _) word other p q m n f g rd rs1 rs2 imm = cc
same_word (Atomic _ _ _) word other p q m n f g rd rs1 rs2 imm = omega (arith, p, q)
same_word (Reserve _ _ _) word other p q m n f g rd rs1 rs2 imm = omega (arith, p, q)

-- an instruction other than fence has one word whose ignored bits are 0
pub one_word : (word other : ℕ) (i : Fields) → HasPlainBits (row_of i.op) word → HasPlainBits (row_of i.op) other → Decodes word i → Decodes other i → word ≡ other
one_word word other i plain bare p q = same_word (row_of i.op) word other plain bare p.is_word q.is_word p.fixed q.fixed (cc) (cc) (cc) (cc)

-- a word with these bits 0 is no fence's
not_fence : (row : Row) (word : ℕ) → HasPlainBits row word → row ≢ Bare 0b0001111 0b000
not_fence row word plain same = subst (λ (r : Row). HasPlainBits r word) same plain

pub one_plain_word : (word other : ℕ) (i : Fields) → HasPlainBits (row_of i.op) word → (i.op ≢ Fence → HasPlainBits (row_of i.op) other) → Decodes word i → Decodes other i → word ≡ other
one_plain_word word other i plain others p q = one_word word other i plain (others (λ e. not_fence (row_of i.op) word plain (ap row_of e))) p q

-- what a word spells is in its form
pub in_form : (row : Row) (word : ℕ) (i : Fields) → i.rd ≡ rd_of row word → i.rs1 ≡ rs1_of row word → i.rs2 ≡ rs2_of row word → i.imm ≡ imm_of row word → HasForm row i
in_form (R _ _ _) word i rd rs1 rs2 imm = grind (arith, ints)
in_form (I _ _) word i rd rs1 rs2 imm = grind (arith, ints)
in_form (Shift _ _ _) word i rd rs1 rs2 imm = grind (arith, ints)
in_form (S _ _) word i rd rs1 rs2 imm = grind (arith, ints)
in_form (B _ _) word i rd rs1 rs2 imm = grind (arith, ints)
in_form (U _) word i rd rs1 rs2 imm = grind (arith, ints)
in_form (J _) word i rd rs1 rs2 imm = grind (arith, ints)
in_form (Bare _ _) word i rd rs1 rs2 imm = grind (arith, ints)
in_form (Whole _) word i rd rs1 rs2 imm = grind (arith, ints)
in_form (Atomic _ _ _) word i rd rs1 rs2 imm = grind (arith, ints)
in_form (Reserve _ _ _) word i rd rs1 rs2 imm = grind (arith, ints)
