-- The table as a function gives the instruction of the word's row.
use Rattle.std.proofs.Common.{◌≡◌, ℕ, arith, ap, refl, sym, Some, None, List, [], ◌∷◌, true, false, Bool, cond, subst, Option, option_map}
use Rattle.std.specs.Prelude.{◌==◌, nat_lt, ◌<◌, ◌^◌}
use Rattle.rv_isa.specs.Table.{Row, Fields, R, I, Shift, S, B, U, J, Bare, Whole, Atomic, Reserve, IsFixed, Decodes, row_of}
use Rattle.rv_isa.specs.Word.{bits}
use Rattle.rv_isa.specs.Decoded.{decoded, first_op, ops, instr_in, is_fixed}
use Rattle.std.proofs.lemmas.Bool.Decides.{nat_tests}
use Rattle.rv_isa.proofs.Unique.{same_fields}
use Rattle.rv_isa.specs.declared.op.Op.{Op}
use Rattle.rv_isa.specs.declared.op.Op.TheVariants.{Lui, Auipc, Jal, Jalr, Beq, Bne, Blt, Bge, Bltu, Bgeu, Lb, Lh, Lw, Lbu, Lhu, Sb, Sh, Sw, Addi, Slti, Sltiu, Xori, Ori, Andi, Slli, Srli, Srai, Add, Sub, Sll, Slt, Sltu, Xor, Srl, Sra, Or, And, Fence, Ecall, Ebreak, Mul, Mulh, Mulhsu, Mulhu, Div, Divu, Rem, Remu, LrW, ScW, AmoswapW, AmoaddW, AmoxorW, AmoandW, AmoorW, AmominW, AmomaxW, AmominuW, AmomaxuW}

-- the words of ecall and ebreak have an opcode that no other row has
is_no_call : (word opcode : ℕ) → bits word 6 0 ≡ opcode → (opcode == 0b1110011) ≡ false → (word == 0x00000073) ≡ false
is_no_call word opcode h other = grind (arith, nat_tests)

is_no_break : (word opcode : ℕ) → bits word 6 0 ≡ opcode → (opcode == 0b1110011) ≡ false → (word == 0x00100073) ≡ false
is_no_break word opcode h other = grind (arith, nat_tests)

-- the first row of a word is the one that it has
first_op_is : (op : Op) (word : ℕ) → IsFixed (row_of op) word → first_op word ops ≡ Some op
first_op_is Lui word h = simp h
first_op_is Auipc word h = simp h
first_op_is Jal word h = simp h
first_op_is Jalr word h = simp (h.0, h.1)
first_op_is Beq word h = simp (h.0, h.1)
first_op_is Bne word h = simp (h.0, h.1)
first_op_is Blt word h = simp (h.0, h.1)
first_op_is Bge word h = simp (h.0, h.1)
first_op_is Bltu word h = simp (h.0, h.1)
first_op_is Bgeu word h = simp (h.0, h.1)
first_op_is Lb word h = simp (h.0, h.1)
first_op_is Lh word h = simp (h.0, h.1)
first_op_is Lw word h = simp (h.0, h.1)
first_op_is Lbu word h = simp (h.0, h.1)
first_op_is Lhu word h = simp (h.0, h.1)
first_op_is Sb word h = simp (h.0, h.1)
first_op_is Sh word h = simp (h.0, h.1)
first_op_is Sw word h = simp (h.0, h.1)
first_op_is Addi word h = simp (h.0, h.1)
first_op_is Slti word h = simp (h.0, h.1)
first_op_is Sltiu word h = simp (h.0, h.1)
first_op_is Xori word h = simp (h.0, h.1)
first_op_is Ori word h = simp (h.0, h.1)
first_op_is Andi word h = simp (h.0, h.1)
first_op_is Slli word h = simp (h.0, h.1, h.2)
first_op_is Srli word h = simp (h.0, h.1, h.2)
first_op_is Srai word h = simp (h.0, h.1, h.2)
first_op_is Add word h = simp (h.0, h.1, h.2)
first_op_is Sub word h = simp (h.0, h.1, h.2)
first_op_is Sll word h = simp (h.0, h.1, h.2)
first_op_is Slt word h = simp (h.0, h.1, h.2)
first_op_is Sltu word h = simp (h.0, h.1, h.2)
first_op_is Xor word h = simp (h.0, h.1, h.2)
first_op_is Srl word h = simp (h.0, h.1, h.2)
first_op_is Sra word h = simp (h.0, h.1, h.2)
first_op_is Or word h = simp (h.0, h.1, h.2)
first_op_is And word h = simp (h.0, h.1, h.2)
first_op_is Fence word h = simp (h.0, h.1)
first_op_is Ecall word h = simp h
first_op_is Ebreak word h = simp h
first_op_is Mul word h = simp (is_no_call word 0b0110011 h.0 refl, is_no_break word 0b0110011 h.0 refl, h.0, h.1, h.2)
first_op_is Mulh word h = simp (is_no_call word 0b0110011 h.0 refl, is_no_break word 0b0110011 h.0 refl, h.0, h.1, h.2)
first_op_is Mulhsu word h = simp (is_no_call word 0b0110011 h.0 refl, is_no_break word 0b0110011 h.0 refl, h.0, h.1, h.2)
first_op_is Mulhu word h = simp (is_no_call word 0b0110011 h.0 refl, is_no_break word 0b0110011 h.0 refl, h.0, h.1, h.2)
first_op_is Div word h = simp (is_no_call word 0b0110011 h.0 refl, is_no_break word 0b0110011 h.0 refl, h.0, h.1, h.2)
first_op_is Divu word h = simp (is_no_call word 0b0110011 h.0 refl, is_no_break word 0b0110011 h.0 refl, h.0, h.1, h.2)
first_op_is Rem word h = simp (is_no_call word 0b0110011 h.0 refl, is_no_break word 0b0110011 h.0 refl, h.0, h.1, h.2)
first_op_is Remu word h = simp (is_no_call word 0b0110011 h.0 refl, is_no_break word 0b0110011 h.0 refl, h.0, h.1, h.2)
first_op_is LrW word h = simp (is_no_call word 0b0101111 h.0 refl, is_no_break word 0b0101111 h.0 refl, h.0, h.1, h.2, h.3)
first_op_is ScW word h = simp (is_no_call word 0b0101111 h.0 refl, is_no_break word 0b0101111 h.0 refl, h.0, h.1, h.2)
first_op_is AmoswapW word h = simp (is_no_call word 0b0101111 h.0 refl, is_no_break word 0b0101111 h.0 refl, h.0, h.1, h.2)
first_op_is AmoaddW word h = simp (is_no_call word 0b0101111 h.0 refl, is_no_break word 0b0101111 h.0 refl, h.0, h.1, h.2)
first_op_is AmoxorW word h = simp (is_no_call word 0b0101111 h.0 refl, is_no_break word 0b0101111 h.0 refl, h.0, h.1, h.2)
first_op_is AmoandW word h = simp (is_no_call word 0b0101111 h.0 refl, is_no_break word 0b0101111 h.0 refl, h.0, h.1, h.2)
first_op_is AmoorW word h = simp (is_no_call word 0b0101111 h.0 refl, is_no_break word 0b0101111 h.0 refl, h.0, h.1, h.2)
first_op_is AmominW word h = simp (is_no_call word 0b0101111 h.0 refl, is_no_break word 0b0101111 h.0 refl, h.0, h.1, h.2)
first_op_is AmomaxW word h = simp (is_no_call word 0b0101111 h.0 refl, is_no_break word 0b0101111 h.0 refl, h.0, h.1, h.2)
first_op_is AmominuW word h = simp (is_no_call word 0b0101111 h.0 refl, is_no_break word 0b0101111 h.0 refl, h.0, h.1, h.2)
first_op_is AmomaxuW word h = simp (is_no_call word 0b0101111 h.0 refl, is_no_break word 0b0101111 h.0 refl, h.0, h.1, h.2)

is_below : (m n : ℕ) → m < n → nat_lt m n ≡ true
is_below m n h = grind (arith, nat_tests)

pub decoded_is : (word : ℕ) (i : Fields) → Decodes word i → decoded word ≡ Some i
unfolding decoded
decoded_is word i h = rw (is_below word (2 ^ 32) h.is_word, first_op_is i.op word h.fixed) (ap Some (same_fields (instr_in i.op word) i refl (sym h.rd) (sym h.rs1) (sym h.rs2) (sym h.imm)))

not_fixed : (row : Row) (word : ℕ) → ¬ IsFixed row word → is_fixed row word ≡ false
not_fixed (R a b c) word h = grind (arith, nat_tests)
not_fixed (I a b) word h = grind (arith, nat_tests)
not_fixed (Shift a b c) word h = grind (arith, nat_tests)
not_fixed (S a b) word h = grind (arith, nat_tests)
not_fixed (B a b) word h = grind (arith, nat_tests)
not_fixed (U a) word h = grind (arith, nat_tests)
not_fixed (J a) word h = grind (arith, nat_tests)
not_fixed (Bare a b) word h = grind (arith, nat_tests)
not_fixed (Whole a) word h = grind (arith, nat_tests)
not_fixed (Atomic a b c) word h = grind (arith, nat_tests)
not_fixed (Reserve a b c) word h = grind (arith, nat_tests)

first_op_none : (word : ℕ) (xs : List Op) → ((op : Op) → ¬ IsFixed (row_of op) word) → first_op word xs ≡ None
first_op_none word [] h = refl
first_op_none word (x ∷ xs) h = rw (not_fixed (row_of x) word (h x)) (first_op_none word xs h)

either_way : (b : Bool) (o : Option Fields) → cond b o o ≡ o
either_way true o = refl
either_way false o = refl

pub decoded_none : (word : ℕ) → ((op : Op) → ¬ IsFixed (row_of op) word) → decoded word ≡ None
unfolding decoded
decoded_none word h = rw (first_op_none word ops h) (either_way (nat_lt word (2 ^ 32)) None)

fixed_yes : (row : Row) (word : ℕ) → is_fixed row word ≡ true → IsFixed row word
fixed_yes (R a b c) word h = grind (arith, nat_tests)
fixed_yes (I a b) word h = grind (arith, nat_tests)
fixed_yes (Shift a b c) word h = grind (arith, nat_tests)
fixed_yes (S a b) word h = grind (arith, nat_tests)
fixed_yes (B a b) word h = grind (arith, nat_tests)
fixed_yes (U a) word h = grind (arith, nat_tests)
fixed_yes (J a) word h = grind (arith, nat_tests)
fixed_yes (Bare a b) word h = grind (arith, nat_tests)
fixed_yes (Whole a) word h = grind (arith, nat_tests)
fixed_yes (Atomic a b c) word h = grind (arith, nat_tests)
fixed_yes (Reserve a b c) word h = grind (arith, nat_tests)

-- one row: it is the word's, or the rest has it
first_of : (word : ℕ) (x op : Op) (rest : Option Op) (b : Bool) → is_fixed (row_of x) word ≡ b → cond b (Some x) rest ≡ Some op → (rest ≡ Some op → IsFixed (row_of op) word) → IsFixed (row_of op) word
first_of word x op rest true here e later = let same : x ≡ op = cc in subst (λ (q : Op). IsFixed (row_of q) word) same (fixed_yes (row_of x) word here)
first_of word x op rest false other e later = later e

first_op_fixed : (word : ℕ) (xs : List Op) (op : Op) → first_op word xs ≡ Some op → IsFixed (row_of op) word
first_op_fixed word [] op h = cc
first_op_fixed word (x ∷ xs) op h = first_of word x op (first_op word xs) (is_fixed (row_of x) word) refl h (λ e. first_op_fixed word xs op e)

found_in : (word : ℕ) (o : Option Op) (i : Fields) → option_map (λ op. instr_in op word) o ≡ Some i → (op : Op) × (o ≡ Some op) × (instr_in op word ≡ i)
found_in word None i h = cc
found_in word (Some op) i h = (op, refl, (cc))

below : (b : Bool) (o : Option Fields) (i : Fields) → cond b o None ≡ Some i → (b ≡ true) × (o ≡ Some i)
below true o i h = (refl, h)
below false o i h = cc

is_word : (m n : ℕ) → nat_lt m n ≡ true → m < n
is_word m n h = grind (arith, nat_tests)

pub decoded_row : (word : ℕ) (i : Fields) → decoded word ≡ Some i → Decodes word i
unfolding decoded
decoded_row word i h =
    let w = below (nat_lt word (2 ^ 32)) (option_map (λ op. instr_in op word) (first_op word ops)) i h in
    let f = found_in word (first_op word ops) i w.1 in
    subst (λ (j : Fields). Decodes word j) f.2 (record { is_word = is_word word (2 ^ 32) w.0; fixed = first_op_fixed word ops f.0 f.1; rd = refl; rs1 = refl; rs2 = refl; imm = refl })
