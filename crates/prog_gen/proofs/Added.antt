-- Instructions that are appended one after the other.
use Rattle.std.proofs.Common.{◌≡◌, ℕ, ◌+◌, ◌-◌, ◌*◌, ◌%◌, pos, List, [], ◌∷◌, ◌++◌, map, Some, ap, sym, ◌∙◌, refl, append_assoc, append-nil, length-append, zero-add, ◌<◌, length, get_or, take, subst}
use Rattle.std.proofs.lemmas.List.{map-append, take_more}
use Rattle.std.proofs.lemmas.List.FromFn.{map-range_with_len_more}
use Rattle.std.proofs.lemmas.Grind.{flat_map-append}
use Rattle.std.specs.List.{flat_map, range_with_len}
use Rattle.rv_isa.specs.Table.{Fields, Decodes}
use Rattle.rv_isa.specs.Decoded.{decoded}
use Rattle.rv_isa.proofs.Decoded.{decoded_is}
use Rattle.prog_gen.specs.File.{word, Adds, AddsSome}
use Rattle.rv_isa.specs.declared.op.Op.TheVariants.{Jalr}
use Rattle.prog_gen.specs.Instrs.{immediate, jump}
use Rattle.prog_gen.specs.Draws.{draw}
use Rattle.prog_gen.specs.Demo.{start, instr_of, drawn, call, calls, turn, finish, function, functions, demo_instrs, demo_headers}

pub adds_none : (bytes : List ℕ) → Adds [] bytes bytes
adds_none bytes = record { words = []; spelled = refl; added = sym (append-nil bytes) }

pub adds_one : (w : ℕ) (i : Fields) (old new : List ℕ) → Decodes w i → new ≡ old ++ word w → Adds (i ∷ []) old new
adds_one w i old new decodes is = record {
  words = w ∷ [];
  spelled = ap (λ o. o ∷ []) (decoded_is w i decodes);
  added = is ∙ ap (λ more. old ++ more) (sym (append-nil (word w)));
}

pub adds_more : (one two : List Fields) (a b c : List ℕ) → Adds one a b → Adds two b c → Adds (one ++ two) a c
adds_more one two a b c first second = record {
  words = first.words ++ second.words;
  spelled = map-append decoded first.words second.words ∙ ap (λ xs. xs ++ map decoded second.words) first.spelled ∙ ap (λ ys. map Some one ++ ys) second.spelled ∙ sym (map-append Some one two);
  added = second.added ∙ ap (λ xs. xs ++ flat_map word second.words) first.added ∙ append_assoc a (flat_map word first.words) (flat_map word second.words) ∙ ap (λ xs. a ++ xs) (sym (flat_map-append word first.words second.words));
}

same : (xs : List ℕ) → map (λ x. x) xs ≡ xs
same [] = refl
same (x ∷ xs) = ap (λ ys. x ∷ ys) (same xs)

pub adds_next : (instrs : List Fields) (k : ℕ) (i : Fields) (a b c : List ℕ) → k < length instrs → i ≡ get_or instrs k i → Adds (take k instrs) a b → Adds (i ∷ []) b c → Adds (take (k + 1) instrs) a c
adds_next instrs k i a b c within is first second =
    let next : take (k + 1) instrs ≡ take k instrs ++ i ∷ [] = take_more instrs k i within ∙ ap (λ (last : Fields). take k instrs ++ last ∷ []) (sym is) in
    subst (λ (made : List Fields). Adds made a c) (sym next) (adds_more (take k instrs) (i ∷ []) a b c first second)

pub adds_some : (count : ℕ) (instrs : List Fields) (old new : List ℕ) → Adds instrs old new → length instrs ≡ count → AddsSome count old new
adds_some count instrs old new adds number = record { instrs = instrs; number = number; adds = adds }

pub some_more : (m n : ℕ) (a b c : List ℕ) → AddsSome m a b → AddsSome n b c → AddsSome (m + n) a c
some_more m n a b c one two = record {
  instrs = one.instrs ++ two.instrs;
  number = length-append one.instrs two.instrs ∙ ap (λ k. k + length two.instrs) one.number ∙ ap (λ k. m + k) two.number;
  adds = adds_more one.instrs two.instrs a b c one.adds two.adds;
}

-- all of them are those that were added before, and more
pub adds_all : (all before more : List Fields) (a b c : List ℕ) → all ≡ before ++ more → Adds before a b → Adds more b c → Adds all a c
adds_all all before more a b c is first second = subst (λ (made : List Fields). Adds made a c) (sym is) (adds_more before more a b c first second)

pub drawn_none : (n first : ℕ) (bytes : List ℕ) → Adds (drawn n first 0) bytes bytes
unfolding drawn
drawn_none n first bytes = adds_none bytes

drawn_more : (n first count place : ℕ) → first + count ≡ place → drawn n first (count + 1) ≡ drawn n first count ++ instr_of (draw n place) ∷ []
unfolding drawn
drawn_more n first count place at = map-range_with_len_more (λ k. instr_of (draw n k)) first count place at

-- The draw of number `place` gives d, and it one more instruction.
pub drawn_next : (n seed first count place d : ℕ) (i : Fields) (a b c : List ℕ) → first + count ≡ place → seed ≡ n → d ≡ draw seed place → i ≡ instr_of d → Adds (drawn n first count) a b → Adds (i ∷ []) b c → Adds (drawn n first (count + 1)) a c
drawn_next n seed first count place d i a b c at same drew is before more =
    let value : i ≡ instr_of (draw n place) = is ∙ ap instr_of (drew ∙ ap (λ s. draw s place) same) in
    let all : drawn n first (count + 1) ≡ drawn n first count ++ i ∷ [] = drawn_more n first count place at ∙ ap (λ (last : Fields). drawn n first count ++ last ∷ []) (sym value) in
    adds_all (drawn n first (count + 1)) (drawn n first count) (i ∷ []) a b c all before more

pub calls_none : (n : ℕ) (bytes : List ℕ) → Adds (calls n 0) bytes bytes
unfolding calls
calls_none n bytes = adds_none bytes

calls_more : (n count : ℕ) → calls n (count + 1) ≡ calls n count ++ call n count ∷ []
unfolding calls
calls_more n count = map-range_with_len_more (call n) 0 count count (zero-add count)

-- The draw of number 33 + count gives d, and it one more call.
pub calls_next : (n seed count place d : ℕ) (i : Fields) (a b c : List ℕ) → 33 + count ≡ place → seed ≡ n → d ≡ draw seed place → i ≡ jump 1 (pos (4 * (55 + 9 * (d % 64) - (37 + count)))) → Adds (calls n count) a b → Adds (i ∷ []) b c → Adds (calls n (count + 1)) a c
calls_next n seed count place d i a b c at same drew is before more =
    let from : ℕ → Fields = λ d. jump 1 (pos (4 * (55 + 9 * (d % 64) - (37 + count)))) in
    let value : i ≡ call n count = is ∙ ap from (drew ∙ ap (λ s. draw s place) same ∙ ap (draw n) (sym at)) in
    let all : calls n (count + 1) ≡ calls n count ++ i ∷ [] = calls_more n count ∙ ap (λ (last : Fields). calls n count ++ last ∷ []) (sym value) in
    adds_all (calls n (count + 1)) (calls n count) (i ∷ []) a b c all before more

pub functions_none : (n : ℕ) (bytes : List ℕ) → Adds (functions n 0) bytes bytes
unfolding functions
functions_none n bytes = adds_none bytes

same_list : (xs : List ℕ) → map (λ x. x) xs ≡ xs
same_list [] = refl
same_list (x ∷ xs) = ap (λ ys. x ∷ ys) (same_list xs)

range_more : (n : ℕ) → range_with_len 0 (n + 1) ≡ range_with_len 0 n ++ n ∷ []
range_more n = sym (same_list (range_with_len 0 (n + 1))) ∙ map-range_with_len_more (λ k. k) 0 n n (zero-add n) ∙ ap (λ xs. xs ++ n ∷ []) (same_list (range_with_len 0 n))

functions_more : (n count : ℕ) → functions n (count + 1) ≡ functions n count ++ function n count
unfolding functions
functions_more n count = ap (flat_map (function n)) (range_more count) ∙ flat_map-append (function n) (range_with_len 0 count) (count ∷ []) ∙ ap (λ last. flat_map (function n) (range_with_len 0 count) ++ last) (append-nil (function n count))

-- one more function
pub functions_next : (n seed count : ℕ) (a b c : List ℕ) → seed ≡ n → Adds (functions n count) a b → Adds (function seed count) b c → Adds (functions n (count + 1)) a c
functions_next n seed count a b c same before more =
    let all : functions n (count + 1) ≡ functions n count ++ function seed count = functions_more n count ∙ ap (λ s. functions n count ++ function s count) (sym same) in
    adds_all (functions n (count + 1)) (functions n count) (function seed count) a b c all before more

-- a function: drawn instructions from number `first` on, and the return
pub function_whole : (n f first : ℕ) (a b c : List ℕ) → first ≡ 37 + 8 * f → Adds (drawn n first 8) a b → Adds (immediate Jalr 0 1 (pos 0) ∷ []) b c → Adds (function n f) a c
function_whole n f first a b c at before more =
    let all : function n f ≡ drawn n first 8 ++ immediate Jalr 0 1 (pos 0) ∷ [] = ap (λ k. drawn n k 8 ++ immediate Jalr 0 1 (pos 0) ∷ []) (sym at) in
    adds_all (function n f) (drawn n first 8) (immediate Jalr 0 1 (pos 0) ∷ []) a b c all before more

-- the parts of the program, one after the other
pub demo_whole : (n first of_drawn of_calls of_functions : ℕ) (b0 b1 b2 b3 b4 b5 b6 : List ℕ) → b0 ≡ demo_headers → first ≡ 1 → of_drawn ≡ n → of_calls ≡ n → of_functions ≡ n → Adds (start n) b0 b1 → Adds (drawn of_drawn first 32) b1 b2 → Adds (calls of_calls 4) b2 b3 → Adds turn b3 b4 → Adds finish b4 b5 → Adds (functions of_functions 64) b5 b6 → Adds (demo_instrs n) demo_headers b6
demo_whole n first of_drawn of_calls of_functions b0 b1 b2 b3 b4 b5 b6 at number p q r one two three four five six =
    let two_at : Adds (drawn n 1 32) b1 b2 = subst (λ k. Adds (drawn n k 32) b1 b2) number (subst (λ s. Adds (drawn s first 32) b1 b2) p two) in
    let three_at : Adds (calls n 4) b2 b3 = subst (λ s. Adds (calls s 4) b2 b3) q three in
    let six_at : Adds (functions n 64) b5 b6 = subst (λ s. Adds (functions s 64) b5 b6) r six in
    let to_two = adds_more (start n) (drawn n 1 32) b0 b1 b2 one two_at in
    let to_three = adds_more (start n ++ drawn n 1 32) (calls n 4) b0 b2 b3 to_two three_at in
    let to_four = adds_more (start n ++ drawn n 1 32 ++ calls n 4) turn b0 b3 b4 to_three four in
    let to_five = adds_more (start n ++ drawn n 1 32 ++ calls n 4 ++ turn) finish b0 b4 b5 to_four five in
    let to_six = adds_more (start n ++ drawn n 1 32 ++ calls n 4 ++ turn ++ finish) (functions n 64) b0 b5 b6 to_five six_at in
    subst (λ b. Adds (demo_instrs n) b b6) at to_six
