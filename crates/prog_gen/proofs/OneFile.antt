-- Instructions that are spelled by one list of words.
use Rattle.std.proofs.Common.{◌≡◌, ℕ, zero, suc, ◌+◌, ◌*◌, ◌%◌, List, [], ◌∷◌, ◌++◌, map, get_or, Some, ap, sym, ◌∙◌, refl}
use Rattle.std.specs.List.{flat_map, range_with_len}
use Rattle.rv_isa.specs.Table.{Fields, HasPlainBits, row_of}
use Rattle.rv_isa.specs.Decoded.{decoded}
use Rattle.rv_isa.proofs.Decoded.{decoded_row}
use Rattle.rv_isa.proofs.Unique.{one_word}
use Rattle.prog_gen.specs.File.{word, Adds}
use Rattle.prog_gen.specs.Instrs.{ecall}
use Rattle.prog_gen.specs.Draws.{draw}
use Rattle.prog_gen.specs.Demo.{choices, instr_of, drawn, call, calls, turn, finish, function, functions, demo_instrs, demo_headers}

-- an instruction whose words have no bits of their own; a fence and an atomic have several words
abbrev IsPlain : Fields → Type 0
IsPlain i = (word : ℕ) → HasPlainBits (row_of i.op) word

ArePlain : List Fields → Type 0
ArePlain [] = Unit {0}
ArePlain (i ∷ instrs) = IsPlain i × ArePlain instrs

one_spelling : (instrs : List Fields) (words others : List ℕ) → ArePlain instrs → map decoded words ≡ map Some instrs → map decoded others ≡ map Some instrs → words ≡ others
unfolding ArePlain
one_spelling [] [] [] free h k = refl
one_spelling [] [] (v ∷ others) free h k = cc
one_spelling [] (w ∷ words) others free h k = cc
one_spelling (i ∷ instrs) [] others free h k = cc
one_spelling (i ∷ instrs) (w ∷ words) [] free h k = cc
one_spelling (i ∷ instrs) (w ∷ words) (v ∷ others) free h k =
    let w_is : decoded w ≡ Some i = cc in
    let v_is : decoded v ≡ Some i = cc in
    let rest : words ≡ others = one_spelling instrs words others free.1 (cc) (cc) in
    let same : w ≡ v = one_word w v i (free.0 w) (free.0 v) (decoded_row w i w_is) (decoded_row v i v_is) in
    cc

plain_append : (one two : List Fields) → ArePlain one → ArePlain two → ArePlain (one ++ two)
unfolding ArePlain
plain_append [] two p q = q
plain_append (i ∷ one) two p q = (p.0, plain_append one two p.1 q)

plain_map : (f : ℕ → Fields) → ((k : ℕ) → IsPlain (f k)) → (xs : List ℕ) → ArePlain (map f xs)
unfolding ArePlain
plain_map f p [] = tt
plain_map f p (k ∷ xs) = (p k, plain_map f p xs)

plain_flat_map : (f : ℕ → List Fields) → ((k : ℕ) → ArePlain (f k)) → (xs : List ℕ) → ArePlain (flat_map f xs)
unfolding ArePlain
plain_flat_map f p [] = tt
plain_flat_map f p (k ∷ xs) = plain_append (f k) (flat_map f xs) (p k) (plain_flat_map f p xs)

plain_at : (instrs : List Fields) (k : ℕ) (other : Fields) → ArePlain instrs → IsPlain other → IsPlain (get_or instrs k other)
unfolding ArePlain
plain_at [] k other p q = q
plain_at (i ∷ instrs) zero other p q = p.0
plain_at (i ∷ instrs) (suc k) other p q = plain_at instrs k other p.1 q

plain_drawn_one : (d : ℕ) → IsPlain (instr_of d)
unfolding ArePlain
plain_drawn_one d = plain_at (choices d) (d % 8) ecall (λ w. tt, (λ w. tt, (λ w. tt, (λ w. tt, (λ w. tt, (λ w. tt, (λ w. tt, (λ w. tt, tt)))))))) (λ w. tt)

plain_drawn : (n first count : ℕ) → ArePlain (drawn n first count)
unfolding drawn
plain_drawn n first count = plain_map (λ k. instr_of (draw n k)) (λ k. plain_drawn_one (draw n k)) (range_with_len first count)

plain_calls : (n count : ℕ) → ArePlain (calls n count)
unfolding calls
plain_calls n count = plain_map (call n) (λ k w. tt) (range_with_len 0 count)

plain_functions : (n count : ℕ) → ArePlain (functions n count)
unfolding functions ArePlain
plain_functions n count = plain_flat_map (function n) (λ f. plain_append (drawn n (37 + 8 * f) 8) _ (plain_drawn n (37 + 8 * f) 8) (λ w. tt, tt)) (range_with_len 0 count)

plain_turn : ArePlain turn
unfolding ArePlain
plain_turn = (λ w. tt, (λ w. tt, (λ w. tt, (λ w. tt, (λ w. tt, tt)))))

plain_finish : ArePlain finish
unfolding ArePlain
plain_finish = (λ w. tt, (λ w. tt, (λ w. tt, (λ w. tt, (λ w. tt, (λ w. tt, (λ w. tt, (λ w. tt, (λ w. tt, tt)))))))))

plain_demo : (n : ℕ) → ArePlain (demo_instrs n)
unfolding ArePlain
plain_demo n =
    let two = plain_append (drawn n 1 32) (calls n 4) (plain_drawn n 1 32) (plain_calls n 4) in
    let three = plain_append (drawn n 1 32 ++ calls n 4) turn two plain_turn in
    let four = plain_append (drawn n 1 32 ++ calls n 4 ++ turn) finish three plain_finish in
    let all = plain_append (drawn n 1 32 ++ calls n 4 ++ turn ++ finish) (functions n 64) four (plain_functions n 64) in
    (λ w. tt, (λ w. tt, (λ w. tt, (λ w. tt, (λ w. tt, all)))))

pub one_demo : (n : ℕ) (file other : List ℕ) → Adds (demo_instrs n) demo_headers file → Adds (demo_instrs n) demo_headers other → file ≡ other
one_demo n file other one two =
    let same : one.words ≡ two.words = one_spelling (demo_instrs n) one.words two.words (plain_demo n) one.spelled two.spelled in
    one.added ∙ ap (λ words. demo_headers ++ flat_map word words) same ∙ sym two.added
