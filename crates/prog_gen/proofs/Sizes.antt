-- The sizes of a demo program.
use Rattle.std.proofs.Common.{◌≡◌, ℕ, ◌+◌, ◌*◌, List, [], ◌∷◌, length, Some, ap, sym, ◌∙◌, refl, arith, length-append}
use Rattle.std.proofs.Math.ListN.{length-map}
use Rattle.std.proofs.lemmas.List.FromFn.{length-map-range_with_len, length-range_with_len}
use Rattle.std.specs.List.{flat_map, range_with_len}
use Rattle.rv_isa.specs.Decoded.{decoded}
use Rattle.prog_gen.specs.File.{word, Adds}
use Rattle.prog_gen.specs.Draws.{draw}
use Rattle.prog_gen.specs.Demo.{instr_of, drawn, call, calls, function, functions, demo_instrs, demo_headers}

words_size : (words : List ℕ) → length (flat_map word words) ≡ 4 * length words
words_size [] = refl
words_size (w ∷ words) = simp length-append (omega (arith, words_size words))

drawn_size : (n first count : ℕ) → length (drawn n first count) ≡ count
unfolding drawn
drawn_size n first count = length-map-range_with_len (λ k. instr_of (draw n k)) first count

calls_size : (n count : ℕ) → length (calls n count) ≡ count
unfolding calls
calls_size n count = length-map-range_with_len (call n) 0 count

function_size : (n f : ℕ) → length (function n f) ≡ 9
function_size n f = simp length-append (omega (arith, drawn_size n (37 + 8 * f) 8))

all_functions_size : (n : ℕ) (fs : List ℕ) → length (flat_map (function n) fs) ≡ 9 * length fs
all_functions_size n [] = refl
all_functions_size n (f ∷ fs) = length-append (function n f) (flat_map (function n) fs) ∙ omega (arith, function_size n f, all_functions_size n fs)

functions_size : (n count : ℕ) → length (functions n count) ≡ 9 * count
unfolding functions
functions_size n count = omega (arith, all_functions_size n (range_with_len 0 count), length-range_with_len 0 count)

instrs_size : (n : ℕ) → length (demo_instrs n) ≡ 631
instrs_size n = simp length-append (omega (arith, drawn_size n 1 32, calls_size n 4, functions_size n 64))

pub demo_size : (n : ℕ) (file : List ℕ) → Adds (demo_instrs n) demo_headers file → length file ≡ 2640
demo_size n file made =
    let count : length made.words ≡ length (demo_instrs n) = sym (length-map made.words decoded) ∙ ap length made.spelled ∙ length-map (demo_instrs n) Some in
    let whole : length file ≡ length demo_headers + length (flat_map word made.words) = ap length made.added ∙ length-append demo_headers (flat_map word made.words) in
    omega (arith, whole, count, words_size made.words, instrs_size n)
