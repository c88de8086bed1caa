-- The words and the strings of a first stack: how many there are, and one more of them.
use Rattle.std.proofs.Common.{◌≡◌, ℕ, ◌+◌, ◌-◌, ◌*◌, ◌<◌, ◌≤◌, List, [], ◌∷◌, ◌++◌, length, take, get_or, replicate, refl, sym, ap, ◌∙◌, append_assoc, arith, map, string_bytes, string_len, String, Global, slice_set}
use Rattle.std.specs.List.{flat_map}
use Rattle.std.proofs.lemmas.List.{take_all, take_more, length-append, length-replicate, length-map, get_or-map}
use Rattle.std.proofs.lemmas.List.Sums.{sum_by-cons, sum_by_more, sum_by_more_le}
use Rattle.elf_load.specs.Image.{ImageFields}
use Rattle.guest_model.specs.Descriptors.{Descriptors, all_closed}
use Rattle.guest_model.specs.Machine.{at_start}
use Rattle.guest_model.specs.Added.{with_area}
use Rattle.guest_model.specs.Bytes.{low_bytes}
use Rattle.guest_model.specs.Space.{Space}
use Rattle.rv_machine.specs.Load.{addresses, auxiliary_vector, first_stack, machine_of, segments_space, stack_area, padding_size, random_bytes, stack_pointer_of, stack_words, strings_at, strings_size, with_zero}
use Rattle.guest_model.specs.declared.platform.TheConstants.{MOST_STRINGS}

-- there are at least as many bytes as strings
pub count-le-size : (xs : List (List ℕ)) → length xs ≤ strings_size xs
count-le-size [] = omega arith
count-le-size (x ∷ xs) = omega (arith, count-le-size xs, sum_by-cons (λ (a : List ℕ). length a + 1) x xs)

pub size_more : (xs : List (List ℕ)) (i : ℕ) → i < length xs → strings_size (take (i + 1) xs) ≡ strings_size (take i xs) + (length (get_or xs i []) + 1)
size_more xs i lt = sum_by_more (λ (a : List ℕ). length a + 1) xs i [] lt

pub size_within : (xs : List (List ℕ)) (i : ℕ) → i < length xs → strings_size (take i xs) + (length (get_or xs i []) + 1) ≤ strings_size xs
size_within xs i lt = sum_by_more_le (λ (a : List ℕ). length a + 1) xs i [] lt

behind : (a n m : ℕ) → (a + n) + m ≡ a + (n + m)
behind a n m = omega arith

addresses-append : (a : ℕ) (xs ys : List (List ℕ)) → addresses a (xs ++ ys) ≡ addresses a xs ++ addresses (a + strings_size xs) ys
addresses-append a [] ys = let none : a ≡ a + 0 = omega arith in ap (λ k. addresses k ys) none
addresses-append a (x ∷ xs) ys =
    ap (λ l. a ∷ l)
    (addresses-append (a + (length x + 1)) xs ys
    ∙ ap (λ k. addresses (a + (length x + 1)) xs ++ addresses k ys)
    (behind a (length x + 1) (strings_size xs) ∙ ap (λ k. a + k) (sym (sum_by-cons (λ (s : List ℕ). length s + 1) x xs))))

pub addresses_more : (a : ℕ) (xs : List (List ℕ)) (i : ℕ) → i < length xs → addresses a (take (i + 1) xs) ≡ addresses a (take i xs) ++ (a + strings_size (take i xs)) ∷ []
addresses_more a xs i lt = ap (addresses a) (take_more xs i [] lt) ∙ addresses-append a (take i xs) (get_or xs i [] ∷ [])

length-addresses : (a : ℕ) (xs : List (List ℕ)) → length (addresses a xs) ≡ length xs
length-addresses a [] = refl
length-addresses a (x ∷ xs) = let rest = length-addresses (a + (length x + 1)) xs in omega (arith, rest)

length-words : (image : ImageFields) (args : List (List ℕ)) → length (stack_words image args) ≡ length args + 17
unfolding stack_words
length-words image args =
    omega (arith, length-append (addresses (strings_at args) args) (0 ∷ 0 ∷ auxiliary_vector image), length-addresses (strings_at args) args)

length-low_bytes : (words : List ℕ) → length (flat_map (low_bytes 4) words) ≡ 4 * length words
length-low_bytes [] = refl
length-low_bytes (w ∷ ws) = let rest = length-low_bytes ws in omega (arith, rest)

words_fit : (args : List (List ℕ)) → strings_size args ≤ MOST_STRINGS → stack_pointer_of args + 4 * (length args + 17) ≤ strings_at args
words_fit args few = omega (arith, count-le-size args)

-- the length of one of the strings
pub string_size : (args : List (String Global)) (i : ℕ) (s : String Global) → i < length args → s ≡ get_or args i s → length (get_or (map string_bytes args) i []) ≡ string_len s
string_size args i s lt is = ap length (get_or-map string_bytes args i s [] lt ∙ ap string_bytes (sym is)) ∙ sym s.bytes.ok.0

pub string_within : (args : List (String Global)) (i : ℕ) (s : String Global) → i < length args → s ≡ get_or args i s
    → strings_size (take i (map string_bytes args)) + (string_len s + 1) ≤ strings_size (map string_bytes args)
string_within args i s lt is = omega (arith, size_within (map string_bytes args) i (omega (arith, length-map args string_bytes)), string_size args i s lt is)

-- the words, where the loop over the strings is done
pub words_whole : (image : ImageFields) (args : List (List ℕ)) (count i strings : ℕ) → count ≡ length args → length args ≤ i → strings ≡ strings_at args
    → (count ∷ addresses strings (take i args)) ++ (0 ∷ 0 ∷ auxiliary_vector image) ≡ stack_words image args
unfolding stack_words
words_whole image args count i strings all le at =
    ap (λ l. (count ∷ addresses strings l) ++ (0 ∷ 0 ∷ auxiliary_vector image)) (take_all i args le)
    ∙ ap (λ k. (k ∷ addresses strings args) ++ (0 ∷ 0 ∷ auxiliary_vector image)) all
    ∙ ap (λ a. length args ∷ (addresses a args ++ (0 ∷ 0 ∷ auxiliary_vector image))) at

-- the bytes of a first stack, piece by piece
pub stack_whole : (image : ImageFields) (args : List (List ℕ)) (strings pointer size : ℕ) (words put resized : List ℕ)
    → strings_size args ≤ MOST_STRINGS → strings ≡ strings_at args → pointer ≡ stack_pointer_of args
    → words ≡ stack_words image args → put ≡ flat_map (low_bytes 4) words → size ≡ length put
    → resized ≡ take (strings - pointer) put ++ replicate (strings - pointer - size) 0
    → (resized ++ flat_map with_zero args) ++ random_bytes ≡ first_stack image args
unfolding first_stack
stack_whole image args strings pointer size words put resized few at low is bytes all padded =
    let len : length put ≡ 4 * (length args + 17) = omega (arith, ap length bytes, length-low_bytes words, ap length is, length-words image args) in
    let le : length put ≤ strings - pointer = omega (arith, len, words_fit args few) in
    let padding : strings - pointer - size ≡ padding_size args = omega (arith, len, words_fit args few) in
    append_assoc resized (flat_map with_zero args) random_bytes
    ∙ ap (λ l. l ++ (flat_map with_zero args ++ random_bytes))
    (padded ∙ ap (λ l. l ++ replicate (strings - pointer - size) 0) (take_all (strings - pointer) put le)
    ∙ ap (λ n. put ++ replicate n 0) padding
    ∙ ap (λ l. l ++ replicate (padding_size args) 0) (bytes ∙ ap (flat_map (low_bytes 4)) is))
    ∙ append_assoc (flat_map (low_bytes 4) (stack_words image args)) (replicate (padding_size args) 0) (flat_map with_zero args ++ random_bytes)

length-strings : (args : List (List ℕ)) → length (flat_map with_zero args) ≡ strings_size args
length-strings [] = refl
length-strings (x ∷ xs) =
    omega (arith, length-strings xs, length-append (with_zero x) (flat_map with_zero xs), length-append x (0 ∷ []), sum_by-cons (λ (a : List ℕ). length a + 1) x xs)

-- the bytes reach to the end of the stack
pub length-stack : (image : ImageFields) (args : List (List ℕ)) → strings_size args ≤ MOST_STRINGS → stack_pointer_of args + length (first_stack image args) ≡ 0x7FFFF000
unfolding first_stack
length-stack image args few =
    let zero_byte : ℕ = 0 in
    let words = flat_map (low_bytes 4) (stack_words image args) in
    let zeros = replicate (padding_size args) zero_byte in
    let strings = flat_map with_zero args in
    omega (
      arith,
      words_fit args few,
      length-low_bytes (stack_words image args),
      length-words image args,
      length-replicate (padding_size args) zero_byte,
      length-strings args,
      length-append words (zeros ++ (strings ++ random_bytes)),
      length-append zeros (strings ++ random_bytes),
      length-append strings random_bytes,
    )

-- the machine, field by field
pub machine_whole : (image : ImageFields) (args : List (List ℕ)) (entry pointer : ℕ) (space : Space) (files : Descriptors) → entry ≡ image.entry → pointer ≡ stack_pointer_of args
    → space ≡ with_area (segments_space image.segments) stack_area (stack_pointer_of args) (first_stack image args)
    → files ≡ all_closed → record (at_start entry (slice_set (replicate 32 0) 2 pointer) space) { descriptors = files } ≡ machine_of image args
unfolding machine_of
machine_whole image args entry pointer space files e f g h = cc
