-- The decoded words of an image against its loaded memory.
use Rattle.std.proofs.Common.{◌≡◌, ◌+◌, ◌-◌, ◌*◌, ◌/◌, ◌%◌, ◌≤◌, ◌<◌, ◌∙◌, ◌==◌, ℕ, Bool, true, false, List, [], ◌∷◌, length, map, ap, arith, refl, sym, inl, inr, if◌then◌else◌}
use Rattle.std.specs.Prelude.{◌⊎◌, Option, None, Some, find, slice_get, option_and_then}
use Rattle.std.specs.Option.{option_map}
use Rattle.std.proofs.lemmas.Bool.{cases_lt}
use Rattle.std.proofs.lemmas.Bool.Decides.{nat_tests}
use Rattle.std.proofs.lemmas.List.{get_or_past}
use Rattle.std.proofs.lemmas.List.FromFn.{get_or-map-range_with_len}
use Rattle.std.proofs.lemmas.Option.{slice_get-get_or, slice_get_past}
use Rattle.elf_load.specs.Image.{ImageFields, SegmentFields}
use Rattle.rv_isa.specs.Decoded.{decoded}
use Rattle.rv_isa.specs.Table.{Fields}
use Rattle.ins_views.specs.Memory.{code_of, has_word, instruction_in, instruction_of, lies_in, memory_byte, memory_word}
use Rattle.ins_views.specs.Views.{code_view, count_words, first_word, ins_at, views_of, word_at, words_of}
use Rattle.ins_views.proofs.Shapes.{find-holds, length-words_of}

-- a word of zeros decodes to none
zeros : decoded 0 ≡ None
unfolding decoded
zeros = refl

-- a byte behind those of the file is zero, and so is a word of them
byte_behind : (s : SegmentFields) (a : ℕ) → s.start + length s.bytes ≤ a → memory_byte s a ≡ 0
byte_behind s a h = get_or_past s.bytes (a - s.start) 0 (omega arith)

word_behind : (s : SegmentFields) (a : ℕ) → s.start + length s.bytes ≤ a → memory_word s a ≡ 0
unfolding memory_word
word_behind s a h = rw (byte_behind s a h, byte_behind s (a + 1) (omega arith), byte_behind s (a + 2) (omega arith), byte_behind s (a + 3) (omega arith)) refl

-- the words that are kept are those that lie in the segment, but for some that decode to none
kept_word : (s : SegmentFields) (k : ℕ) → k < count_words s → slice_get (words_of s) k ≡ Some (decoded (memory_word s (first_word s.start + 4 * k)))
unfolding words_of
kept_word s k h =
    let f : ℕ → Option Fields = λ n. decoded (memory_word s (first_word s.start + 4 * n)) in
    slice_get-get_or (words_of s) k None (rw (length-words_of s) h) ∙ ap (λ o. Some o) (get_or-map-range_with_len f 0 (count_words s) k k None h (omega arith))

word_is : (s : SegmentFields) (pc : ℕ) → lies_in s.start s.size pc ≡ true → pc % 4 ≡ 0 → word_at (code_view s) pc ≡ instruction_in s pc
word_is s pc lies aligned =
    let start : s.start ≤ pc = grind (arith, nat_tests) in
    let k = (pc - first_word s.start) / 4 in
    let place : first_word s.start + 4 * k ≡ pc = omega arith in
    go k place (cases_lt k (count_words s))
  where
    inside : (k : ℕ) → first_word s.start + 4 * k ≡ pc → k < count_words s → has_word s pc ≡ true
    inside k place h = let below : pc + 4 ≤ s.start + s.size = omega arith in grind (arith, nat_tests)

    behind : (k : ℕ) → first_word s.start + 4 * k ≡ pc → count_words s ≤ k → (t : Bool) → has_word s pc ≡ t → (if t then decoded (memory_word s pc) else None) ≡ None
    behind k place h true e =
        let below : pc + 4 ≤ s.start + s.size = grind (arith, nat_tests) in
        let far : s.start + length s.bytes ≤ pc = omega arith in
        rw (word_behind s pc far) zeros
    behind k place h false e = refl

    is_word : (pc % 4 == 0) ≡ true
    is_word = grind (arith, nat_tests)

    go : (k : ℕ) → first_word s.start + 4 * k ≡ pc → (k < count_words s) ⊎ (count_words s ≤ k)
        → option_and_then (λ word. word) (slice_get (words_of s) k) ≡ instruction_in s pc
    go k place (inl h) = rw (kept_word s k h, is_word, inside k place h, place) refl
    go k place (inr h) = rw (slice_get_past (words_of s) k (rw (length-words_of s) h), is_word) (sym (behind k place h (has_word s pc) refl))

-- a search in what f makes of each element
find-map : {X Y : Type 0} (f : X → Y) (p : Y → Bool) (xs : List X) → find p (map f xs) ≡ option_map f (find (λ x. p (f x)) xs)
find-map f p [] = refl
find-map f p (x ∷ xs) = go (p (f x)) refl (find-map f p xs)
  where
    go : (t : Bool) → p (f x) ≡ t → find p (map f xs) ≡ option_map f (find (λ x. p (f x)) xs) → find p (map f (x ∷ xs)) ≡ option_map f (find (λ x. p (f x)) (x ∷ xs))
    go true e rest = rw e refl
    go false e rest = rw e rest

none_in : (s : SegmentFields) (pc : ℕ) → (pc % 4 == 0) ≡ false → instruction_in s pc ≡ None
none_in s pc e = rw e refl

ins_in : (o : Option SegmentFields) (pc : ℕ) → (t : Bool) → (pc % 4 == 0) ≡ t → ((s : SegmentFields) → o ≡ Some s → lies_in s.start s.size pc ≡ true)
    → (if t then option_and_then (λ c. word_at c pc) (option_map code_view o) else None) ≡ option_and_then (λ s. instruction_in s pc) o
ins_in None pc true e h = refl
ins_in None pc false e h = refl
ins_in (Some s) pc true e h = word_is s pc (h s refl) (grind (arith, nat_tests))
ins_in (Some s) pc false e h = sym (none_in s pc e)

pub instructions : (image : ImageFields) (pc : ℕ) → ins_at (views_of image) pc ≡ instruction_of image pc
unfolding ins_at views_of instruction_of
instructions image pc =
    rw (find-map code_view (λ c. lies_in c.start c.size pc) (code_of image))
    (ins_in (find (λ s. lies_in s.start s.size pc) (code_of image)) pc (pc % 4 == 0) refl (λ s e. find-holds (λ x. lies_in x.start x.size pc) (code_of image) s e))
