-- The text of a program's code: for each executable segment its words, from the first place that is known to be code.
use Rattle.std.specs.Prelude.{ℕ, ◌+◌, ◌-◌, ◌*◌, ◌/◌, ◌==◌, ◌&&◌, List, [], ◌∷◌, ◌++◌, codes, filter, find, fold, length, map, min, nat_le, unwrap_or, Option, None, Some, if◌then◌else◌}
use Rattle.std.specs.List.{flat_map, range_with_len}
use Rattle.elf_load.specs.Image.{FunctionFields, ImageFields, SegmentFields}
use Rattle.rv_isa.specs.Decoded.{decoded}
use Rattle.rv_isa.specs.Table.{Fields}
use Rattle.rv_isa.specs.Text.{text_of}
use Rattle.ins_views.specs.Memory.{code_of, lies_in, memory_word}
use Rattle.ins_views.specs.Views.{first_word}
use Rattle.sp_report.specs.Digits.{address_text, eight_digits}

-- a name as it is printed: a byte that is no visible character of ASCII is `?`
abbrev pub shown_byte : ℕ → ℕ
shown_byte byte = if nat_le 0x21 byte && nat_le byte 0x7e then byte else 0x3f

abbrev pub shown_name : List ℕ → List ℕ
shown_name name = map shown_byte name

-- the places in a segment that are known to be code: the entry and the starts of routines
abbrev pub known_code : ℕ → List FunctionFields → SegmentFields → List ℕ
known_code entry functions s = filter (λ a. lies_in s.start s.size a) (entry ∷ map (λ f. f.start) functions)

-- the lower of two places, where there is one already
abbrev pub lower : Option ℕ → ℕ → Option ℕ
lower None a = Some a
lower (Some b) a = Some (min b a)

-- the lowest of them, or the segment's start where there is none
abbrev pub lowest_known : ℕ → List FunctionFields → SegmentFields → ℕ
lowest_known entry functions s = unwrap_or (fold lower None (known_code entry functions s)) s.start

-- the address of the first word that is printed, and how many there are: those that lie in the segment's bytes of the file
-- to their last byte
abbrev pub first_shown : ImageFields → SegmentFields → ℕ
first_shown image s = first_word (lowest_known image.entry image.functions s)

abbrev pub count_shown : ImageFields → SegmentFields → ℕ
count_shown image s = (s.start + length s.bytes - first_shown image s) / 4

-- `routine ADDR NAME` stands before a word at whose address a routine starts
abbrev pub routine_line : Option FunctionFields → List ℕ
routine_line None = []
routine_line (Some f) = codes "routine " ++ (address_text f.start ++ (codes " " ++ (shown_name f.name ++ codes "\n")))

abbrev pub instruction_text : Option Fields → List ℕ
instruction_text None = codes "?"
instruction_text (Some i) = text_of i

-- `ADDR WORD TEXT`
abbrev pub word_line : ℕ → ℕ → List ℕ
word_line a word = address_text a ++ (codes " " ++ (eight_digits word ++ (codes " " ++ (instruction_text (decoded word) ++ codes "\n"))))

abbrev pub lines_at : ImageFields → SegmentFields → ℕ → List ℕ
lines_at image s a = routine_line (find (λ f. f.start == a) image.functions) ++ word_line a (memory_word s a)

-- one segment, and all
unfoldable pub segment_text : ImageFields → SegmentFields → List ℕ
segment_text image s = flat_map (λ k. lines_at image s (first_shown image s + 4 * k)) (range_with_len 0 (count_shown image s))

unfoldable pub view_text : ImageFields → List ℕ
view_text image = flat_map (segment_text image) (code_of image)
