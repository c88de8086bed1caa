-- The instructions of an image, as a machine finds them in its loaded memory.
use Rattle.std.specs.Prelude.{ℕ, ◌+◌, ◌-◌, ◌%◌, ◌==◌, Bool, ◌&&◌, List, [], ◌∷◌, filter, find, nat_le, nat_lt, slice_index, Option, None, option_and_then, if◌then◌else◌}
use Rattle.elf_load.specs.Image.{ImageFields, SegmentFields, is_executable}
use Rattle.guest_model.specs.Bytes.{number_of}
use Rattle.rv_isa.specs.Decoded.{decoded}
use Rattle.rv_isa.specs.Table.{Fields}

-- the byte at an address of a segment: of the file, or zero behind the bytes of the file
abbrev pub memory_byte : SegmentFields → ℕ → ℕ
memory_byte s a = slice_index s.bytes (a - s.start)

-- the word there (RISC-V unprivileged manual, "Base Instruction-Length Encoding": its lowest byte stands first)
unfoldable pub memory_word : SegmentFields → ℕ → ℕ
memory_word s a = number_of (memory_byte s a ∷ memory_byte s (a + 1) ∷ memory_byte s (a + 2) ∷ memory_byte s (a + 3) ∷ [])

-- the address lies in the segment
abbrev pub lies_in : ℕ → ℕ → ℕ → Bool
lies_in start size a = nat_le start a && nat_lt a (start + size)

-- the word at an address of the segment lies in it to its last byte
abbrev pub has_word : SegmentFields → ℕ → Bool
has_word s a = nat_le (a + 4) (s.start + s.size)

-- the instruction at an address of a segment
abbrev pub instruction_in : SegmentFields → ℕ → Option Fields
instruction_in s pc = if (pc % 4 == 0) && has_word s pc then decoded (memory_word s pc) else None

abbrev pub code_of : ImageFields → List SegmentFields
code_of image = filter is_executable image.segments

-- the instruction at pc: none where pc is no multiple of 4 whose word lies in one executable segment and decodes
unfoldable pub instruction_of : ImageFields → ℕ → Option Fields
instruction_of image pc = option_and_then (λ s. instruction_in s pc) (find (λ s. lies_in s.start s.size pc) (code_of image))
