-- The loaded program: the machine at position 0, from an image and the argument strings. Its segments lie where the file
-- says (System V ABI, chapter 5, "Program Loading"), and its stack holds the strings and what names them (System V ABI,
-- "Process Initialization"; Linux, getauxval(3)).
use Rattle.std.specs.Prelude.{ℕ, ◌+◌, ◌-◌, ◌*◌, ◌/◌, List, [], ◌∷◌, ◌++◌, length, map, true, false, max, replicate, slice_set, sum_by}
use Rattle.std.specs.List.{flat_map, fold, range_with_len}
use Rattle.elf_load.specs.Image.{ImageFields, SegmentFields, is_readable, is_writable, is_executable}
use Rattle.guest_model.specs.Areas.{rounded_down, rounded_up}
use Rattle.guest_model.specs.Bytes.{low_bytes}
use Rattle.guest_model.specs.Space.{Space}
use Rattle.guest_model.specs.Added.{empty_space, with_area}
use Rattle.guest_model.specs.Machine.{Machine, at_start}
use Rattle.guest_model.specs.declared.Area.{Area}
use Rattle.guest_model.specs.declared.platform.TheConstants.{PAGE_SIZE, RANDOM_SIZE, STACK_END, STACK_START}

-- the whole pages that a segment is in, with its permissions
abbrev pub area_of : SegmentFields → Area
area_of s = record { start = rounded_down s.start; end = rounded_up (s.start + s.size); read = is_readable s; write = is_writable s; execute = is_executable s }

-- the space with one more segment: its bytes in the file from its start on, and zeros elsewhere
abbrev pub with_segment : Space → SegmentFields → Space
with_segment space s = with_area space (area_of s) s.start s.bytes

-- where the heap begins: the greatest end of a segment, rounded up to a page
abbrev pub first_break : List SegmentFields → ℕ
first_break segments = fold max 0 (map (λ s. (area_of s).end) segments)

-- the segments and an empty heap behind them
unfoldable pub segments_space : List SegmentFields → Space
segments_space segments = fold with_segment (empty_space (first_break segments)) segments

-- the strings lie in order, each with a zero byte behind it
abbrev pub with_zero : List ℕ → List ℕ
with_zero string = string ++ 0 ∷ []

-- how many bytes they are
abbrev pub strings_size : List (List ℕ) → ℕ
strings_size args = sum_by (λ a. length a + 1) args

-- behind them lie the 16 bytes of AT_RANDOM, here 0 to 15
abbrev pub random_at : ℕ
random_at = STACK_END - RANDOM_SIZE

abbrev pub random_bytes : List ℕ
random_bytes = range_with_len 0 RANDOM_SIZE

abbrev pub strings_at : List (List ℕ) → ℕ
strings_at args = random_at - strings_size args

-- the address of each string, the first of which is at a
abbrev pub addresses : ℕ → List (List ℕ) → List ℕ
addresses a [] = []
addresses a (s ∷ ss) = a ∷ addresses (a + (length s + 1)) ss

-- the auxiliary vector, seven pairs of a type and a value
abbrev pub auxiliary_vector : ImageFields → List ℕ
auxiliary_vector image =
    3 ∷ image.phdr  -- AT_PHDR
    ∷ 4 ∷ 32  -- AT_PHENT
    ∷ 5 ∷ image.phnum  -- AT_PHNUM
    ∷ 6 ∷ PAGE_SIZE  -- AT_PAGESZ
    ∷ 9 ∷ image.entry  -- AT_ENTRY
    ∷ 25 ∷ random_at  -- AT_RANDOM
    ∷ 0 ∷ 0  -- AT_NULL
    ∷ []

-- the words from the stack pointer on: argc, the addresses of the strings and a zero, the zero that ends an empty
-- environment, and the auxiliary vector
unfoldable pub stack_words : ImageFields → List (List ℕ) → List ℕ
stack_words image args = length args ∷ (addresses (strings_at args) args ++ (0 ∷ 0 ∷ auxiliary_vector image))

-- the first address below the strings where those words have room, rounded down to a multiple of 16 (RISC-V ELF psABI,
-- "Integer Calling Convention")
abbrev pub stack_pointer_of : List (List ℕ) → ℕ
stack_pointer_of args = (strings_at args - 4 * (length args + 17)) / 16 * 16

-- the zeros between the words and the strings
abbrev pub padding_size : List (List ℕ) → ℕ
padding_size args = strings_at args - (stack_pointer_of args + 4 * (length args + 17))

-- the bytes from the stack pointer to the end of the stack
unfoldable pub first_stack : ImageFields → List (List ℕ) → List ℕ
first_stack image args = flat_map (low_bytes 4) (stack_words image args) ++ (replicate (padding_size args) 0 ++ (flat_map with_zero args ++ random_bytes))

abbrev pub stack_area : Area
stack_area = record { start = STACK_START; end = STACK_END; read = true; write = true; execute = false }

-- the registers at position 0: x2 is the stack pointer, the others are 0
abbrev pub first_registers : List (List ℕ) → List ℕ
first_registers args = slice_set (replicate 32 0) 2 (stack_pointer_of args)

unfoldable pub machine_of : ImageFields → List (List ℕ) → Machine
machine_of image args =
    at_start image.entry (first_registers args) (with_area (segments_space image.segments) stack_area (stack_pointer_of args) (first_stack image args))
