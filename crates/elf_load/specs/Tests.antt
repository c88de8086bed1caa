-- The tests that a file must pass before it is loaded, in the terms of the System V ABI, chapters 4 and 5,
-- and of the RISC-V ELF psABI, "File Header". Sums are exact: they do not wrap at 2^32.
use Rattle.std.specs.Prelude.{ℕ, ◌+◌, ◌-◌, ◌*◌, ◌/◌, ◌%◌, ◌==◌, nat_eq, nat_lt, nat_le, Bool, ◌&&◌, ◌||◌, not, if◌then◌else◌, List, [], ◌∷◌, length, take, slice_index, bit_and, Option, Some, None, filter, sum_by, position}
use Rattle.std.specs.List.{starts_with, list_any, enumerate_from}
use Rattle.std.specs.Int.{is_power_of_two}
use Rattle.elf_load.specs.Limits.{page_size, most_headers, user_start, user_end, most_pages, stack_pages}
use Rattle.elf_load.specs.declared.fields.FileHeader.{FileHeader}
use Rattle.elf_load.specs.declared.fields.ProgramHeader.{ProgramHeader}
use Rattle.elf_load.specs.declared.fault.ElfFault.{ElfFault}
use Rattle.elf_load.specs.declared.fault.ElfFault.TheVariants.{TooShort, NotElf, NotElf32Little, NotExec, NotRiscv, Flags, HeaderSizes, TableOutOfFile, Interpreter, SegmentOutOfFile, BadSegment, SharedPage, WritableCode, OutsideUser, TooManyPages, BadEntry}

-- a fault, where a test says that it is there
abbrev pub where_it : Bool → ElfFault → Option ElfFault
where_it test fault = if test then Some fault else None

-- the fault of the element that a search found
abbrev pub at_first : Option ℕ → (ℕ → ElfFault) → Option ElfFault
at_first None fault = None
at_first (Some k) fault = Some (fault k)

-- the first fault of a list of tests
abbrev pub first_fault : List (Option ElfFault) → Option ElfFault
first_fault [] = None
first_fault (None ∷ rest) = first_fault rest
first_fault (Some fault ∷ rest) = Some fault

-- ---- the file header

-- EI_MAG0 to EI_MAG3 are 0x7f, `ELF`
abbrev pub has_magic_number : List ℕ → Bool
has_magic_number file = starts_with nat_eq file (0x7f ∷ 0x45 ∷ 0x4c ∷ 0x46 ∷ [])

-- EI_CLASS is ELFCLASS32, and EI_DATA is ELFDATA2LSB
abbrev pub is_32_bit_little : List ℕ → Bool
is_32_bit_little file = (slice_index file 4 == 1) && (slice_index file 5 == 1)

-- EF_RISCV_RVC (0x1), EF_RISCV_FLOAT_ABI (0x6) or EF_RISCV_RVE (0x8)
abbrev pub has_unsupported_flags : FileHeader → Bool
has_unsupported_flags header = not (bit_and header.flags 0xf == 0)

-- there are program headers, each of 32 bytes, and not too many, and any section headers have 40 bytes
abbrev pub has_header_sizes : FileHeader → Bool
has_header_sizes header =
    (header.program_header_size == 32)
    && nat_le 1 header.program_header_count
    && nat_le header.program_header_count most_headers
    && ((header.section_header_count == 0) || (header.section_header_size == 40))

-- both tables end in a file of this size
abbrev pub has_tables : FileHeader → ℕ → Bool
has_tables header size =
    nat_le (header.program_headers_at + 32 * header.program_header_count) size
    && ((header.section_header_count == 0) || nat_le (header.section_headers_at + 40 * header.section_header_count) size)

-- the tests of the bytes that say what kind of file it is
abbrev pub identification_tests : List ℕ → List (Option ElfFault)
identification_tests file =
    where_it (nat_lt (length file) 52) TooShort
    ∷ where_it (not (has_magic_number file)) NotElf
    ∷ where_it (not (is_32_bit_little file)) NotElf32Little
    ∷ []

-- the tests of the file header, in a file of this size
abbrev pub header_tests : FileHeader → ℕ → List (Option ElfFault)
header_tests header size =
    where_it (not (header.file_type == 2)) NotExec  -- ET_EXEC
    ∷ where_it (not (header.machine == 243)) NotRiscv  -- EM_RISCV
    ∷ where_it (has_unsupported_flags header) (Flags header.flags)
    ∷ where_it (not (has_header_sizes header)) HeaderSizes
    ∷ where_it (not (has_tables header size)) TableOutOfFile
    ∷ []

-- ---- the program headers

-- PT_INTERP (3) or PT_DYNAMIC (2)
abbrev pub is_dynamic : ProgramHeader → Bool
is_dynamic header = (header.kind == 2) || (header.kind == 3)

-- a segment is a program header of type PT_LOAD that takes memory
abbrev pub is_segment : ProgramHeader → Bool
is_segment header = (header.kind == 1) && not (header.memory_size == 0)

-- PF_X (1), PF_W (2)
abbrev pub can_execute : ProgramHeader → Bool
can_execute header = not (bit_and header.flags 1 == 0)

abbrev pub can_write : ProgramHeader → Bool
can_write header = not (bit_and header.flags 2 == 0)

-- its bytes end past a file of this size
abbrev pub ends_past_file : ℕ → ProgramHeader → Bool
ends_past_file size header = nat_lt size (header.offset + header.file_size)

-- it has more bytes in the file than in memory, or its alignment is above 1 and is no power of two or one
-- modulo which the address and the offset differ
abbrev pub is_malformed : ProgramHeader → Bool
is_malformed header =
    nat_lt header.memory_size header.file_size
    || (nat_lt 1 header.alignment
    && (not (is_power_of_two header.alignment) || not (header.address % header.alignment == header.offset % header.alignment)))

-- the numbers of a segment's first and last page, and how many pages it is in
abbrev pub first_page : ProgramHeader → ℕ
first_page header = header.address / page_size

abbrev pub last_page : ProgramHeader → ℕ
last_page header = (header.address + header.memory_size - 1) / page_size

abbrev pub page_count : ProgramHeader → ℕ
page_count header = last_page header + 1 - first_page header

abbrev pub have_page_in_common : ProgramHeader → ProgramHeader → Bool
have_page_in_common a b = nat_le (first_page a) (last_page b) && nat_le (first_page b) (last_page a)

-- it has a page in common with a segment of these
abbrev pub shares_page : List ProgramHeader → ProgramHeader → Bool
shares_page others header = list_any (λ other. is_segment other && have_page_in_common other header) others

-- it begins before the user's memory, or ends behind it
abbrev pub is_outside_user : ProgramHeader → Bool
is_outside_user header = nat_lt header.address user_start || nat_lt user_end (header.address + header.memory_size)

-- the first segment that a test is true of, by its index in the table
unfoldable pub first_segment : (ProgramHeader → Bool) → List ProgramHeader → Option ℕ
first_segment test headers = position (λ header. is_segment header && test header) headers

-- the program header at this index is a segment that shares a page with one before it in the table
abbrev pub is_sharing : List ProgramHeader → ℕ × ProgramHeader → Bool
is_sharing headers (k, header) = is_segment header && shares_page (take k headers) header

unfoldable pub first_sharing : List ProgramHeader → Option ℕ
first_sharing headers = position (is_sharing headers) (enumerate_from 0 headers)

-- the pages of all segments and of the stack are too many
unfoldable pub are_too_many_pages : List ProgramHeader → Bool
are_too_many_pages headers = nat_lt most_pages (sum_by page_count (filter is_segment headers) + stack_pages)

-- the bytes from one address to another are in the segment's memory
abbrev pub holds : ℕ → ℕ → ProgramHeader → Bool
holds from to header = is_segment header && nat_le header.address from && nat_le to (header.address + header.memory_size)

-- the bytes from one address to another are in a segment that can be executed
abbrev pub is_code : ℕ → ℕ → List ProgramHeader → Bool
is_code from to headers = list_any (λ header. can_execute header && holds from to header) headers

-- the entry is a word of a segment that can be executed
unfoldable pub is_entry : ℕ → List ProgramHeader → Bool
is_entry entry headers = (entry % 4 == 0) && is_code entry (entry + 4) headers

-- the tests of the program headers, in a file of this size with this entry
abbrev pub segment_tests : ℕ → ℕ → List ProgramHeader → List (Option ElfFault)
segment_tests size entry headers =
    where_it (list_any is_dynamic headers) Interpreter
    ∷ at_first (first_segment (ends_past_file size) headers) SegmentOutOfFile
    ∷ at_first (first_segment is_malformed headers) BadSegment
    ∷ at_first (first_sharing headers) SharedPage
    ∷ at_first (first_segment (λ header. can_write header && can_execute header) headers) WritableCode
    ∷ at_first (first_segment is_outside_user headers) OutsideUser
    ∷ where_it (are_too_many_pages headers) TooManyPages
    ∷ where_it (not (is_entry entry headers)) BadEntry
    ∷ []
