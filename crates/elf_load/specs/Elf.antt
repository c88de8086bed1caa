-- What a file loads to: the first fault of its tests, or its image.
use Rattle.std.specs.Prelude.{ℕ, ◌+◌, ◌-◌, ◌*◌, nat_le, Bool, ◌&&◌, List, [], ◌∷◌, ◌++◌, length, map, filter, find, slice_range, bit_and, Option}
use Rattle.std.specs.Map.{values_of}
use Rattle.std.specs.Option.{option_map_or}
use Rattle.elf_load.specs.declared.fields.FileHeader.{FileHeader}
use Rattle.elf_load.specs.declared.fields.ProgramHeader.{ProgramHeader}
use Rattle.elf_load.specs.declared.fault.ElfFault.{ElfFault}
use Rattle.elf_load.specs.declared.fault.ElfFault.TheVariants.{BadSymbols}
use Rattle.elf_load.specs.Header.{file_header, program_headers}
use Rattle.elf_load.specs.Image.{ImageFields, SegmentFields}
use Rattle.elf_load.specs.Symbols.{are_bad_symbols, by_address, functions}
use Rattle.elf_load.specs.Tests.{first_fault, where_it, is_segment, identification_tests, header_tests, segment_tests}

-- the fault of the first test that a file fails
unfoldable pub refusal_of : List ℕ → Option ElfFault
refusal_of file =
    first_fault (identification_tests file
    ++ header_tests (file_header file) (length file)
    ++ segment_tests (length file) (file_header file).entry (program_headers file)
    ++ where_it (are_bad_symbols file) BadSymbols ∷ [])

-- the segment of a program header, with its bytes in the file and the flags PF_X, PF_W and PF_R
abbrev pub segment_of : List ℕ → ProgramHeader → SegmentFields
segment_of file header = record {
  start = header.address;
  size = header.memory_size;
  flags = bit_and header.flags 7;
  bytes = slice_range file header.offset (header.offset + header.file_size);
}

-- the headers of the segments, in order of address
unfoldable pub in_order : List ProgramHeader → List ProgramHeader
in_order headers = values_of (by_address (map (λ header. (header.address, header)) (filter is_segment headers)))

-- the segment's bytes in the file hold the program header table
abbrev pub holds_table : FileHeader → ProgramHeader → Bool
holds_table file header =
    is_segment header
    && nat_le header.offset file.program_headers_at
    && nat_le (file.program_headers_at + 32 * file.program_header_count) (header.offset + header.file_size)

-- the address of the program header table in the first segment that holds it, or 0
unfoldable pub table_address : FileHeader → List ProgramHeader → ℕ
table_address file headers = option_map_or (λ header. header.address + (file.program_headers_at - header.offset)) (find (holds_table file) headers) 0

-- the image of a file that passes the tests
unfoldable pub image_of : List ℕ → ImageFields
image_of file = record {
  entry = (file_header file).entry;
  phdr = table_address (file_header file) (program_headers file);
  phnum = (file_header file).program_header_count;
  segments = map (segment_of file) (in_order (program_headers file));
  functions = functions file (program_headers file);
}
