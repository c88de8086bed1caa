-- The headers of an ELF file of 32 bits, in the terms of the System V ABI: chapter 4, "Object Files" (file
-- header, sections, symbol table), and chapter 5, "Program Loading and Dynamic Linking" (program headers).
-- A field past the end of the file reads as zeros.
use Rattle.std.specs.Prelude.{ℕ, ◌+◌, ◌*◌, ◌%◌, List, map, drop, slice_index}
use Rattle.std.specs.List.{range_with_len}
use Rattle.byteorder.specs.Endian.{little_number}
use Rattle.elf_load.specs.declared.fields.FileHeader.{FileHeader}
use Rattle.elf_load.specs.declared.fields.ProgramHeader.{ProgramHeader}
use Rattle.elf_load.specs.declared.fields.SectionHeader.{SectionHeader}
use Rattle.elf_load.specs.declared.fields.Symbol.{Symbol}

-- Elf32_Half, 2 bytes, and Elf32_Word, Elf32_Addr and Elf32_Off, 4 bytes: the lowest first (ELFDATA2LSB)
unfoldable pub half : List ℕ → ℕ → ℕ
half file at = little_number 2 (drop at file)

unfoldable pub word : List ℕ → ℕ → ℕ
word file at = little_number 4 (drop at file)

-- Elf32_Ehdr, 52 bytes
unfoldable pub file_header : List ℕ → FileHeader
file_header file = record {
  file_type = half file 16;  -- e_type
  machine = half file 18;  -- e_machine
  entry = word file 24;  -- e_entry
  program_headers_at = word file 28;  -- e_phoff
  section_headers_at = word file 32;  -- e_shoff
  flags = word file 36;  -- e_flags
  program_header_size = half file 42;  -- e_phentsize
  program_header_count = half file 44;  -- e_phnum
  section_header_size = half file 46;  -- e_shentsize
  section_header_count = half file 48;  -- e_shnum
}

-- Elf32_Phdr, 32 bytes, at an offset in the file
unfoldable pub program_header_at : List ℕ → ℕ → ProgramHeader
program_header_at file at = record {
  kind = word file at;  -- p_type
  offset = word file (at + 4);  -- p_offset
  address = word file (at + 8);  -- p_vaddr
  file_size = word file (at + 16);  -- p_filesz
  memory_size = word file (at + 20);  -- p_memsz
  flags = word file (at + 24);  -- p_flags
  alignment = word file (at + 28);  -- p_align
}

-- Elf32_Shdr, 40 bytes, at an offset in the file
unfoldable pub section_header_at : List ℕ → ℕ → SectionHeader
section_header_at file at = record {
  kind = word file (at + 4);  -- sh_type
  offset = word file (at + 16);  -- sh_offset
  size = word file (at + 20);  -- sh_size
  link = word file (at + 24);  -- sh_link
  entry_size = word file (at + 36);  -- sh_entsize
}

-- Elf32_Sym, 16 bytes, at an offset in the file. Its type is the low 4 bits of st_info
unfoldable pub symbol_at : List ℕ → ℕ → Symbol
symbol_at file at = record {
  name = word file at;  -- st_name
  value = word file (at + 4);  -- st_value
  kind = slice_index file (at + 12) % 16;  -- ELF32_ST_TYPE(st_info)
  section = half file (at + 14);  -- st_shndx
}

-- the program header at an index of the table
abbrev pub nth_program_header : List ℕ → ℕ → ProgramHeader
nth_program_header file k = program_header_at file ((file_header file).program_headers_at + 32 * k)

-- the program header table
unfoldable pub program_headers : List ℕ → List ProgramHeader
program_headers file = map (nth_program_header file) (range_with_len 0 (file_header file).program_header_count)

-- the section at an index of the section header table
unfoldable pub section : List ℕ → ℕ → SectionHeader
section file k = section_header_at file ((file_header file).section_headers_at + 40 * k)

-- the section header table
unfoldable pub section_headers : List ℕ → List SectionHeader
section_headers file = map (section file) (range_with_len 0 (file_header file).section_header_count)
