-- The symbol table (System V ABI, chapter 4, "Symbol Table" and "String Table") and the functions that it
-- names.
use Rattle.std.specs.Prelude.{ℕ, ◌+◌, ◌*◌, ◌/◌, ◌%◌, ◌==◌, nat_le, Bool, false, ◌&&◌, ◌||◌, not, if◌then◌else◌, List, [], ◌∷◌, length, drop, map, slice_range, take_while, find, Option, Some, None}
use Rattle.std.specs.List.{list_any, range_with_len, filter_map}
use Rattle.std.specs.Option.{option_map_or}
use Rattle.std.specs.Ordering.{nat_cmp}
use Rattle.std.specs.BTreeMap.{insert_entry}
use Rattle.elf_load.specs.declared.fields.ProgramHeader.{ProgramHeader}
use Rattle.elf_load.specs.declared.fields.SectionHeader.{SectionHeader}
use Rattle.elf_load.specs.declared.fields.Symbol.{Symbol}
use Rattle.elf_load.specs.Header.{file_header, section, section_headers, symbol_at}
use Rattle.elf_load.specs.Image.{FunctionFields, name_at}
use Rattle.elf_load.specs.Tests.{is_code}

-- the first section of type SHT_SYMTAB
unfoldable pub symbol_table : List ℕ → Option SectionHeader
symbol_table file = find (λ section. section.kind == 2) (section_headers file)

-- the section's bytes end past a file of this size
abbrev pub section_ends_past_file : ℕ → SectionHeader → Bool
section_ends_past_file size section = not (nat_le (section.offset + section.size) size)

-- the symbol at an index of a table, in which each has 16 bytes
abbrev pub nth_symbol : List ℕ → SectionHeader → ℕ → Symbol
nth_symbol file table k = symbol_at file (table.offset + 16 * k)

-- the symbols of a table
unfoldable pub symbols : List ℕ → SectionHeader → List Symbol
symbols file table = map (nth_symbol file table) (range_with_len 0 (table.size / 16))

-- the bytes of a section
abbrev pub section_bytes : List ℕ → SectionHeader → List ℕ
section_bytes file section = slice_range file section.offset (section.offset + section.size)

-- the names of a table's symbols, the bytes of the section that it is linked to
unfoldable pub names : List ℕ → SectionHeader → List ℕ
names file table = section_bytes file (section file table.link)

-- a function in use: of type STT_FUNC, and not of section SHN_UNDEF
abbrev pub is_function : Symbol → Bool
is_function symbol = (symbol.kind == 2) && not (symbol.section == 0)

-- a zero byte ends the symbol's name
abbrev pub has_name : List ℕ → Symbol → Bool
has_name names symbol = list_any (λ byte. byte == 0) (drop symbol.name names)

-- a function in use whose name has no end
abbrev pub is_unnamed : List ℕ → Symbol → Bool
is_unnamed names symbol = is_function symbol && not (has_name names symbol)

-- the table is no whole number of symbols of 16 bytes, or ends past the file, or is linked to no section
abbrev pub is_malformed_table : List ℕ → SectionHeader → Bool
is_malformed_table file table =
    not (table.size % 16 == 0)
    || not (table.entry_size == 16)
    || section_ends_past_file (length file) table
    || nat_le (file_header file).section_header_count table.link

-- the section of names is not of type SHT_STRTAB, or ends past the file
abbrev pub are_malformed_names : List ℕ → SectionHeader → Bool
are_malformed_names file strings = not (strings.kind == 3) || section_ends_past_file (length file) strings

-- the table, its names, or the name of a function is malformed
unfoldable pub is_bad_table : List ℕ → SectionHeader → Bool
is_bad_table file table =
    is_malformed_table file table
    || are_malformed_names file (section file table.link)
    || list_any (is_unnamed (names file table)) (symbols file table)

-- there is a symbol table, and it is bad
unfoldable pub are_bad_symbols : List ℕ → Bool
are_bad_symbols file = option_map_or (is_bad_table file) (symbol_table file) false

-- entries in order of address: of several at one address the first of the list
unfoldable pub by_address : {X : Type 0} → List (ℕ × X) → List (ℕ × X)
by_address [] = []
by_address ((address, x) ∷ rest) = insert_entry nat_cmp (by_address rest) address x

-- the address of a function in use in code, with the offset of its name
abbrev pub function_entry : List ProgramHeader → Symbol → Option (ℕ × ℕ)
function_entry headers symbol = if is_function symbol && is_code symbol.value (symbol.value + 1) headers then Some (symbol.value, symbol.name) else None

-- the function at an address, with the name that begins at an offset of a string table
abbrev pub function_named : List ℕ → ℕ × ℕ → FunctionFields
function_named table (start, at) = record { start = start; name = name_at table at }

-- the functions in use in code that a table names, in order of address
unfoldable pub table_functions : List ℕ → List ProgramHeader → SectionHeader → List FunctionFields
table_functions file headers table = map (function_named (names file table)) (by_address (filter_map (function_entry headers) (symbols file table)))

-- the functions of a file, none where it has no symbol table
unfoldable pub functions : List ℕ → List ProgramHeader → List FunctionFields
functions file headers = option_map_or (table_functions file headers) (symbol_table file) []
