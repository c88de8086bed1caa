-- A file of a program: its headers, and instructions behind them.
use Rattle.std.specs.Prelude.{◌≡◌, ℕ, List, ◌∷◌, ◌++◌, map, length, replicate, Some}
use Rattle.std.specs.Int.{w16, w32, to_le_bytes}
use Rattle.std.specs.List.{flat_map}
use Rattle.rv_isa.specs.Table.{Fields}
use Rattle.rv_isa.specs.Decoded.{decoded}

abbrev pub half : ℕ → List ℕ
half = to_le_bytes w16

abbrev pub word : ℕ → List ℕ
word = to_le_bytes w32

-- An ELF file header of RISC-V, 32 bits: an executable with this entry and so many program headers behind it.
abbrev pub file_header : ℕ → ℕ → List ℕ
file_header entry headers =
    0x7f ∷ 0x45 ∷ 0x4c ∷ 0x46 ∷ 1 ∷ 1 ∷ 1 ∷ replicate 9 0
    ++ half 2 ++ half 243 ++ word 1 ++ word entry ++ word 52 ++ word 0 ++ word 0
    ++ half 52 ++ half 32 ++ half headers ++ half 40 ++ half 0 ++ half 0

-- A program header: bytes from the file's start on, at this address, with these sizes and flags.
abbrev pub program_header : ℕ → ℕ → ℕ → ℕ → List ℕ
program_header address file_size memory_size flags =
    word 1 ++ word 0 ++ word address ++ word address ++ word file_size ++ word memory_size ++ word flags ++ word 0x1000

-- The headers of a file of this size, which is loaded at 0x10000 to be read and executed, with zeros of this address
-- and size, to be read and written.
abbrev pub headers : ℕ → ℕ → ℕ → List ℕ
headers size zeros zeros_size = file_header 0x10074 2 ++ program_header 0x10000 size size 5 ++ program_header zeros 0 zeros_size 6

-- Behind the bytes `old` stand the words of these instructions, each with its lowest byte first, and nothing more.
pub record Adds (instrs : List Fields) (old new : List ℕ) : Type 0 where
  pub words : List ℕ
  pub spelled : map decoded words ≡ map Some instrs
  pub added : new ≡ old ++ flat_map word words

-- the same, of so many instructions
pub record AddsSome (count : ℕ) (old new : List ℕ) : Type 0 where
  pub instrs : List Fields
  pub number : length instrs ≡ count
  pub adds : Adds instrs old new
