-- Code that is kept decoded: words that stand one after the other where they may be executed, and no store can change them.
use Rattle.std.specs.Prelude.{◌≡◌, ℕ, ◌+◌, ◌-◌, ◌*◌, ◌/◌, ◌%◌, ◌^◌, ◌<◌, ◌≤◌, pos, Bool, ◌&&◌, not, nat_le, true, false, List, [], ◌∷◌, ◌++◌, length, map, if◌then◌else◌, Option, slice_index, slice_index_or}
use Rattle.std.specs.List.{All, range_with_len}
use Rattle.std.specs.Option.{option_map, unwrap_or}
use Rattle.rv_isa.specs.Decoded.{decoded}
use Rattle.rv_isa.specs.Table.{Fields}
use Rattle.rv_isa.specs.declared.op.Op.TheVariants.{Ebreak}
use Rattle.cow_pages.specs.Contents.{Contents}
use Rattle.guest_model.specs.Areas.{is_permitted}
use Rattle.guest_model.specs.Bytes.{number_of}
use Rattle.guest_model.specs.Space.{Space, read_number}
use Rattle.guest_model.specs.declared.Area.{Area}
use Rattle.guest_model.specs.declared.Access.TheVariants.{Write, Execute}
use Rattle.guest_model.specs.declared.platform.TheConstants.{MAPS_START}
use Rattle.guest_mem.specs.Sound.{IsSound}
use Rattle.guest_mem.specs.declared.rights.Rights.{Rights}

-- the instructions of the words from `start` on
pub record CodeFields : Type 0 where
  pub start : ℕ
  pub entries : List Fields

-- the entry of a word: its instruction, or an ebreak where it has none
abbrev pub look_again : Fields
look_again = record { op = Ebreak; rd = 0; rs1 = 0; rs2 = 0; imm = pos 0 }

abbrev pub entry_of : Option Fields → Fields
entry_of o = unwrap_or o look_again

-- the word at a place of a list of bytes, the lowest byte first
unfoldable pub word_in : List ℕ → ℕ → ℕ
word_in bytes k = number_of (slice_index bytes k ∷ slice_index bytes (k + 1) ∷ slice_index bytes (k + 2) ∷ slice_index bytes (k + 3) ∷ [])

-- the first multiple of 4 from an address on
abbrev pub first_word : ℕ → ℕ
first_word at = (at + 3) / 4 * 4

-- the code of bytes that stand from an address on: their whole words, from the first multiple of 4 on
abbrev pub entries_of : List ℕ → ℕ → List Fields
entries_of bytes skipped = map (λ k. entry_of (decoded (word_in bytes (skipped + 4 * k)))) (range_with_len 0 ((length bytes - skipped) / 4))

abbrev pub code_of : ℕ → List ℕ → CodeFields
code_of at bytes = record { start = first_word at; entries = entries_of bytes (first_word at - at) }

abbrev pub no_code : CodeFields
no_code = record { start = 0; entries = [] }

-- an entry of the code, an ebreak behind the last
abbrev pub kept_entry : CodeFields → ℕ → Fields
kept_entry code k = slice_index_or code.entries k look_again

-- the byte at an address may be executed and not written
pub record IsFixed (areas : List Area) (a : ℕ) : Type 0 where
  pub executed : is_permitted Execute areas a ≡ true
  pub unwritten : is_permitted Write areas a ≡ false

-- the code is the entries of the words of these bytes of all addresses, and its bytes are fixed. It lies below where maps
-- start, so that no call changes them either
pub record IsKept (areas : List Area) (all : List ℕ) (code : CodeFields) : Type 0 where
  pub end : code.start + 4 * length code.entries ≤ MAPS_START
  pub fixed : (a : ℕ) → code.start ≤ a → a < code.start + 4 * length code.entries → IsFixed areas a
  pub decodes : (k : ℕ) → k < length code.entries → kept_entry code k ≡ entry_of (decoded (word_in all (code.start + 4 * k)))

-- whether an area's bytes are code that no store changes, nor a call
abbrev pub holds_code : Area → Bool
holds_code x = x.execute && (not x.write && nat_le x.end MAPS_START)

-- the code that is kept once an area is added with these bytes
abbrev pub codes_with : Area → ℕ → List ℕ → List CodeFields → List CodeFields
codes_with x at bytes codes = if holds_code x then codes ++ code_of at bytes ∷ [] else codes

-- the instruction is the entry of an address of the code, and does not say to look again
pub record IsKeptAt (code : CodeFields) (a : ℕ) (i : Fields) : Type 0 where
  pub k : ℕ
  pub within : k < length code.entries
  pub at : a ≡ (code.start + 4 * k) % 2 ^ 32
  pub is : kept_entry code k ≡ i
  pub other : i.op ≡ Ebreak → ⊥

-- the same of one of these
pub record IsKeptAmong (codes : List CodeFields) (a : ℕ) (i : Fields) : Type 0 where
  pub j : ℕ
  pub within : j < length codes
  pub at : (d : CodeFields) → IsKeptAt (slice_index_or codes j d) a i

-- what the word at an address decodes to, where its bytes may be executed
abbrev pub word_at : Space → ℕ → Option (Option Fields)
word_at s a = option_map decoded (read_number Execute s a 4)

-- what holds of the fields of every space with its code
pub record IsSoundWith (areas : List Area) (rights : List Rights) (pages : Contents) (heap_break next_map : ℕ) (codes : List CodeFields) : Type 0 where
  pub sound : IsSound areas rights pages heap_break next_map
  pub code : All (IsKept areas pages.flat_bytes) codes
