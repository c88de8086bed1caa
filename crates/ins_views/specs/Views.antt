-- What tools see of a program: its executable segments, decoded, and its routines, which are the functions in them.
use Rattle.std.specs.Prelude.{◌≡◌, ℕ, ◌+◌, ◌-◌, ◌*◌, ◌/◌, ◌%◌, ◌≤◌, ◌==◌, Bool, ◌&&◌, List, length, map, find, nat_le, slice_get, Option, None, Some, option_and_then, if◌then◌else◌, All, min, count_by}
use Rattle.std.specs.List.{list_any, range_with_len}
use Rattle.std.specs.List.Sorted.{IsStrictlyIncreasing}
use Rattle.elf_load.specs.Image.{ImageFields, SegmentFields, FunctionFields}
use Rattle.elf_load.specs.Limits.{user_start, user_end}
use Rattle.rv_isa.specs.Decoded.{decoded}
use Rattle.rv_isa.specs.Table.{Fields}
use Rattle.ins_views.specs.Memory.{memory_word, lies_in, code_of}

-- an executable segment: `words` are what its words decode to, from its first address that is a multiple of 4 on. No word
-- behind them decodes
pub record CodeFields : Type 0 where
  pub start : ℕ
  pub size : ℕ
  pub words : List (Option Fields)

pub record ViewFields : Type 0 where
  -- in order of address
  pub code : List CodeFields
  pub routines : List FunctionFields

-- the first multiple of 4 from an address on
abbrev pub first_word : ℕ → ℕ
first_word start = (start + 3) / 4 * 4

-- how many words of a segment have a byte of the file and lie in the segment to their last byte
abbrev pub count_words : SegmentFields → ℕ
count_words s = min ((s.start + s.size - first_word s.start) / 4) ((s.start + length s.bytes - first_word s.start + 3) / 4)

unfoldable pub words_of : SegmentFields → List (Option Fields)
words_of s = map (λ k. decoded (memory_word s (first_word s.start + 4 * k))) (range_with_len 0 (count_words s))

abbrev pub code_view : SegmentFields → CodeFields
code_view s = record { start = s.start; size = s.size; words = words_of s }

-- the views of an image
unfoldable pub views_of : ImageFields → ViewFields
views_of image = record { code = map code_view (code_of image); routines = image.functions }

-- the executable segment in which an address lies
abbrev pub code_at : ViewFields → ℕ → Option CodeFields
code_at views a = find (λ c. lies_in c.start c.size a) views.code

-- the instruction at an address of a segment
abbrev pub word_at : CodeFields → ℕ → Option Fields
word_at c pc = option_and_then (λ word. word) (slice_get c.words ((pc - first_word c.start) / 4))

-- the instruction at pc
unfoldable pub ins_at : ViewFields → ℕ → Option Fields
ins_at views pc = if pc % 4 == 0 then option_and_then (λ c. word_at c pc) (code_at views pc) else None

-- some routine starts in the segment, at or before the address
abbrev pub has_routine : List FunctionFields → CodeFields → ℕ → Bool
has_routine routines c a = list_any (λ f. nat_le c.start f.start && nat_le f.start a) routines

-- the index of the last routine that starts at or before an address, where one starts so in this segment
abbrev pub routine_in : List FunctionFields → ℕ → CodeFields → Option ℕ
routine_in routines a c = if has_routine routines c a then Some (count_by (λ f. nat_le f.start a) routines - 1) else None

-- the same in the segment in which the address lies
unfoldable pub routine_of : ViewFields → ℕ → Option ℕ
routine_of views a = option_and_then (routine_in views.routines a) (code_at views a)

-- a segment lies in the user's memory, and has no more words than that has room for
pub record IsCode (c : CodeFields) : Type 0 where
  pub above : user_start ≤ c.start
  pub below : c.start + c.size ≤ user_end
  pub fits : first_word c.start + 4 * length c.words ≤ c.start + c.size + 3

-- routines are in order of address, one at each, in the user's memory
pub record AreRoutines (routines : List FunctionFields) : Type 0 where
  pub rising : IsStrictlyIncreasing (map (λ f. f.start) routines)
  pub user : All (λ f. f.start + 1 ≤ user_end) routines

-- what holds of all views
pub record IsViews (views : ViewFields) : Type 0 where
  pub code : All IsCode views.code
  pub routines : AreRoutines views.routines

-- an instruction stands at a multiple of 4 and ends in the user's memory
pub record IsPlaced (pc : ℕ) : Type 0 where
  pub aligned : pc % 4 ≡ 0
  pub below : pc + 4 ≤ user_end
