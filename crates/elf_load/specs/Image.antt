-- What an executable asks to be loaded: segments and functions.
use Rattle.std.specs.Prelude.{◌≡◌, ℕ, ◌+◌, ◌-◌, ◌/◌, ◌%◌, ◌<◌, ◌≤◌, ◌==◌, nat_le, Bool, ◌&&◌, not, true, false, List, length, drop, map, take_while, bit_and, sum_by, All, AllPairs}
use Rattle.std.specs.List.{list_any}
use Rattle.std.specs.List.Sorted.{IsStrictlyIncreasing}
use Rattle.elf_load.specs.Limits.{page_size, most_headers, user_start, user_end, most_pages, stack_pages}

-- a segment: `bytes` stand at address `start`, and zeros behind them up to `size` bytes. Its flags are
-- those of the program header, PF_X 1, PF_W 2 and PF_R 4
pub record SegmentFields : Type 0 where
  pub start : ℕ
  pub size : ℕ
  pub flags : ℕ
  pub bytes : List ℕ

-- where a segment may lie: in the user's memory, and with no more bytes than it has room for
pub record IsSegment (s : SegmentFields) : Type 0 where
  pub some : 1 ≤ s.size
  pub above : user_start ≤ s.start
  pub below : s.start + s.size ≤ user_end
  pub fits : length s.bytes ≤ s.size

-- it can be read (PF_R), written (PF_W), executed (PF_X)
abbrev pub is_readable : SegmentFields → Bool
is_readable s = not (bit_and s.flags 4 == 0)

abbrev pub is_executable : SegmentFields → Bool
is_executable s = not (bit_and s.flags 1 == 0)

abbrev pub is_writable : SegmentFields → Bool
is_writable s = not (bit_and s.flags 2 == 0)

-- the numbers of its first and last page, and how many pages it is in
abbrev pub first_page_of : SegmentFields → ℕ
first_page_of s = s.start / page_size

abbrev pub last_page_of : SegmentFields → ℕ
last_page_of s = (s.start + s.size - 1) / page_size

abbrev pub pages_of : SegmentFields → ℕ
pages_of s = last_page_of s + 1 - first_page_of s

-- the bytes from one address to another are in a segment that can be executed
abbrev pub is_in_code : ℕ → ℕ → List SegmentFields → Bool
is_in_code from to segments = list_any (λ s. is_executable s && (nat_le s.start from && nat_le to (s.start + s.size))) segments

-- the name that begins at an offset of a string table, up to its final zero byte
abbrev pub name_at : List ℕ → ℕ → List ℕ
name_at table at = take_while (λ byte. not (byte == 0)) (drop at table)

-- a function of the symbol table: the address of its first instruction, and the bytes of its name
pub record FunctionFields : Type 0 where
  pub start : ℕ
  pub name : List ℕ

-- an image: the address of its first instruction, the address and length of its program header table,
-- its segments and its functions
pub record ImageFields : Type 0 where
  pub entry : ℕ
  pub phdr : ℕ
  pub phnum : ℕ
  pub segments : List SegmentFields
  pub functions : List FunctionFields

-- what holds of each image: its few segments are in order of address and have no page in common, none can be
-- both written and executed, and their pages with those of the stack are not too many. The entry is a
-- word of code, and the functions are in order of address, one at each, in code
pub record IsImage (i : ImageFields) : Type 0 where
  pub segments : All IsSegment i.segments
  pub few : length i.segments ≤ most_headers
  pub apart : AllPairs (λ a b. last_page_of a < first_page_of b) i.segments
  pub fixed : All (λ s. (is_writable s && is_executable s) ≡ false) i.segments
  pub pages : sum_by pages_of i.segments + stack_pages ≤ most_pages
  pub aligned : i.entry % 4 ≡ 0
  pub entry : is_in_code i.entry (i.entry + 4) i.segments ≡ true
  pub rising : IsStrictlyIncreasing (map (λ f. f.start) i.functions)
  pub code : All (λ f. is_in_code f.start (f.start + 1) i.segments ≡ true) i.functions
