-- Frames laid over shared pages.
use Rattle.std.specs.Prelude.{◌≡◌, ℕ, ◌+◌, ◌*◌, ◌/◌, ◌%◌, ◌^◌, true, List, length, slice_index}
use Rattle.frame_pool.specs.PoolState.{PoolState, is_given}
use Rattle.page_table.specs.Table.{Table, page_at}
use Rattle.slot_table.specs.declared.slot.Slot.{Slot}
use Rattle.slot_table.specs.declared.slot.Slot.TheVariants.{Unchanged, Placed, Dropped, Framed}
use Rattle.slot_table.specs.Slots.{is_framed, marks_by, slot_at}
use Rattle.cow_pages.specs.Marks.{count_marked}

-- the byte of a shared page, 0 where it is not in the table
unfoldable pub table_byte : Table → ℕ → ℕ
table_byte table a = slice_index (page_at table (a / 4096)) (a % 4096)

-- the byte at an address, by what stands over its page
abbrev pub laid_byte : Slot → List ℕ → Table → ℕ → ℕ
laid_byte Unchanged frames table a = table_byte table a
laid_byte Placed frames table a = table_byte table a
laid_byte (Dropped written) frames table a = 0
laid_byte (Framed frame) frames table a = slice_index frames (4096 * frame + a % 4096)

abbrev pub byte_in : List Slot → List ℕ → Table → ℕ → ℕ
byte_in slots frames table a = laid_byte (slot_at slots (a / 4096)) frames table a

-- each page that has a frame has one of its own, which is handed out, and the others are free
pub record IsLaid (slots : List Slot) (pool : PoolState) : Type 0 where
  pub len : length slots ≡ 2 ^ 20
  pub given : (p f : ℕ) → slot_at slots p ≡ Framed f → is_given pool f ≡ true
  pub apart : (p q f : ℕ) → slot_at slots p ≡ Framed f → slot_at slots q ≡ Framed f → p ≡ q
  pub adds_up : count_marked (marks_by is_framed slots) + pool.free ≡ pool.count
