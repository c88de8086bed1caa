-- What stands over each page, and what that says of the page.
use Rattle.std.specs.Prelude.{ℕ, ◌^◌, Bool, true, false, List, map, slice_index_or}
use Rattle.std.specs.List.{range_with_len}
use Rattle.slot_table.specs.declared.slot.Slot.{Slot}
use Rattle.slot_table.specs.declared.slot.Slot.TheVariants.{Unchanged, Placed, Dropped, Framed}

-- what stands over a page
abbrev pub slot_at : List Slot → ℕ → Slot
slot_at slots page = slice_index_or slots page Unchanged

-- whether the page was placed, written or dropped
abbrev pub is_changed : Slot → Bool
is_changed Unchanged = false
is_changed Placed = true
is_changed (Dropped written) = true
is_changed (Framed frame) = true

-- whether the page was written, also if it was dropped then
abbrev pub is_written : Slot → Bool
is_written Unchanged = false
is_written Placed = false
is_written (Dropped written) = written
is_written (Framed frame) = true

-- whether the page has a frame
abbrev pub is_framed : Slot → Bool
is_framed Unchanged = false
is_framed Placed = false
is_framed (Dropped written) = false
is_framed (Framed frame) = true

-- for each page, whether its slot is such
unfoldable pub marks_by : (Slot → Bool) → List Slot → List Bool
marks_by is_such slots = map is_such slots

-- what f gives for each page
unfoldable pub sheet : (ℕ → Slot) → List Slot
sheet f = map f (range_with_len 0 (2 ^ 20))

-- nothing stands over any page
unfoldable pub all_unchanged : List Slot
all_unchanged = sheet (λ _. Unchanged)
