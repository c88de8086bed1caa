-- How the slots are found: a directory leads to a leaf for each 1,024 pages.
use Rattle.std.specs.Prelude.{◌≡◌, ℕ, ◌+◌, ◌*◌, ◌/◌, ◌%◌, ◌<◌, ◌≤◌, ◌≢◌, List, length, nat_le, slice_index, slice_index_or}
use Rattle.std.specs.List.{count_by}
use Rattle.slot_table.specs.declared.slot.Slot.{Slot}
use Rattle.slot_table.specs.declared.slot.Slot.TheVariants.{Unchanged}

-- the slot of a page, in the leaf to which the directory leads
unfoldable pub entry : List ℕ → List Slot → ℕ → Slot
entry directory leaves page = slice_index_or leaves (1024 * slice_index directory (page / 1024) + page % 1024) Unchanged

-- how many chunks of 1,024 pages have a leaf of their own
unfoldable pub leaf_count : List ℕ → ℕ
leaf_count directory = count_by (nat_le 1) directory

-- each chunk has a leaf, leaf 0 or its own, and nothing stands over the pages of leaf 0
pub record IsSparse (directory : List ℕ) (leaves : List Slot) : Type 0 where
  pub directory_len : length directory ≡ 1024
  pub leaves_len : length leaves ≡ 1024 * (leaf_count directory + 1)
  pub inside : (c : ℕ) → slice_index directory c ≤ leaf_count directory
  pub apart : (c d : ℕ) → slice_index directory c ≢ 0 → slice_index directory c ≡ slice_index directory d → c ≡ d
  pub blank : (i : ℕ) → i < 1024 → slice_index_or leaves i Unchanged ≡ Unchanged
