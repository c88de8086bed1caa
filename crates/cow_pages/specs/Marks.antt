-- Marks of pages.
use Rattle.std.specs.Prelude.{◌≡◌, ℕ, Bool, true, false, if◌then◌else◌, List, replicate, slice_index_or}
use Rattle.std.specs.List.{count_by}
use Rattle.frame_pool.specs.Bytes.{is_among}

-- no page is marked
unfoldable pub unmarked : ℕ → List Bool
unmarked pages = replicate pages false

abbrev pub is_marked : List Bool → ℕ → Bool
is_marked marks page = slice_index_or marks page false

-- how many pages are marked
unfoldable pub count_marked : List Bool → ℕ
count_marked marks = count_by (λ m. m) marks

-- the n pages from `page` on are marked too
abbrev pub MarksPages : (old new : List Bool) (page n : ℕ) → Type 0
MarksPages old new page n = (p : ℕ) → is_marked new p ≡ (if is_among page n p then true else is_marked old p)
