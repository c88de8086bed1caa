-- A space to which an area is added, and the space with which it begins.
use Rattle.std.specs.Prelude.{ℕ, ◌-◌, ◌/◌, ◌==◌, ◌&&◌, ◌||◌, Bool, true, false, List, [], ◌∷◌, nat_lt, nat_le, replicate}
use Rattle.std.specs.List.{insert, position_or_len, sum_by}
use Rattle.std.specs.FinMap as flat
use Rattle.guest_model.specs.Bytes.{put_bytes}
use Rattle.guest_model.specs.Space.{Space}
use Rattle.guest_model.specs.declared.platform.TheConstants.{MAPS_START, PAGE_SIZE}
use Rattle.guest_model.specs.declared.Area.{Area}

-- the order of areas: by start, then by end
abbrev pub comes_before : Area → Area → Bool
comes_before x y = nat_lt x.start y.start || (x.start == y.start && nat_le x.end y.end)

-- the areas with one more in its place
abbrev pub insert_area : Area → List Area → List Area
insert_area x areas = insert areas (position_or_len (comes_before x) areas) x

-- how many addresses an area has
abbrev pub area_size : Area → ℕ
area_size x = x.end - x.start

-- the space with one more area, which holds the given bytes from `at` on and zeros elsewhere
unfoldable pub with_area : Space → Area → ℕ → List ℕ → Space
with_area s x at given = record s { bytes = put_bytes (put_bytes s.bytes x.start (replicate (area_size x) 0)) at given; areas = insert_area x s.areas }

-- how many pages are mapped
unfoldable pub mapped_pages : List Area → ℕ
mapped_pages areas = sum_by (λ x. area_size x / PAGE_SIZE) areas

-- the heap, as long as it is empty
abbrev pub heap_area : ℕ → Area
heap_area heap = record { start = heap; end = heap; read = true; write = true; execute = false }

-- the space that has the empty heap alone
unfoldable pub empty_space : ℕ → Space
empty_space heap = record { bytes = flat.empty; areas = heap_area heap ∷ []; heap_break = heap; next_map = MAPS_START }
