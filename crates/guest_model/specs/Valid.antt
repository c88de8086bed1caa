-- What holds of every memory of a guest.
use Rattle.std.specs.Prelude.{◌≡◌, ℕ, ◌%◌, ◌^◌, ◌<◌, ◌≤◌, length}
use Rattle.std.specs.List.{All}
use Rattle.guest_model.specs.Added.{mapped_pages}
use Rattle.guest_model.specs.Space.{Space, HasBytesOfAreas}
use Rattle.guest_model.specs.declared.Area.{Area}
use Rattle.guest_model.specs.declared.platform.TheConstants.{MAPS_END, MAPS_START, MOST_AREAS, MOST_PAGES, PAGE_SIZE}

-- an area is whole pages
pub record IsWhole (x : Area) : Type 0 where
  pub start : x.start % PAGE_SIZE ≡ 0
  pub end : x.end % PAGE_SIZE ≡ 0
  pub order : x.start ≤ x.end
  pub fits : x.end < 2 ^ 32

-- the next map starts on a page, between where maps start and where they end
pub record IsMapStart (next_map : ℕ) : Type 0 where
  pub page : next_map % PAGE_SIZE ≡ 0
  pub low : MAPS_START ≤ next_map
  pub high : next_map ≤ MAPS_END

-- the bytes are those of the areas, which are whole pages within the platform's limits
pub record IsSpace (s : Space) : Type 0 where
  pub bytes : HasBytesOfAreas s
  pub whole : All IsWhole s.areas
  pub few_areas : length s.areas ≤ MOST_AREAS
  pub few_pages : mapped_pages s.areas ≤ MOST_PAGES
  pub heap_bound : s.heap_break ≤ MAPS_START
  pub next : IsMapStart s.next_map
