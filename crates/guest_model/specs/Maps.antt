-- The calls that change which addresses a guest's memory has (Linux, brk(2), mmap(2), munmap(2)).
use Rattle.std.specs.Prelude.{ℕ, ◌+◌, ◌-◌, ◌/◌, ◌%◌, ◌==◌, Bool, not, ◌&&◌, ◌||◌, false, List, [], ◌∷◌, ◌++◌, length, nat_lt, nat_le, bit_and, replicate, if◌then◌else◌}
use Rattle.std.specs.List.{list_any, flat_map}
use Rattle.std.specs.FinMap as flat
use Rattle.guest_model.specs.Added.{mapped_pages, with_area}
use Rattle.guest_model.specs.Areas.{rounded_up}
use Rattle.guest_model.specs.Bytes.{put_bytes}
use Rattle.guest_model.specs.Errors.{failure}
use Rattle.guest_model.specs.Space.{Space}
use Rattle.guest_model.specs.declared.platform.TheConstants.{EINVAL, ENOMEM, MAPS_END, MAPS_START, MOST_AREAS, MOST_PAGES, PAGE_SIZE}
use Rattle.guest_model.specs.declared.Area.{Area}

-- a call's result, and the space after it
pub record Changed : Type 0 where
  pub answer : ℕ
  pub space : Space

abbrev pub unchanged : Space → ℕ → Changed
unchanged s answer = record { answer = answer; space = s }

-- whether the area ends at or below where maps start
abbrev pub ends_low : Area → Bool
ends_low x = nat_le x.end MAPS_START

-- the areas with the heap ended elsewhere: it is the last that ends at or below where maps start
abbrev pub heap_ended : ℕ → List Area → List Area
heap_ended end [] = []
heap_ended end (x ∷ xs) = if list_any ends_low xs then x ∷ heap_ended end xs else record x { end = end } ∷ xs

-- how many bytes of whole pages the heap grows by
abbrev pub growth : Space → ℕ → ℕ
growth s to = rounded_up to - rounded_up s.heap_break

-- the space whose heap grew by zeros up to the page of a break
abbrev pub grown : Space → ℕ → Space
grown s to = record s { bytes = put_bytes s.bytes (rounded_up s.heap_break) (replicate (growth s to) 0); areas = heap_ended (rounded_up to) s.areas; heap_break = to }

-- brk: the break moves up where there is room, and is the result
unfoldable pub grow_of : Space → ℕ → Changed
grow_of s to =
    if nat_le s.heap_break to && nat_le to MAPS_START && nat_le (mapped_pages s.areas + growth s to / PAGE_SIZE) MOST_PAGES
    then record { answer = to; space = grown s to }
    else unchanged s s.heap_break

-- the area of a new map: what may be written may be read (PROT_READ is 1, PROT_WRITE 2)
abbrev pub map_area : ℕ → ℕ → ℕ → Area
map_area start size prot = record { start = start; end = start + size; read = not (bit_and prot 3 == 0); write = not (bit_and prot 2 == 0); execute = false }

-- the space with a new map of zeros
abbrev pub mapped : Space → ℕ → ℕ → Space
mapped s size prot = record (with_area s (map_area s.next_map size prot) s.next_map []) { next_map = s.next_map + size }

-- MAP_PRIVATE 2 and MAP_ANONYMOUS 0x20, not MAP_SHARED 1, not MAP_FIXED 0x10
abbrev pub is_fresh_map : ℕ → Bool
is_fresh_map flags = bit_and flags 0x33 == 0x22

-- mmap2: the result is where the new map starts (PROT_EXEC is 4)
unfoldable pub map_of : Space → ℕ → ℕ → ℕ → Changed
map_of s len prot flags =
    if len == 0 || not (is_fresh_map flags) || not (bit_and prot 4 == 0) then unchanged s (failure EINVAL)
    else if nat_lt MAPS_END (s.next_map + rounded_up len) then unchanged s (failure ENOMEM)
    else if nat_lt MOST_PAGES (mapped_pages s.areas + rounded_up len / PAGE_SIZE) then unchanged s (failure ENOMEM)
    else if nat_le MOST_AREAS (length s.areas) then unchanged s (failure ENOMEM)
    else record { answer = s.next_map; space = mapped s (rounded_up len) prot }

abbrev pub is_in_range : ℕ → ℕ → ℕ → Bool
is_in_range from to a = nat_le from a && nat_lt a to

-- what is left of an area below a range, and above it
abbrev pub left_below : ℕ → Area → List Area
left_below from x = if nat_lt x.start from then record x { end = from } ∷ [] else []

abbrev pub left_above : ℕ → Area → List Area
left_above to x = if nat_lt to x.end then record x { start = to } ∷ [] else []

-- an area that does not meet the range stays as it is
abbrev pub cut : ℕ → ℕ → Area → List Area
cut from to x = if nat_lt x.start to && nat_lt from x.end then left_below from x ++ left_above to x else x ∷ []

unfoldable pub cut_areas : ℕ → ℕ → List Area → List Area
cut_areas from to areas = flat_map (cut from to) areas

-- the space without the addresses of a range
unfoldable pub without_range : Space → ℕ → ℕ → Space
without_range s from to = record s { bytes = flat.retain_keys s.bytes (λ a. not (is_in_range from to a)); areas = cut_areas from to s.areas }

-- munmap: a hole in the range is no fault, and no address of it is handed out again
unfoldable pub unmap_of : Space → ℕ → ℕ → Changed
unmap_of s at len =
    if not (at % PAGE_SIZE == 0) || len == 0 then unchanged s (failure EINVAL)
    else if nat_lt at MAPS_START || nat_lt MAPS_END (at + rounded_up len) then unchanged s (failure EINVAL)
    else if nat_lt MOST_AREAS (length (cut_areas at (at + rounded_up len) s.areas)) then unchanged s (failure ENOMEM)
    else record { answer = 0; space = without_range s at (at + rounded_up len) }
