-- What holds of the fields of every space.
use Rattle.std.specs.Prelude.{◌≡◌, ℕ, ◌*◌, ◌^◌, ◌<◌, ◌≤◌, ◌⊎◌, ◌==◌, Bool, ◌&&◌, ◌||◌, false, true, List, [], ◌∷◌, length, if◌then◌else◌, slice_index, slice_index_or}
use Rattle.std.specs.List.{All, list_any}
use Rattle.guest_model.specs.Added.{mapped_pages}
use Rattle.guest_model.specs.Areas.{is_mapped, is_permitted, rounded_up}
use Rattle.guest_model.specs.Maps.{ends_low, is_in_range}
use Rattle.guest_model.specs.Valid.{IsWhole, IsMapStart}
use Rattle.guest_model.specs.declared.platform.TheConstants.{MAPS_END, MAPS_START, MOST_PAGES}
use Rattle.guest_model.specs.declared.Area.{Area}
use Rattle.guest_model.specs.declared.Access.{Access}
use Rattle.guest_model.specs.declared.Access.TheVariants.{Read, Write, Execute}
use Rattle.guest_mem.specs.declared.rights.Rights.{Rights}
use Rattle.cow_pages.specs.Contents.{Contents}
use Rattle.cow_pages.specs.Frames.{AddUp}

abbrev pub allows : Access → Rights → Bool
allows Read rights = rights.read
allows Write rights = rights.write
allows Execute rights = rights.execute

-- what may be done in a page of no area
abbrev pub no_rights : Rights
no_rights = record { read = false; write = false; execute = false }

-- the table of rights tells of each page what the areas permit
pub record HasRights (areas : List Area) (rights : List Rights) : Type 0 where
  pub each : (access : Access) (page : ℕ) → page < 2 ^ 20 → allows access (slice_index_or rights page no_rights) ≡ is_permitted access areas (4096 * page)

-- an area ends at or below where maps start, or stands from there on
abbrev pub IsOnOneSide : Area → Type 0
IsOnOneSide x = (x.end ≤ MAPS_START) ⊎ (MAPS_START ≤ x.start)

-- whether there is a heap, the last area that ends at or below where maps start, and it ends there
abbrev pub heap_ends : ℕ → List Area → Bool
heap_ends end [] = false
heap_ends end (x ∷ xs) = if list_any ends_low xs then heap_ends end xs else x.end == end

-- whether the address is one at which the heap will grow, or maps will stand
abbrev pub is_unused : ℕ → ℕ → ℕ → Bool
is_unused heap_break next_map a = is_in_range (rounded_up heap_break) MAPS_START a || is_in_range next_map MAPS_END a

-- whether the address is one of the range, and an area holds it
abbrev pub is_cut : ℕ → ℕ → List Area → ℕ → Bool
is_cut from to areas a = is_in_range from to a && is_mapped areas a

pub record IsSound (areas : List Area) (rights : List Rights) (pages : Contents) (heap_break next_map : ℕ) : Type 0 where
  pub whole : All IsWhole areas
  pub few_pages : mapped_pages areas ≤ MOST_PAGES
  pub table : HasRights areas rights
  pub pages_len : length pages.flat_bytes ≡ 2 ^ 32
  pub rest_zero : (a : ℕ) → is_mapped areas a ≡ false → slice_index pages.flat_bytes a ≡ 0
  pub framed_len : length pages.frames.framed ≡ 2 ^ 20
  pub written_len : length pages.frames.written ≡ 2 ^ 20
  pub framed_where : (page : ℕ) → page < 2 ^ 20 → slice_index_or pages.frames.framed page false ≡ (slice_index_or pages.frames.written page false && is_mapped areas (4096 * page))
  pub sides : All IsOnOneSide areas
  pub heap_bound : heap_break ≤ MAPS_START
  pub heap : heap_ends (rounded_up heap_break) areas ≡ true
  pub next : IsMapStart next_map
  -- no area stands where the heap will grow, nor where maps will, and nothing was written there
  pub unused_free : (a : ℕ) → is_unused heap_break next_map a ≡ true → is_mapped areas a ≡ false
  pub unused_unwritten : (page : ℕ) → is_unused heap_break next_map (4096 * page) ≡ true → slice_index_or pages.frames.written page false ≡ false
  -- each frame is given or free
  pub adds_up : AddUp pages.frames
