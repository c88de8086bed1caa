-- A guest's memory: its space, and the frames of its pages.
use Rattle.std.specs.Prelude.{Bool, ◌≡◌, ℕ, ◌*◌, ◌<◌, ◌^◌, ◌&&◌, false, true, List, slice_index_or, refl}
use Rattle.std.specs.Coded.{Coded, coded_ℕ, coded_bool, coded_list, coded×, code_by}
use Rattle.cow_pages.specs.Contents.{AgreeOutside, flat}
use Rattle.guest_model.specs.Areas.{is_mapped, holds}
use Rattle.guest_model.specs.Bytes.{byte_at}
use Rattle.guest_model.specs.Space.{Space, space_code}
use Rattle.guest_model.specs.declared.Area.{Area}
use Rattle.guest_model.specs.declared.platform.TheConstants.{PAGE_SIZE}
use Rattle.guest_mem.specs.Frames.{Frames, frames_code}
pub use Rattle.guest_mem.specs.Frames.{free_frames}

pub record Memory : Type 0 where
  pub space : Space
  pub frames : Frames
  -- the byte at each address as it was at the last freeze or fork, 0 where no area held it
  pub origin : List ℕ
  -- for each page, whether it is named as changed since then
  pub changed : List Bool

-- a guest's memory as it was at a freeze
pub record FrozenMemory : Type 0 where
  pub space : Space
  -- for each page, whether it is named as changed since the state that this one came from
  pub changed : List Bool

-- the byte at each address, 0 where no area holds it
unfoldable pub all_bytes : Space → List ℕ
all_bytes s = flat (λ a. byte_at s.bytes a)

-- outside the pages that are marked, the bytes of the space are those of a list of all bytes
abbrev pub IsChangedWithin : List Bool → List ℕ → Space → Type 0
IsChangedWithin changed before s = AgreeOutside changed (all_bytes s) before

-- a page has a frame exactly where it was written and is mapped
abbrev pub HasFramesWhereWritten : Memory → Type 0
HasFramesWhereWritten m =
    (page : ℕ) → page < 2 ^ 20 → slice_index_or m.frames.framed page false ≡ (slice_index_or m.frames.written page false && is_mapped m.space.areas (PAGE_SIZE * page))

-- no area holds an address of this one
abbrev pub IsApart : Area → List Area → Type 0
IsApart x areas = (a : ℕ) → holds x a ≡ true → is_mapped areas a ≡ false

abbrev pub memory_code : Coded Memory
memory_code = code_by (Space × (Frames × (List ℕ × List Bool))) (coded× space_code (coded× frames_code (coded× (coded_list coded_ℕ) (coded_list coded_bool))))
    (λ m. (m.space, (m.frames, (m.origin, m.changed))))
    (λ p. record { space = p.0; frames = p.1.0; origin = p.1.1.0; changed = p.1.1.1 }) (λ _. refl)

abbrev pub frozen_code : Coded FrozenMemory
frozen_code = code_by (Space × List Bool) (coded× space_code (coded_list coded_bool)) (λ m. (m.space, m.changed)) (λ p. record { space = p.0; changed = p.1 }) (λ _. refl)
