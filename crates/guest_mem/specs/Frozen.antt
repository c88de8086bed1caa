-- What holds of the fields of a frozen memory.
use Rattle.std.specs.Prelude.{◌^◌, ◌≤◌, length}
use Rattle.std.specs.List.{All}
use Rattle.std.specs.Arc.{arc_value}
use Rattle.cow_pages.specs.Contents.{pages_over}
use Rattle.guest_mem.specs.Code.{IsKept}
use Rattle.guest_mem.specs.Mapped.{space_over}
use Rattle.guest_mem.specs.Memory.{FrozenMemory}
use Rattle.guest_mem.specs.Sound.{IsSound}
use Rattle.guest_mem.specs.declared.frozen.FrozenSpace.TheInside.{Inside}

-- what callers see of the fields
abbrev pub frozen_memory_of : Inside → FrozenMemory
frozen_memory_of s = record { space = space_over s.areas.items s.pages.bytes s.heap_break s.next_map; changed = s.pages.changed }

pub record IsFrozen (s : Inside) : Type 0 where
  -- it is as that of a space of which no page was changed, without frames
  pub sound : IsSound s.areas.items (arc_value s.rights).items (pages_over s.pages.bytes 0) s.heap_break s.next_map
  pub few_rights : length (arc_value s.rights).items ≤ 2 ^ 20
  pub code : All (IsKept s.areas.items s.pages.bytes) s.code
