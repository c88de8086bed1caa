-- A guest as callers see it: a machine, and the frames of its memory's pages.
use Rattle.std.specs.Prelude.{Bool, ◌≡◌, ℕ, ◌-◌, ◌<◌, ◌≤◌, ◌^◌, List, min, Result, Ok, Err, refl}
use Rattle.std.specs.Coded.{Coded, coded_ℕ, coded_bool, coded_list, coded×, code_by}
use Rattle.elf_load.specs.Image.{ImageFields}
use Rattle.guest_model.specs.Descriptors.{Descriptors}
use Rattle.guest_model.specs.Machine.{Machine, machine_code}
use Rattle.guest_model.specs.declared.platform.TheConstants.{MOST_STRINGS}
use Rattle.guest_mem.specs.Frames.{Frames, frames_code}
use Rattle.guest_mem.specs.Memory.{Memory, free_frames}
use Rattle.rv_machine.specs.Load.{machine_of, strings_size}
use Rattle.rv_machine.specs.declared.load.LoadFault.{LoadFault}
use Rattle.rv_machine.specs.declared.load.LoadFault.TheVariants.{ArgsTooLong, NoMemory}

pub record GuestState : Type 0 where
  pub machine : Machine
  pub frames : Frames
  -- the byte at each address as it was at the last freeze or fork of the memory
  pub origin : List ℕ
  -- for each page, whether it is named as changed since then
  pub changed : List Bool

-- the memory of a guest
abbrev pub memory_of : GuestState → Memory
memory_of g = record { space = g.machine.space; frames = g.frames; origin = g.origin; changed = g.changed }

-- the guest with another memory
abbrev pub with_memory : GuestState → Memory → GuestState
with_memory g memory = record { machine = record g.machine { space = memory.space }; frames = memory.frames; origin = memory.origin; changed = memory.changed }

-- the guest with other files open
abbrev pub with_descriptors : GuestState → Descriptors → GuestState
with_descriptors g files = record g { machine = record g.machine { descriptors = files } }

abbrev pub guest_code : Coded GuestState
guest_code = code_by (Machine × (Frames × (List ℕ × List Bool))) (coded× machine_code (coded× frames_code (coded× (coded_list coded_ℕ) (coded_list coded_bool))))
    (λ g. (g.machine, (g.frames, (g.origin, g.changed))))
    (λ p. record { machine = p.0; frames = p.1.0; origin = p.1.1.0; changed = p.1.1.1 }) (λ _. refl)

-- what loading answers: the guest at position 0 with so many free frames, or the number of bytes of the strings, which
-- stands still at 2^64 - 1, where they are too many; memory is taken only where they are not
abbrev pub LoadGives : ImageFields → List (List ℕ) → ℕ → Result GuestState LoadFault → Type 0
LoadGives image args frames (Ok guest) = (strings_size args ≤ MOST_STRINGS) × (guest.machine ≡ machine_of image args) × (guest.frames ≡ free_frames frames)
LoadGives image args frames (Err (ArgsTooLong bytes)) = (MOST_STRINGS < strings_size args) × (bytes ≡ min (strings_size args) (2 ^ 64 - 1))
LoadGives image args frames (Err NoMemory) = strings_size args ≤ MOST_STRINGS
