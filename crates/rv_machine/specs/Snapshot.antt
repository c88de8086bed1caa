-- A guest's machine as it was at one moment, as callers see it.
use Rattle.std.specs.Prelude.{Bool, ℕ, ◌^◌, List, refl}
use Rattle.std.specs.Coded.{Coded, coded_bool, coded_list, coded×, code_by}
use Rattle.cow_pages.specs.Marks.{unmarked}
use Rattle.guest_model.specs.Machine.{Machine, machine_code}
use Rattle.guest_mem.specs.Memory.{all_bytes, free_frames}
use Rattle.rv_machine.specs.Guest.{GuestState}

pub record SnapshotState : Type 0 where
  pub machine : Machine
  -- for each page, whether it is named as changed since the snapshot before
  pub changed : List Bool

abbrev pub snapshot_code : Coded SnapshotState
snapshot_code = code_by (Machine × List Bool) (coded× machine_code (coded_list coded_bool)) (λ s. (s.machine, s.changed)) (λ p. record { machine = p.0; changed = p.1 }) (λ _. refl)

-- the guest that goes on from a snapshot, with so many free frames
abbrev pub guest_from : SnapshotState → ℕ → GuestState
guest_from s frames = record { machine = s.machine; frames = free_frames frames; origin = all_bytes s.machine.space; changed = unmarked (2 ^ 20) }
