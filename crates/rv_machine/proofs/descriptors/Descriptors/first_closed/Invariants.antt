use Rattle.std.proofs.Common.{◌≡◌, map}
use Rattle.guest_model.specs.Descriptors.{first_closed}
use Rattle.rv_machine.specs.Slots.{file_of}
use Rattle.rv_machine.proofs.Slots.{first_from}
use Rattle.rv_machine.proofs.descriptors.Descriptors.first_closed.Given as goal

-- the places behind are left
abbrev pub invariant-loop-place : goal.invariant-loop-place
invariant-loop-place l = first_closed (map file_of l.self-inside.slots.items) ≡ first_from (map file_of l.self-inside.slots.items) l.place
