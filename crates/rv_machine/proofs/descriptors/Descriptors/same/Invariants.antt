use Rattle.std.proofs.Common.{◌≡◌, map, take}
use Rattle.rv_machine.specs.Slots.{file_of}
use Rattle.rv_machine.proofs.descriptors.Descriptors.same.Given as goal

-- those before are the same
abbrev pub invariant-loop-k : goal.invariant-loop-k
invariant-loop-k l = take l.k (map file_of l.self-inside.slots.items) ≡ take l.k (map file_of l.other-inside.slots.items)
