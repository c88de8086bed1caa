use Rattle.std.proofs.Common.{◌≡◌, take}
use Rattle.guest_mem.proofs.areas.copied.Given as goal

abbrev pub invariant-loop-area : goal.invariant-loop-area
invariant-loop-area l = record { copied : l.copy.items ≡ take l.area-index l.areas }
