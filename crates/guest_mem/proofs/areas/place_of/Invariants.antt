use Rattle.std.proofs.Common.{◌≡◌, take}
use Rattle.std.specs.List.{position_or_len}
use Rattle.guest_model.specs.Added.{comes_before}
use Rattle.guest_mem.proofs.areas.place_of.Given as goal

abbrev pub invariant-loop-i : goal.invariant-loop-i
invariant-loop-i l = position_or_len (comes_before l.area) (take l.i l.areas) ≡ l.i
