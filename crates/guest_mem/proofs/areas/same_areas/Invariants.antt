use Rattle.std.proofs.Common.{◌≡◌, ℕ, ◌<◌, get_or}
use Rattle.guest_model.specs.declared.Area.{Area}
use Rattle.guest_mem.proofs.areas.same_areas.Given as goal

abbrev pub invariant-loop-i : goal.invariant-loop-i
invariant-loop-i l = record { same : (k : ℕ) (d : Area) → k < l.i → get_or l.one k d ≡ get_or l.other k d }
