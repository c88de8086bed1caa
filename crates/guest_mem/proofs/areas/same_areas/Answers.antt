use Rattle.std.proofs.Common.{false, refl, arith}
use Rattle.std.proofs.lemmas.List.{ext_get_or}
use Rattle.guest_model.specs.declared.Area.{Area}
use Rattle.guest_mem.proofs.areas.same_areas.Goals as goal

abbrev no_area : Area
no_area = record { start = 0; end = 0; read = false; write = false; execute = false }

pub returns : goal.returns
returns c = (λ _. ext_get_or no_area c.args.one.now c.args.other.now (omega arith) (λ k lt. c.loop-i.invariant.same k no_area (omega arith)), λ _. refl)
