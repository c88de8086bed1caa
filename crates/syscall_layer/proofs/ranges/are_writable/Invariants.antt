use Rattle.std.proofs.Common.{◌≡◌, true, take}
use Rattle.std.specs.List.{list_all}
use Rattle.guest_model.specs.Areas.{is_range_permitted}
use Rattle.guest_model.specs.declared.Access.TheVariants.{Write}
use Rattle.syscall_layer.proofs.ranges.are_writable.Given as goal

abbrev pub invariant-loop-range : goal.invariant-loop-range
invariant-loop-range l = list_all (λ p. is_range_permitted Write l.space.space.areas p.at p.size) (take l.range-index l.ranges) ≡ true
