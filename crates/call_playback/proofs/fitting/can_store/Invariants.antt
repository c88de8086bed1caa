use Rattle.std.proofs.Common.{◌≡◌, ◌==◌, ◌&&◌, true, length, take}
use Rattle.std.specs.Prelude.{not}
use Rattle.std.specs.List.{list_all}
use Rattle.guest_model.specs.Areas.{is_range_permitted}
use Rattle.guest_model.specs.declared.Access.TheVariants.{Write}
use Rattle.call_playback.proofs.fitting.can_store.Given as goal

abbrev pub invariant-loop-write : goal.invariant-loop-write
invariant-loop-write l = list_all (λ s. not (length s.bytes == 0) && is_range_permitted Write l.space.space.areas s.at (length s.bytes)) (take l.write-index l.writes) ≡ true
