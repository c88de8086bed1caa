use Rattle.std.proofs.Common.{◌≡◌, ◌*◌, ◌^◌, ◌≤◌, ◌/◌, take}
use Rattle.std.specs.List.{sum_by}
use Rattle.guest_model.specs.Added.{area_size}
use Rattle.guest_mem.proofs.areas.mapped_pages.Given as goal

abbrev pub invariant-loop-area : goal.invariant-loop-area
invariant-loop-area l = record {
  count : l.count ≡ sum_by (λ x. area_size x / 4096) (take l.area-index l.areas);
  bound : l.count ≤ 2 ^ 20 * l.area-index;
}
