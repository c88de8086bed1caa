use Rattle.std.proofs.Common.{arith}
use Rattle.std.proofs.lemmas.Grind.{common_steps}
use Rattle.frame_pool.proofs.Spares.{nothing_given}
use Rattle.frame_pool.proofs.pool.Pool.new.Goals as goal

pub invariant_of-result : goal.invariant_of-result
invariant_of-result c = record {
  bytes_len = grind (arith, common_steps);
  few = grind (arith, common_steps);
  bound = c.ranges.frames.fits;
  bytes_room = grind (arith, common_steps);
  given_room = grind (arith, common_steps);
  spare_room = grind (arith, common_steps);
  spare = rw (c.in_ok-with_capacity-2.ensures.items, c.in_ok-with_capacity-3.ensures.items) nothing_given;
}
