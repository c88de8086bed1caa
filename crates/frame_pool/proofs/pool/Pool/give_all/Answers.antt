use Rattle.std.proofs.Common.{arith}
use Rattle.std.proofs.lemmas.Grind.{common_steps}
use Rattle.frame_pool.proofs.Spares.{nothing_given}
use Rattle.frame_pool.proofs.pool.Pool.give_all.Goals as goal

pub invariant_of-self : goal.invariant_of-self
invariant_of-self c = record {
  bytes_len = grind (arith, common_steps);
  few = grind (arith, common_steps);
  bound = c.self.invariant.bound;
  bytes_room = grind (arith, common_steps);
  given_room = grind (arith, common_steps);
  spare_room = grind (arith, common_steps);
  spare = rw (c.clear-2.ensures.items, c.clear-3.ensures.items) nothing_given;
}
