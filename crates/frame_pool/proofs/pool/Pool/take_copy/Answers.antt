use Rattle.std.proofs.Common.{[], ◌∷◌, ◌++◌, ◌≡◌, ◌+◌, ◌/◌, ◌%◌, ◌==◌, ◌<◌, ◌∙◌, ap, cond, true, get_or, length, arith}
use Rattle.std.proofs.Math.ListN.{length-set}
use Rattle.std.proofs.lemmas.Grind.{common_steps}
use Rattle.frame_pool.specs.Spare.{AreSpare}
use Rattle.frame_pool.proofs.Rules.{bytes-add}
use Rattle.frame_pool.proofs.Spares.{handed_out, handed_new}
use Rattle.frame_pool.proofs.pool.Pool.take_copy.Goals as goal

pub invariant_of-self : goal.invariant_of-self
invariant_of-self c =
    let parts : c.self.inside.spare.items ≡ c.pop.new.self.items ++ c.in-Some.index ∷ [] = grind (arith, common_steps) in
    let len = length-set c.self.inside.given.items c.in-Some.index true in
    record {
      bytes_len = omega (arith, len, c.fill_frame.ensures.len, c.self.invariant.bytes_len);
      few = omega (arith, len, c.self.invariant.few);
      bound = c.self.invariant.bound;
      bytes_room = omega (arith, c.fill_frame.ensures.capacity, c.self.invariant.bytes_room);
      given_room = c.self.invariant.given_room;
      spare_room = omega (arith, c.pop.ensures.capacity, c.self.invariant.spare_room);
      spare = handed_out c.self.inside.given.items c.self.inside.spare.items c.pop.new.self.items c.in-Some.index parts c.self.invariant.spare;
    }

pub invariant_of-self-then-index-self : goal.invariant_of-self-then-index-self
invariant_of-self-then-index-self c =
    let none : c.self.inside.spare.items ≡ c.pop.new.self.items = grind (arith, common_steps) in
    let more : length c.push_reserved.new.self.items ≡ length c.self.inside.given.items + 1 = grind (arith, common_steps) in
    let bytes : length c.add_bytes.new.bytes.items ≡ length c.self.inside.bytes.items + 4096 = grind (arith, common_steps, c.requires) in
    let here : c.len-index.result ≡ length c.self.inside.given.items = grind (arith, common_steps) in
    let left : length c.self.inside.given.items < c.self.inside.count = grind (arith, common_steps) in
    let spare : AreSpare c.self.inside.given.items c.pop.new.self.items = rw none at c.self.invariant.spare in
    record {
      bytes_len = omega (arith, more, bytes, c.self.invariant.bytes_len);
      few = omega (arith, more, left, c.self.invariant.few);
      bound = c.self.invariant.bound;
      bytes_room = omega (arith, c.add_bytes.ensures.capacity, c.self.invariant.bytes_room);
      given_room = omega (arith, c.push_reserved.ensures.capacity, c.self.invariant.given_room);
      spare_room = omega (arith, c.pop.ensures.capacity, c.self.invariant.spare_room);
      spare = rw c.push_reserved.ensures.items (handed_new c.self.inside.given.items c.pop.new.self.items spare);
    }

pub returns-then-index-self-clause-bytes : goal.returns-then-index-self-clause-bytes
returns-then-index-self-clause-bytes c = λ k.
    let here : c.len-index.result ≡ length c.self.inside.given.items = grind (arith, common_steps) in
    ap (λ l. get_or l k 0) c.add_bytes.ensures.items
    ∙ bytes-add c.self.inside.bytes.items c.args.source.now c.len-index.result (omega (arith, here, c.self.invariant.bytes_len)) c.requires k
    ∙ ap (λ v. cond (k / 4096 == c.len-index.result) (get_or c.args.source.now (k % 4096) 0) (get_or v.bytes k 0)) c.self.view_is
