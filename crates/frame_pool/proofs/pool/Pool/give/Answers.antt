use Rattle.std.proofs.Common.{◌≡◌, ◌∙◌, ap, cond, false, true, length, arith, get_or, ◌==◌}
use Rattle.std.proofs.Math.ListN.{length-set}
use Rattle.std.proofs.lemmas.Grind.{common_steps}
use Rattle.frame_pool.proofs.Rules.{given_in, spare_few, given-set}
use Rattle.frame_pool.proofs.Spares.{given_back}
use Rattle.frame_pool.proofs.pool.Pool.give.Goals as goal
use Rattle.frame_pool.proofs.pool.Pool.give.Goals.{After-self}

-- the frame is handed out, as the fields say it
given : (c : After-self) → get_or c.self.inside.given.items c.frame.inside.index false ≡ true
given c = ap (λ k. get_or c.self.inside.given.items k false) c.frame.view_is ∙ ap (λ v. get_or v.given c.args.frame false) c.self.view_is ∙ c.requires

pub index_mut-requires : goal.index_mut-requires
index_mut-requires c =
    let lt = given_in c.self.inside.given.items c.frame.inside.index (given (goal.at.index_mut-requires c).After-self) in
    grind (arith, common_steps)

pub push_reserved-requires : goal.push_reserved-requires
push_reserved-requires c =
    let few = spare_few c.self.inside.given.items c.frame.inside.index (length c.self.inside.spare.items) (given (goal.at.push_reserved-requires c).After-self) c.self.invariant.spare.adds_up in
    grind (arith, common_steps)

pub invariant_of-self : goal.invariant_of-self
invariant_of-self c =
    let len = length-set c.self.inside.given.items c.frame.inside.index false in
    record {
      bytes_len = omega (arith, len, c.self.invariant.bytes_len);
      few = omega (arith, len, c.self.invariant.few);
      bound = c.self.invariant.bound;
      bytes_room = c.self.invariant.bytes_room;
      given_room = c.self.invariant.given_room;
      spare_room = omega (arith, c.push_reserved.ensures.capacity, c.self.invariant.spare_room);
      spare = rw c.push_reserved.ensures.items (given_back c.self.inside.given.items c.self.inside.spare.items c.frame.inside.index (given (goal.at.invariant_of-self c).After-self) c.self.invariant.spare);
    }

pub returns-clause-given : goal.returns-clause-given
returns-clause-given c = λ g.
    given-set c.self.inside.given.items c.frame.inside.index false (given_in c.self.inside.given.items c.frame.inside.index (given (goal.at.returns-clause-given c).After-self)) g
    ∙ ap (λ k. cond (g == k) false (get_or c.self.inside.given.items g false)) c.frame.view_is
    ∙ ap (λ v. cond (g == c.args.frame) false (get_or v.given g false)) c.self.view_is
