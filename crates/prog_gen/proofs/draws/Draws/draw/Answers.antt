use Rattle.prog_gen.proofs.Seeds.{state_next}
use Rattle.prog_gen.proofs.draws.Draws.draw.Goals as goal

pub invariant_of-self : goal.invariant_of-self
invariant_of-self c =
    let d = c.args.self.now in
    record { is_state = state_next d.seed d.made d.x d.is_state }
