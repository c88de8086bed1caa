use Rattle.std.proofs.Common.{◌∙◌}
use Rattle.prog_gen.proofs.Seeds.{state_first}
use Rattle.prog_gen.proofs.draws.Draws.new.Goals as goal

pub invariant_of-result : goal.invariant_of-result
invariant_of-result c = record { is_state = c.from.ensures ∙ state_first c.args.seed }
