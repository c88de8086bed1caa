use Rattle.std.proofs.Common.{◌∙◌, sym}
use Rattle.tool_law.proofs.Lengths.{block_absent}
use Rattle.tool_law.proofs.plan.block_length.Goals as goal

pub returns-in-None : goal.returns-in-None
returns-in-None c = block_absent c.args.views.now c.args.pc (sym c.block_at.ensures ∙ c.in-None.is)
