use Rattle.std.proofs.Common.{sym, ◌∙◌}
use Rattle.tool_counts.proofs.Tallies.{entries-empty}
use Rattle.tool_counts.proofs.block_profile.BlockProfileTool.start.Goals as goal

pub returns : goal.returns
returns c = c.new.ensures.empty ∙ sym entries-empty
