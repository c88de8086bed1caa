use Rattle.tool_counts.proofs.Tallies.{get-none}
use Rattle.tool_counts.proofs.block_profile.BlockProfileTool.begin.Goals as goal

pub returns : goal.returns
returns c = λ q. get-none _ q c.new.ensures.empty
