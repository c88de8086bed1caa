use Rattle.tool_counts.proofs.Mixes.{none}
use Rattle.tool_counts.proofs.op_mix.OpMixTool.begin.Goals as goal

pub returns : goal.returns
returns c = none
