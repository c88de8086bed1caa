use Rattle.tool_counts.proofs.BlockSums.{adds_up}
use Rattle.tool_counts.proofs.laws.blocks_add_up.Goals as goal

pub returns : goal.returns
returns c = λ views start last n status is fresh ends known. adds_up views is n start last status fresh ends known
