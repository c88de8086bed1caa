use Rattle.ins_views.proofs.Blocks.{block_by_block}
use Rattle.ins_views.proofs.laws.block_by_block.Goals as goal

pub returns : goal.returns
returns c = block_by_block
