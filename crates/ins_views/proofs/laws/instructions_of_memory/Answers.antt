use Rattle.ins_views.proofs.Instructions.{instructions}
use Rattle.ins_views.proofs.laws.instructions_of_memory.Goals as goal

pub returns : goal.returns
returns c = instructions
