use Rattle.ins_views.specs.Blocks.{most_words}
use Rattle.ins_views.proofs.Blocks.{run_none}
use Rattle.ins_views.proofs.laws.no_block.Goals as goal

pub returns : goal.returns
returns c = λ views pc e. run_none views most_words pc e
