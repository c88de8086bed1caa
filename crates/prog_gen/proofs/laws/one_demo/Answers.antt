use Rattle.prog_gen.proofs.OneFile.{one_demo}
use Rattle.prog_gen.proofs.laws.one_demo.Goals as goal

pub returns : goal.returns
returns c = one_demo
