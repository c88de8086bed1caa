use Rattle.prog_gen.proofs.Sizes.{demo_size}
use Rattle.prog_gen.proofs.laws.demo_size.Goals as goal

pub returns : goal.returns
returns c = demo_size
