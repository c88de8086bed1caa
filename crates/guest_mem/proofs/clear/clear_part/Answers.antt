use Rattle.std.proofs.Common.{arith}
use Rattle.std.proofs.lemmas.Bool.Decides.{nat_tests}
use Rattle.guest_mem.proofs.clear.clear_part.Goals as goal

pub returns-clause-rights : goal.returns-clause-rights
returns-clause-rights c = λ page. let filled = c.fill.ensures page in grind (arith, nat_tests)
