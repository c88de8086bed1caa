use Rattle.boundary_verify.proofs.Cuts.{cut_more, cuts_all}
use Rattle.boundary_verify.proofs.laws.cuts_one_by_one.Goals as goal

pub returns-clause-more : goal.returns-clause-more
returns-clause-more g = λ limits answers p e c cuts. cut_more limits answers p 0 e c cuts

pub returns-clause-all : goal.returns-clause-all
returns-clause-all g = λ limits answers p t e cuts. cuts_all limits answers p t 0 e cuts
