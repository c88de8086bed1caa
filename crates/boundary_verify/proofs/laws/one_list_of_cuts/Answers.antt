use Rattle.boundary_verify.proofs.Cuts.{cuts_found, cuts_once, cuts_rise}
use Rattle.boundary_verify.proofs.laws.one_list_of_cuts.Goals as goal

pub returns-clause-found : goal.returns-clause-found
returns-clause-found c = cuts_found

pub returns-clause-order : goal.returns-clause-order
returns-clause-order c = λ limits answers p t cuts. cuts_rise limits answers p t 0 cuts

pub returns-clause-one : goal.returns-clause-one
returns-clause-one c = λ limits answers p t cuts others. cuts_once limits answers p t 0 cuts others
