use Rattle.boundary_verify.proofs.Rules.{cut_by_rule}
use Rattle.boundary_verify.proofs.laws.cuts_by_rule.Goals as goal

pub returns : goal.returns
returns c = λ limits answers p t s cuts. cut_by_rule limits answers p t 0 s cuts
