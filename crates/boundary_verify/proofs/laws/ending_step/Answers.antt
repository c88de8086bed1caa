use Rattle.boundary_verify.proofs.Ends.{ending, ends_once}
use Rattle.boundary_verify.proofs.laws.ending_step.Goals as goal

pub returns-clause-found : goal.returns-clause-found
returns-clause-found c = ending

pub returns-clause-one : goal.returns-clause-one
returns-clause-one c = ends_once
