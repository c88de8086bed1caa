use Rattle.boundary_verify.proofs.Joins.{joined}
use Rattle.boundary_verify.proofs.laws.pieces_join.Goals as goal

pub returns : goal.returns
returns c = joined
