use Rattle.boundary_verify.proofs.Matches.{within}
use Rattle.boundary_verify.proofs.laws.matches_within.Goals as goal

pub returns : goal.returns
returns c = within
