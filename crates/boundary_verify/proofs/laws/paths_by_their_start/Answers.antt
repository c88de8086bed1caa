use Rattle.boundary_verify.proofs.Ends.{last_by_start, path_by_start}
use Rattle.boundary_verify.proofs.laws.paths_by_their_start.Goals as goal

pub returns-clause-between : goal.returns-clause-between
returns-clause-between c = path_by_start

pub returns-clause-last : goal.returns-clause-last
returns-clause-last c = last_by_start
