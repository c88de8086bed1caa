use Rattle.std.proofs.Common.{arith}
use Rattle.guest_model.specs.Play.{written_at}
use Rattle.boundary_verify.specs.Cuts.{writes_at}
use Rattle.boundary_verify.specs.Path.{script_of}
use Rattle.boundary_verify.proofs.Along.{path_along, writes_alike}
use Rattle.boundary_verify.proofs.Joins.{writes_last}
use Rattle.boundary_verify.proofs.Matches.{path_follows}
use Rattle.boundary_verify.proofs.laws.paths_follow_the_run.Goals as goal

pub returns-clause-positions : goal.returns-clause-positions
returns-clause-positions c = λ p b e k there within. path_follows p b e k there (omega arith)

pub returns-clause-writes : goal.returns-clause-writes
returns-clause-writes c = λ p b e k there within. path_along writes_at (written_at (script_of p b e)) p b e k (writes_alike (script_of p b e)) there (omega arith)

pub returns-clause-last : goal.returns-clause-last
returns-clause-last c = λ p t end b. writes_last p b t end
