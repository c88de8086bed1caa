use Rattle.guest_model.specs.Runs.{Running}
use Rattle.guest_model.specs.Serial.{step_of}
use Rattle.guest_model.proofs.Runs.{running_earlier}
use Rattle.boundary_verify.proofs.Matches.{match_between, match_last}
use Rattle.boundary_verify.proofs.laws.boundaries_are_exact.Goals as goal

pub returns-clause-between : goal.returns-clause-between
returns-clause-between c = λ p t end b k h before within. match_between p b k _ _ end h.over (running_earlier step_of k t (Running p) within h.position) before

pub returns-clause-last : goal.returns-clause-last
returns-clause-last c = λ p t end b. match_last p b t end
