use Rattle.boundary_verify.proofs.Lines.{calls_add_up, lines_are, lines_once, steps_add_up}
use Rattle.boundary_verify.proofs.laws.lines_of_paths.Goals as goal

pub returns-clause-same : goal.returns-clause-same
returns-clause-same c = λ p t end. lines_are p t end 0

pub returns-clause-one : goal.returns-clause-one
returns-clause-one c = λ p t. lines_once p t 0

pub returns-clause-steps : goal.returns-clause-steps
returns-clause-steps c = steps_add_up

pub returns-clause-calls : goal.returns-clause-calls
returns-clause-calls c = calls_add_up
