use Rattle.boundary_verify.specs.Lines.{IsLineOf}
use Rattle.boundary_verify.specs.Pieces.{IsPiece}
use Rattle.boundary_verify.proofs.Joins.{path_more, paths_all}
use Rattle.boundary_verify.proofs.laws.paths_one_by_one.Goals as goal

pub returns-clause-pieces : goal.returns-clause-pieces
returns-clause-pieces g = λ p e c cuts pieces items. path_more IsPiece p 0 e c cuts pieces items

pub returns-clause-all_pieces : goal.returns-clause-all_pieces
returns-clause-all_pieces g = λ p t e cuts pieces items. paths_all IsPiece p t 0 e cuts pieces items

pub returns-clause-lines : goal.returns-clause-lines
returns-clause-lines g = λ p e c cuts lines line. path_more IsLineOf p 0 e c cuts lines line

pub returns-clause-all_lines : goal.returns-clause-all_lines
returns-clause-all_lines g = λ p t e cuts lines line. paths_all IsLineOf p t 0 e cuts lines line
