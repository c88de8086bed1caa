use Rattle.slice_ring.proofs.CoreMoves.{publishes_move, claims_move, finishes_move, merges_move, closes_move}
use Rattle.slice_ring.proofs.laws.steps_are_moves.Goals as goal

pub returns-clause-publish : goal.returns-clause-publish
returns-clause-publish g c = publishes_move g.J.Numbered.ticket g.R.Numbered.ticket

pub returns-clause-claim : goal.returns-clause-claim
returns-clause-claim g c = claims_move g.J.Numbered.ticket g.R.Numbered.ticket

pub returns-clause-finish : goal.returns-clause-finish
returns-clause-finish g c = finishes_move g.J.Numbered.ticket g.R.Numbered.ticket

pub returns-clause-merge : goal.returns-clause-merge
returns-clause-merge g c = merges_move g.J.Numbered.ticket g.R.Numbered.ticket

pub returns-clause-close : goal.returns-clause-close
returns-clause-close g c = closes_move g.J.Numbered.ticket g.R.Numbered.ticket
