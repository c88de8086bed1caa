use Rattle.weave_core.proofs.Merges.{closed_is_merged, ended}
use Rattle.weave_core.proofs.laws.closed_is_over.Goals as goal

pub returns-clause-merged : goal.returns-clause-merged
returns-clause-merged c = closed_is_merged

pub returns-clause-ended : goal.returns-clause-ended
returns-clause-ended c = ended
