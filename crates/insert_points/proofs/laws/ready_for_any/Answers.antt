use Rattle.insert_points.proofs.Ready.{ready_any}
use Rattle.insert_points.proofs.laws.ready_for_any.Goals as goal

pub returns : goal.returns
returns c = ready_any
