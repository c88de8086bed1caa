use Rattle.insert_points.proofs.Ready.{ready_named}
use Rattle.insert_points.proofs.laws.ready_for_name.Goals as goal

pub returns : goal.returns
returns c = ready_named
