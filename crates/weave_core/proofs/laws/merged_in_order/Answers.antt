use Rattle.weave_core.proofs.Merges.{merged_in_order}
use Rattle.weave_core.proofs.laws.merged_in_order.Goals as goal

pub returns : goal.returns
returns c = λ limit moves _. merged_in_order limit moves
