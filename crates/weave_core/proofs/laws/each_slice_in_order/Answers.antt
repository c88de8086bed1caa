use Rattle.weave_core.proofs.Courses.{in_order, stands_at}
use Rattle.weave_core.proofs.laws.each_slice_in_order.Goals as goal

pub returns-clause-order : goal.returns-clause-order
returns-clause-order c = in_order

pub returns-clause-phase : goal.returns-clause-phase
returns-clause-phase c = stands_at
