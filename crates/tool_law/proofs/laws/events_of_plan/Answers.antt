use Rattle.std.proofs.Common.{ap}
use Rattle.insert_points.specs.Events.{Called, events_of}
use Rattle.tool_law.proofs.laws.events_of_plan.Goals as goal

pub returns : goal.returns
returns c = λ calls views plan item fits same. ap (λ (called : Called). events_of called item) (same item.before.pc fits)
