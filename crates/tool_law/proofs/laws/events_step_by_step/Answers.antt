use Rattle.std.proofs.Common.{[], sym}
use Rattle.std.proofs.lemmas.List.{flat_map_more}
use Rattle.tool_law.specs.Events.{step_events}
use Rattle.tool_law.proofs.laws.events_step_by_step.Goals as goal

pub returns : goal.returns
returns c = λ calls views items item. sym (flat_map_more (step_events calls views) [] items item)
