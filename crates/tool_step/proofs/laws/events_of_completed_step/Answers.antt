use Rattle.tool_step.proofs.Parts.{all_is}
use Rattle.tool_step.proofs.laws.events_of_completed_step.Goals as goal

pub returns : goal.returns
returns c = all_is
