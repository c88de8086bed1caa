use Rattle.std.proofs.Common.{◌∙◌}
use Rattle.live_run.proofs.Publishing.{last_is}
use Rattle.live_run.proofs.lead.last_of.Goals as goal

pub returns-in-Some : goal.returns-in-Some
returns-in-Some c = c.in-Some.ensures.item.3.1 0 ∙ last_is 0 c.args.cuts.now c.in-Some.ensures.item.3.0
