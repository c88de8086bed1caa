use Rattle.clap.proofs.WalkLemmas.{both}
use Rattle.sp_words.proofs.commands.parse.Goals as goal

pub returns-in-Ok : goal.returns-in-Ok
returns-in-Ok c simple = (c.in-Ok.ensures.kinds simple, (c.in-Ok.ensures.matches (both _ _ simple).0).0)
