use Rattle.guest_model.proofs.Follows.{follows}
use Rattle.guest_model.proofs.laws.play_follows.Goals as goal

pub returns : goal.returns
returns c = follows
