use Rattle.guest_model.proofs.Calls.{played_is}
use Rattle.guest_model.proofs.laws.record_is_played.Goals as goal

pub returns : goal.returns
returns c = played_is
