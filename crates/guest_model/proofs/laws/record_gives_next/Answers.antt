use Rattle.guest_model.proofs.Calls.{next_is}
use Rattle.guest_model.proofs.laws.record_gives_next.Goals as goal

pub returns : goal.returns
returns c = next_is
