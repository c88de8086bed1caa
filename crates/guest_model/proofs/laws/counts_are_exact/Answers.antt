use Rattle.guest_model.proofs.Counts.{hits_once}
use Rattle.guest_model.proofs.laws.counts_are_exact.Goals as goal

pub returns : goal.returns
returns c = hits_once
