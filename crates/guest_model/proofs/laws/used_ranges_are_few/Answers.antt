use Rattle.guest_model.proofs.Used.{few_used, small_used}
use Rattle.guest_model.proofs.laws.used_ranges_are_few.Goals as goal

pub returns : goal.returns
returns c = record { count = few_used; size = small_used }
