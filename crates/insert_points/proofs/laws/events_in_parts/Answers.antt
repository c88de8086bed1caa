use Rattle.std.proofs.Common.{refl}
use Rattle.insert_points.specs.Events.{events_of}
use Rattle.insert_points.proofs.laws.events_in_parts.Goals as goal

pub returns : goal.returns
unfolding events_of
returns c = λ called item. refl
