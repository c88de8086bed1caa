use Rattle.insert_points.proofs.Views.{events_of_view}
use Rattle.insert_points.proofs.laws.events_of_view.Goals as goal

pub returns : goal.returns
returns c = events_of_view
