use Rattle.guest_model.specs.Play.{play_step}
use Rattle.guest_model.proofs.Runs.{never_ends_from}
use Rattle.boundary_verify.proofs.laws.recurrence.Goals as goal

pub returns : goal.returns
returns c = λ script s back a k. never_ends_from (play_step script) a k s back
