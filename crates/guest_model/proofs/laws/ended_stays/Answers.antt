use Rattle.guest_model.specs.Runs.{Running}
use Rattle.guest_model.specs.Serial.{step_of}
use Rattle.guest_model.proofs.Runs.{over_stays}
use Rattle.guest_model.proofs.laws.ended_stays.Goals as goal

pub returns : goal.returns
returns c = λ p last end n k h. over_stays step_of n k (Running p) last end h
