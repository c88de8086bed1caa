-- What a run begins with.
use Rattle.std.specs.Prelude.{ℕ}
use Rattle.guest_model.specs.Call.{World}
use Rattle.guest_model.specs.Machine.{Machine}
use Rattle.guest_model.specs.Serial.{Position}

-- a run: the position at which it begins, and the most steps
pub record Run : Type 0 where
  pub start : Position
  pub budget : ℕ

-- position 0, at which no call went on yet
abbrev pub start_of : Machine → World → Position
start_of m w = record { machine = m; world = w; calls = 0 }
