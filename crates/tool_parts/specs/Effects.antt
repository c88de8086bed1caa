-- What a slice of events does to a state that is a fold over events, where the slice does not know the state at its start.
use Rattle.std.specs.Prelude.{◌≡◌, List, fold}

module _ {E S : Type 0} (step : S → E → S) (IsStart : S → Type 0) where
  -- the function says what each state that a slice may start from becomes by the events
  abbrev pub IsEffect : List E → (S → S) → Type 0
  IsEffect ys effect = (s : S) → IsStart s → effect s ≡ fold step s ys
