-- What a pacer shows, and what it answered while a run was made.
use Rattle.std.specs.Prelude.{◌≡◌, ℕ, ◌+◌, ◌-◌, ◌^◌, ◌<◌, ◌≤◌, Bool, Option, min}
use Rattle.std.specs.Option.{option_map}
use Rattle.sp_host.specs.Tally.{Tally}
use Rattle.sp_host.specs.Told.{WhereTold}
use Rattle.boundary_verify.specs.Cuts.{granted_among}

pub record PacerState : Type 0 where
  -- the last period that it was given, in milliseconds
  pub period : ℕ
  pub tally : Tally
  -- its answers to come, where it tells them; the next one has number 1
  pub answers : Option (ℕ → Bool)

-- a count that stands still at the end of its type, after n more
abbrev pub count_after : ℕ → ℕ → ℕ
count_after count n = min (count + n) (2 ^ 64 - 1)

-- It was asked n times, and these were its answers, the first with number 1: those that it told, if it did. Its tally counts them.
pub record HasAnswered (answers : ℕ → Bool) (n : ℕ) (first now : PacerState) : Type 0 where
  pub period : now.period ≡ first.period
  pub asked : first.tally.asked + n < 2 ^ 64 → now.tally.asked ≡ first.tally.asked + n
  pub granted : first.tally.granted + n < 2 ^ 64 → now.tally.granted ≡ first.tally.granted + granted_among answers n
  pub as_told : WhereTold first.answers (λ told. (k : ℕ) → 0 < k → k ≤ n → answers k ≡ told k)
  pub left : now.answers ≡ option_map (λ told k. told (n + k)) first.answers
