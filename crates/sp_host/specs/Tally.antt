-- What a pacer shows: its tally, and the answers to come where it tells them.
use Rattle.std.specs.Prelude.{ℕ, ◌+◌, Bool, Option, if◌then◌else◌}
use Rattle.std.specs.Option.{option_map}
use Rattle.sp_host.specs.Count.{one_more}

pub record Tally : Type 0 where
  -- how often it was asked whether it is time
  pub asked : ℕ
  -- how often it answered that it is
  pub granted : ℕ

-- the tally after one more answer
abbrev pub tally_after : Bool → Tally → Tally
tally_after answer t = record {
  asked = one_more t.asked;
  granted = if answer then one_more t.granted else t.granted;
}

-- The answers from the second one on, where told. The first has number 1.
abbrev pub later_answers : Option (ℕ → Bool) → Option (ℕ → Bool)
later_answers told = option_map (λ answers k. answers (k + 1)) told
