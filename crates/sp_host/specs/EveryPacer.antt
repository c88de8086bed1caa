-- What a pacer that grants each so many asks shows.
use Rattle.std.specs.Prelude.{ℕ, ◌+◌, ◌-◌, ◌%◌, ◌==◌, Bool, Option, Some}
use Rattle.sp_host.specs.Tally.{Tally}
use Rattle.sp_host.specs.declared.pacer.EveryPacer.{EveryPacer}

-- the k-th answer after so many asks since the last true one
abbrev pub answer_in_turn : ℕ → ℕ → ℕ → Bool
answer_in_turn every passed k = (passed + k) % every == 0

abbrev pub every_period : EveryPacer → ℕ
every_period p = p.period

abbrev pub every_tally : EveryPacer → Tally
every_tally p = record { asked = p.asked; granted = p.granted }

abbrev pub every_answers : EveryPacer → Option (ℕ → Bool)
every_answers p = Some (answer_in_turn p.every (p.every - p.left))
