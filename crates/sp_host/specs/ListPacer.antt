-- What a pacer over a list shows.
use Rattle.std.specs.Prelude.{ℕ, ◌+◌, ◌-◌, Bool, false, List, Option, Some, slice_index_or}
use Rattle.sp_host.specs.Tally.{Tally}
use Rattle.sp_host.specs.declared.pacer.ListPacer.{ListPacer}

-- the k-th answer from a list after so many were given, and false beyond its end
abbrev pub answer_after : List Bool → ℕ → ℕ → Bool
answer_after answers given k = slice_index_or answers (given + k - 1) false

abbrev pub list_period : ListPacer → ℕ
list_period p = p.period

abbrev pub list_tally : ListPacer → Tally
list_tally p = record { asked = p.asked; granted = p.granted }

abbrev pub list_answers : ListPacer → Option (ℕ → Bool)
list_answers p = Some (answer_after p.answers.items p.asked)
