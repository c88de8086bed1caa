-- What is to be done of a program whose slices go to workers.
use Rattle.std.specs.Prelude.{ℕ, List, Option, Result}
use Rattle.sp_host.specs.Told.{Files}
use Rattle.sp_report.specs.declared.answer.Refusal.{Refusal}
use Rattle.sp_words.specs.Asked.{live_words_wanted}
use Rattle.superpin_top.specs.Due.{Task, task_of_wanted}

-- what the words ask for, or the first refusal
unfoldable pub live_task_of : List (List ℕ) → Files → Option (Result Task Refusal)
live_task_of words files = task_of_wanted (live_words_wanted words) files
