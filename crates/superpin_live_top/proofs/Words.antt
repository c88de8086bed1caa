-- What words with workers ask for: a run by windows, and nothing else.
use Rattle.std.proofs.Common.{◌≡◌, ◌∷◌, ℕ, List, [], refl, ap, sym, length, ◌∙◌}
use Rattle.std.specs.Prelude.{Bool, true, false, codes, if◌then◌else◌, nat_le, Result, Ok, Err}
use Rattle.std.specs.Str.{bytes_eq}
use Rattle.clap.specs.Simple.{matches_of}
use Rattle.sp_host.specs.Told.{Files}
use Rattle.sp_report.specs.declared.answer.OptionName.{OptionName}
use Rattle.sp_report.specs.declared.answer.UsageKind.{UsageKind}
use Rattle.sp_report.specs.declared.answer.UsageKind.TheVariants.{Form, UnknownCommand}
use Rattle.sp_words.specs.Asked.{ToDemo, ToRun, ToView, Wanted, is_in_form, live_words_wanted, run_wanted, run_with}
use Rattle.sp_words.specs.Commands.{live_app}
use Rattle.sp_words.specs.Options.{Common, Values, common_in, live_values, on_value, workers_in}
use Rattle.sp_words.specs.Split.{Text, option_words, positionals}
use Rattle.sp_words.specs.declared.asked.By.TheVariants.{Windows}
use Rattle.superpin_top.specs.Due.{task_of_wanted}
use Rattle.superpin_live_top.specs.Due.{live_task_of}

pub task_is : (words : List (List ℕ)) (files : Files) → live_task_of words files ≡ task_of_wanted (live_words_wanted words) files
unfolding live_task_of
task_is words files = refl

abbrev pub IsRunByWindows : Wanted → Type 0
IsRunByWindows (ToRun r) = r.values.by ≡ Windows
IsRunByWindows (ToView name) = ⊥
IsRunByWindows (ToDemo n) = ⊥

-- what is wanted under a test
under : (b : Bool) (due : Result Wanted UsageKind) (kind : UsageKind) (asked : Wanted) → (if b then due else Err kind) ≡ Ok asked → due ≡ Ok asked
under true due kind asked e = e
under false due kind asked e = cc

by_of : (common : Result Common OptionName) (workers : Result ℕ OptionName) (k : Values) → on_value common (λ c. on_value workers (λ w. Ok (record { by = Windows; common = c; workers = w }))) ≡ Ok k → k.by ≡ Windows
by_of (Ok c) (Ok w) k e = let same : record { by = Windows; common = c; workers = w } ≡ k = cc in sym (ap (λ (v : Values). v.by) same)
by_of (Ok c) (Err name) k e = cc
by_of (Err name) workers k e = cc

with_by : (values : Result Values OptionName) (words : List Text) (asked : Wanted) → ((k : Values) → values ≡ Ok k → k.by ≡ Windows) → run_with values words ≡ Ok asked → IsRunByWindows asked
with_by (Err name) words asked by e = cc
with_by (Ok k) [] asked by e = cc
with_by (Ok k) (file ∷ args) (ToRun r) by e = let same : k ≡ r.values = cc in ap (λ (v : Values). v.by) (sym same) ∙ by k refl
with_by (Ok k) (file ∷ args) (ToView name) by e = cc
with_by (Ok k) (file ∷ args) (ToDemo n) by e = cc

run_by : (options words : List Text) (asked : Wanted) → run_wanted live_app live_values options words ≡ Ok asked → IsRunByWindows asked
unfolding run_wanted
run_by options words asked e =
    let rows = matches_of live_app options in
    with_by (live_values rows) words asked (λ k is. by_of (common_in rows) (workers_in rows) k is)
    (under (is_in_form live_app options (nat_le 1 (length words))) (run_with (live_values rows) words) Form asked e)

pub live_by : (words : List Text) (asked : Wanted) → live_words_wanted words ≡ Ok asked → IsRunByWindows asked
live_by [] asked e = cc
live_by (word ∷ rest) asked e = run_by (option_words rest) (positionals rest) asked (under (bytes_eq word (codes "run")) (run_wanted live_app live_values (option_words rest) (positionals rest)) UnknownCommand asked e)
