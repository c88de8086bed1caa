-- The commands as `clap` knows them, with options alone, and what it makes of words.
use Rattle.std.specs.Prelude.{◌≡◌, ◌≢◌, true, List, [], Some, codes, Result, Ok, Err}
use Rattle.clap.specs.Walk.{rows_of}
use Rattle.clap.specs.Simple.{App, matches_of, new_app, new_rule, on_top, with_rule}
use Rattle.clap.specs.Faults.{fault_of, is_simple_and_free}
use Rattle.clap.specs.Matches.{found_of}
use Rattle.clap.specs.declared.builder.action.ArgAction.TheVariants.{Set, SetTrue}
use Rattle.clap.specs.declared.parser.matches.ArgMatches.{ArgMatches}
use Rattle.sp_words.specs.Split.{Text}
use Rattle.sp_words.specs.declared.asked.WordFault.{WordFault}
use Rattle.sp_words.specs.declared.asked.WordFault.TheVariants.{Usage, NoMemory}
use Rattle.sp_report.specs.declared.answer.UsageKind.TheVariants.{Form}

-- no option, no help and no version; its own name is not among the words
abbrev pub bare_app : Text → App
bare_app name = on_top (λ s. record s {
  no_binary_name = true;
  disable_help_flag = true;
  disable_version_flag = true;
}) (new_app name)

-- `--NAME VALUE`, and `--NAME`
abbrev pub with_option : Text → App → App
with_option name app = with_rule app (record (new_rule name) { long = Some name; action = Some Set })

abbrev pub with_flag : Text → App → App
with_flag name app = with_rule app (record (new_rule name) { long = Some name; action = Some SetTrue })

-- the options that each `run` has
abbrev pub with_budgets : App → App
with_budgets app = with_option (codes "limit") (with_option (codes "budget") (with_option (codes "tool") app))

abbrev pub with_slicing : App → App
with_slicing app = with_option (codes "frames") (with_option (codes "records") (with_option (codes "msec") (with_option (codes "poll") app)))

abbrev pub with_common : App → App
with_common app = with_flag (codes "slices") (with_slicing (with_budgets app))

-- the commands
unfoldable pub run_app : App
run_app = with_common (with_option (codes "by") (bare_app (codes "run")))

unfoldable pub live_app : App
live_app = with_option (codes "workers") (with_common (bare_app (codes "run")))

unfoldable pub view_app : App
view_app = bare_app (codes "view")

unfoldable pub demo_app : App
demo_app = bare_app (codes "demo")

-- what it makes of words for a command with plain options: its matches where it finds no fault, and else bad form
abbrev pub IsParsed : App → List Text → Result ArgMatches WordFault → Type 0
IsParsed app words (Ok m) = is_simple_and_free app ≡ true → (fault_of app words ≡ []) × (rows_of (found_of m) ≡ matches_of app words)
IsParsed app words (Err (Usage Form)) = is_simple_and_free app ≡ true → fault_of app words ≢ []
IsParsed app words (Err (Usage _)) = ⊥
IsParsed app words (Err NoMemory) = Unit {0}
