-- What words ask for, or why they are no command.
use Rattle.std.specs.Prelude.{◌≡◌, ◌==◌, ◌&&◌, ℕ, Bool, true, false, not, List, [], ◌∷◌, length, codes, if◌then◌else◌, nat_le, Option, Some, None, Result, Ok, Err}
use Rattle.std.specs.Str.{bytes_eq}
use Rattle.clap.specs.Walk.{Row, is_empty, rows_of}
use Rattle.clap.specs.Matches.{found_of}
use Rattle.clap.specs.Simple.{App, matches_of}
use Rattle.clap.specs.Faults.{fault_of}
use Rattle.clap.specs.declared.parser.matches.ArgMatches.{ArgMatches}
use Rattle.sp_report.specs.declared.answer.OptionName.{OptionName}
use Rattle.sp_report.specs.declared.answer.OptionName.TheVariants as option
use Rattle.sp_report.specs.declared.answer.UsageKind.{UsageKind}
use Rattle.sp_report.specs.declared.answer.UsageKind.TheVariants.{NoCommand, UnknownCommand, Form, BadValue}
use Rattle.sp_words.specs.Split.{Text, is_given_twice, option_words, positionals}
use Rattle.sp_words.specs.Commands.{demo_app, live_app, run_app, view_app}
use Rattle.sp_words.specs.Value.{number_in}
use Rattle.sp_words.specs.Options.{Values, bounds_of, live_values, run_values}
use Rattle.sp_words.specs.declared.asked.RunAsked.{RunAsked}
use Rattle.sp_words.specs.declared.asked.Asked.{Asked}
use Rattle.sp_words.specs.declared.asked.Asked.TheVariants.{Run, View, Demo}
use Rattle.sp_words.specs.declared.asked.WordFault.{WordFault}
use Rattle.sp_words.specs.declared.asked.WordFault.TheVariants.{Usage, NoMemory}

-- a run that is asked for
pub record RunWanted : Type 0 where
  pub values : Values
  pub file : Text
  pub args : List Text

-- what words ask for, over plain data
pub data Wanted : Type 0 where
  ToRun : RunWanted → Wanted
  ToView : Text → Wanted
  ToDemo : ℕ → Wanted

abbrev pub run_of_asked : RunAsked → RunWanted
run_of_asked r = record {
  values = record {
    by = r.by;
    common = record { tool = r.tool; bounds = bounds_of r.limits; msec = r.msec; slices = r.slices };
    workers = r.workers;
  };
  file = r.file;
  args = r.args;
}

abbrev pub wanted_of : Asked → Wanted
wanted_of (Run r) = ToRun (run_of_asked r)
wanted_of (View file) = ToView file
wanted_of (Demo n) = ToDemo n

-- `clap` finds no fault in the options, none is given twice, and there are as many positionals as the command has
abbrev pub is_in_form : App → List Text → Bool → Bool
is_in_form app options fits = is_empty (fault_of app options) && (not (is_given_twice options) && fits)

abbrev pub in_form : App → List Text → Bool → Result Wanted UsageKind → Result Wanted UsageKind
in_form app options fits due = if is_in_form app options fits then due else Err Form

-- a run of the file that the first positional names, with the others as its arguments
abbrev pub run_with : Result Values OptionName → List Text → Result Wanted UsageKind
run_with (Err name) words = Err (BadValue name)
run_with (Ok values) [] = Err Form
run_with (Ok values) (file ∷ args) = Ok (ToRun (record { values = values; file = file; args = args }))

unfoldable pub run_wanted : App → (List Row → Result Values OptionName) → List Text → List Text → Result Wanted UsageKind
run_wanted app values options words = in_form app options (nat_le 1 (length words)) (run_with (values (matches_of app options)) words)

-- what is due of a command with one positional
unfoldable pub one_wanted : App → (List Text → Result Wanted UsageKind) → List Text → List Text → Result Wanted UsageKind
one_wanted app due options words = in_form app options (length words == 1) (due words)

abbrev pub view_with : List Text → Result Wanted UsageKind
view_with [] = Err Form
view_with (file ∷ more) = Ok (ToView file)

-- the number of a generated program has 32 bits
abbrev pub demo_of : Option ℕ → Result Wanted UsageKind
demo_of None = Err (BadValue option.N)
demo_of (Some n) = Ok (ToDemo n)

abbrev pub demo_with : List Text → Result Wanted UsageKind
demo_with [] = Err Form
demo_with (number ∷ more) = demo_of (number_in 0 4294967295 number)

-- what words ask of a program that runs serially or by windows, and of one with workers
abbrev pub words_wanted : List Text → Result Wanted UsageKind
words_wanted [] = Err NoCommand
words_wanted (word ∷ rest) =
    if bytes_eq word (codes "run") then run_wanted run_app run_values (option_words rest) (positionals rest)
    else (if bytes_eq word (codes "view") then one_wanted view_app view_with (option_words rest) (positionals rest)
    else (if bytes_eq word (codes "demo") then one_wanted demo_app demo_with (option_words rest) (positionals rest)
    else Err UnknownCommand))

abbrev pub live_words_wanted : List Text → Result Wanted UsageKind
live_words_wanted [] = Err NoCommand
live_words_wanted (word ∷ rest) =
    if bytes_eq word (codes "run") then run_wanted live_app live_values (option_words rest) (positionals rest)
    else Err UnknownCommand

-- an answer is what is due, or there is no memory
abbrev pub Answers : Result Wanted UsageKind → Result Asked WordFault → Type 0
Answers due (Ok asked) = due ≡ Ok (wanted_of asked)
Answers due (Err (Usage kind)) = due ≡ Err kind
Answers due (Err NoMemory) = Unit {0}

-- the matches of words in form, or why there are none
abbrev pub IsMatched : App → List Text → Bool → Result ArgMatches WordFault → Type 0
IsMatched app options fits (Ok m) = (is_in_form app options fits ≡ true) × (rows_of (found_of m) ≡ matches_of app options)
IsMatched app options fits (Err (Usage Form)) = is_in_form app options fits ≡ false
IsMatched app options fits (Err (Usage _)) = ⊥
IsMatched app options fits (Err NoMemory) = Unit {0}
