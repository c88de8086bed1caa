-- The due answer: what the words, the files, the input and the moments alone determine, and where a run is sliced, its slicing.
use Rattle.std.specs.Prelude.{ℕ, ◌-◌, ◌^◌, List, [], ◌∷◌, length, map, nat_lt, min, Option, None, Some, Result, Ok, Err, String, string_bytes, if◌then◌else◌}
use Rattle.std.specs.declared.alloc.Global.{Global}
use Rattle.sp_host.specs.Told.{Files, file_of}
use Rattle.sp_host.specs.Whole.{most_file}
use Rattle.elf_load.specs.Elf.{refusal_of, image_of}
use Rattle.elf_load.specs.Image.{ImageFields}
use Rattle.elf_load.specs.declared.fault.ElfFault.{ElfFault}
use Rattle.guest_model.specs.Call.{World}
use Rattle.guest_model.specs.declared.platform.TheConstants.{MOST_STRINGS}
use Rattle.rv_machine.specs.Load.{strings_size}
use Rattle.sp_report.specs.View.{view_text}
use Rattle.sp_report.specs.declared.answer.Answer.{Answer}
use Rattle.sp_report.specs.declared.answer.Answer.TheVariants.{Ended, Refused}
use Rattle.sp_report.specs.declared.answer.Refusal.{Refusal}
use Rattle.sp_report.specs.declared.answer.Refusal.TheVariants as refusals
use Rattle.sp_report.specs.declared.answer.UsageKind.{UsageKind}
use Rattle.sp_words.specs.Asked.{RunWanted, Wanted, ToRun, ToView, ToDemo, words_wanted}
use Rattle.sp_words.specs.Due.{Due, Program, due_refused, due_run, engine_of, run_of_program}
use Rattle.sp_words.specs.Run.{Slicing}
use Rattle.sp_words.specs.Tools.{meaning_of}
use Rattle.sp_words.specs.declared.asked.By.{By}

-- the bytes of each word
abbrev pub texts : List (String Global) → List (List ℕ)
texts words = map string_bytes words

-- what is to be done: a program runs, or the code of an image is shown
pub data Task : Type 0 where
  Runs : (program : Program) → Task
  Shows : (image : ImageFields) → Task

-- the strings that a program gets: the name of its file, and its arguments
abbrev pub strings_of : RunWanted → List (List ℕ)
strings_of r = r.file ∷ r.args

abbrev pub program_of : ImageFields → RunWanted → Program
program_of image r = record { image = image; strings = strings_of r; tool = meaning_of image r.values.common.tool; engine = engine_of r.values.by r.values.common }

-- the strings of a run may be too long
abbrev pub task_of_image : List ℕ → RunWanted → Result Task Refusal
task_of_image file r =
    if nat_lt MOST_STRINGS (strings_size (strings_of r)) then Err (refusals.ArgsTooLong (min (strings_size (strings_of r)) (2 ^ 64 - 1)))
    else Ok (Runs (program_of (image_of file) r))

-- a file without a fault, or the first one that it has
abbrev pub task_of_tested : Option ElfFault → Result Task Refusal → Result Task Refusal
task_of_tested (Some fault) task = Err (refusals.Elf fault)
task_of_tested None task = task

-- a file of this length, with its first fault
abbrev pub task_of_file : List ℕ → Result Task Refusal → Result Task Refusal
task_of_file file task = if nat_lt most_file (length file) then Err refusals.FileTooLarge else task_of_tested (refusal_of file) task

-- what is done with a file's bytes, and with the file of the name that is asked for
abbrev pub run_task : List ℕ → RunWanted → Result Task Refusal
run_task file r = task_of_file file (task_of_image file r)

abbrev pub view_task : List ℕ → Result Task Refusal
view_task file = task_of_file file (Ok (Shows (image_of file)))

-- a demonstration has no file, and nothing of the outside determines it (`DemoOutcome` says what it leaves)
abbrev pub task_in : Files → Wanted → Option (Result Task Refusal)
task_in files (ToRun r) = Some (run_task (file_of files r.file) r)
task_in files (ToView name) = Some (view_task (file_of files name))
task_in files (ToDemo n) = None

abbrev pub task_of_wanted : Result Wanted UsageKind → Files → Option (Result Task Refusal)
task_of_wanted (Err kind) files = Some (Err (refusals.Usage kind))
task_of_wanted (Ok wanted) files = task_in files wanted

-- what the words ask for, or the first refusal; none where they ask for a demonstration
unfoldable pub task_of : List (List ℕ) → Files → Option (Result Task Refusal)
task_of words files = task_of_wanted (words_wanted words) files

-- holds of what the words ask for, unless that is a demonstration
abbrev pub OfTask : Option (Result Task Refusal) → (Result Task Refusal → Type 0) → Type 0
OfTask None P = Unit {0}
OfTask (Some task) P = P task

-- the words ask for the demonstration of a number
abbrev pub demo_wanted : Result Wanted UsageKind → Option ℕ
demo_wanted (Ok (ToRun r)) = None
demo_wanted (Ok (ToView name)) = None
demo_wanted (Ok (ToDemo n)) = Some n
demo_wanted (Err kind) = None

-- how the words ask for a run to be made
abbrev pub by_wanted : Result Wanted UsageKind → Option By
by_wanted (Ok (ToRun r)) = Some r.values.by
by_wanted (Ok (ToView name)) = None
by_wanted (Ok (ToDemo n)) = None
by_wanted (Err kind) = None

-- what is due where a text is shown; no program ran, and there is no line
abbrev pub due_shown : List ℕ → World → Due
due_shown text left = record { answer = Ended 0 [] []; out = text; err = []; report = []; left = left }

abbrev pub due_task : Result Task Refusal → World → Slicing → Due
due_task (Err refusal) w s = due_refused refusal [] w
due_task (Ok (Runs p)) w s = due_run (run_of_program p w) s
due_task (Ok (Shows image)) w s = due_shown (view_text image) w

-- the slicing that an answer tells
abbrev pub not_sliced : Slicing
not_sliced = record { cuts = []; lines = [] }

abbrev pub slicing_in : Answer → Slicing
slicing_in (Ended status cuts lines) = record { cuts = cuts; lines = lines }
slicing_in (Refused refusal) = not_sliced
