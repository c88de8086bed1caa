-- What the parts of the top call answer.
use Rattle.std.specs.Prelude.{◌≡◌, ◌⊎◌, ◌<◌, ◌≤◌, List, [], ℕ, length, None, Some, Result, Ok, Err, Vec}
use Rattle.std.specs.declared.alloc.Global.{Global}
use Rattle.sp_host.specs.Told.{Told}
use Rattle.sp_host.specs.Whole.{most_file}
use Rattle.elf_load.specs.Elf.{refusal_of, image_of}
use Rattle.elf_load.specs.Image.{ImageFields}
use Rattle.guest_model.specs.Call.{World}
use Rattle.guest_model.specs.Machine.{Machine}
use Rattle.master_run.specs.Answers.{PacerState}
use Rattle.rv_machine.specs.Load.{machine_of}
use Rattle.sp_report.specs.declared.answer.Answer.{Answer}
use Rattle.sp_report.specs.declared.answer.Answer.TheVariants.{Ended, Refused}
use Rattle.sp_report.specs.declared.answer.Refusal.{Refusal}
use Rattle.sp_report.specs.declared.answer.Refusal.TheVariants as refusals
use Rattle.sp_report.specs.declared.answer.UsageKind.{UsageKind}
use Rattle.sp_words.specs.Asked.{RunWanted, Wanted}
use Rattle.sp_words.specs.Run.{ToolMeaning}
use Rattle.sp_words.specs.Tools.{meaning_of}
use Rattle.superpin_top.specs.Due.{Task, Runs, program_of, strings_of}
use Rattle.superpin_top.specs.Engine.{program_by}
use Rattle.superpin_top.specs.Outcome.{AttemptGives, OfText}
use Rattle.superpin_top.specs.declared.engine.Done.{Done}
use Rattle.superpin_top.specs.declared.engine.How.{How}
use Rattle.superpin_top.specs.declared.load.Loaded.{Loaded}
use Rattle.superpin_top.specs.declared.load.LoadedRun.{LoadedRun}

-- the bytes of a file, or that they are too many
abbrev pub ReadGives : List ℕ → Result (Vec ℕ Global) Refusal → Type 0
ReadGives file (Ok bytes) = (bytes.items ≡ file) × (length file ≤ most_file)
ReadGives file (Err refusals.FileFault) = Unit {0}
ReadGives file (Err refusals.FileTooLarge) = most_file < length file
ReadGives file (Err refusals.NoMemory) = Unit {0}
ReadGives file (Err _) = ⊥

-- a refusal before a run begins, or before a text is written; a fault of the file and want of memory come with no such cause
abbrev pub IsBefore : Result Task Refusal → Refusal → Type 0
IsBefore task refusals.FileFault = Unit {0}
IsBefore task refusals.FileTooLarge = task ≡ Err refusals.FileTooLarge
IsBefore task (refusals.Elf fault) = task ≡ Err (refusals.Elf fault)
IsBefore task (refusals.ArgsTooLong bytes) = task ≡ Err (refusals.ArgsTooLong bytes)
IsBefore task refusals.NoMemory = Unit {0}
IsBefore task _ = ⊥

-- the image of a file, or its first fault
abbrev pub ImageGives : List ℕ → Result ImageFields Refusal → Type 0
ImageGives file (Ok image) = (refusal_of file ≡ None) × (image ≡ image_of file)
ImageGives file (Err (refusals.Elf fault)) = refusal_of file ≡ Some fault
ImageGives file (Err refusals.NoMemory) = Unit {0}
ImageGives file (Err _) = ⊥

-- the loaded program, or the refusal before its run
abbrev pub LoadGives : Result Task Refusal → RunWanted → Result Loaded Refusal → Type 0
LoadGives task r (Ok loaded) = (task ≡ Ok (Runs (program_of loaded.image r))) × (loaded.guest.machine ≡ machine_of loaded.image (strings_of r))
LoadGives task r (Err refusal) = IsBefore task refusal

-- what is to be done is the run of this program, which stands where it begins
pub record IsLoadedFor (task : Result Task Refusal) (loaded : LoadedRun) : Type 0 where
  pub strings : List (List ℕ)
  pub task_is : task ≡ Ok (Runs (program_by loaded.image strings (meaning_of loaded.image loaded.tool) loaded.how))
  pub machine_is : loaded.guest.machine ≡ machine_of loaded.image strings

abbrev pub RunLoads : Result Task Refusal → Result LoadedRun Refusal → Type 0
RunLoads task (Ok loaded) = IsLoadedFor task loaded
RunLoads task (Err refusal) = IsBefore task refusal

-- what comes of the run of an image whose machine stands so, with a tool that means this, whatever strings its program got, and
-- whatever is left
abbrev pub RunTells : ImageFields → Machine → ToolMeaning → How → Told → PacerState → Result Done Refusal → Told → PacerState → Type 0
RunTells image m tool how t first result new now = (w : World) (strings : List (List ℕ)) → t.input ≡ Some w.input → t.moments ≡ Some w.moments → m ≡ machine_of image strings →
    AttemptGives t (Ok (Runs (program_by image strings tool how))) w first result new now

-- the text that is to be shown, or the refusal before it is written
abbrev pub TextGives : Result Task Refusal → Result (Vec ℕ Global) Refusal → Type 0
TextGives task (Ok text) = OfText task (λ shown. text.items ≡ shown)
TextGives task (Err refusal) = IsBefore task refusal

-- a refusal of a run that began
abbrev pub IsLate : Refusal → Type 0
IsLate (refusals.Usage kind) = ⊥
IsLate refusals.FileFault = ⊥
IsLate refusals.FileTooLarge = ⊥
IsLate (refusals.Elf fault) = ⊥
IsLate (refusals.ArgsTooLong bytes) = ⊥
IsLate refusal = Unit {0}

-- the words were read
abbrev pub IsPastWords : Refusal → Type 0
IsPastWords (refusals.Usage kind) = ⊥
IsPastWords refusal = Unit {0}

-- A refusal of the words is that of their first fault, and where they have one, and memory was found, it is what is answered.
pub record IsOfWords (wanted : Result Wanted UsageKind) (answer : Answer) : Type 0 where
  pub only : (kind : UsageKind) → answer ≡ Refused (refusals.Usage kind) → wanted ≡ Err kind
  pub always : (kind : UsageKind) → wanted ≡ Err kind → answer ≡ Refused (refusals.Usage kind) ⊎ answer ≡ Refused refusals.NoMemory

-- the same of a command that was tried
abbrev pub answer_by : Result Done Refusal → Answer
answer_by (Ok done) = Ended done.status done.cuts done.lines
answer_by (Err refusal) = Refused refusal

-- where an answer tells cuts
abbrev pub cuts_in : Answer → List ℕ
cuts_in (Ended status cuts lines) = cuts
cuts_in (Refused refusal) = []
