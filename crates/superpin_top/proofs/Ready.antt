-- The program that the words ask for, from the parts of the top call.
use Rattle.std.proofs.Common.{◌≡◌, ◌<◌, ◌≤◌, ◌-◌, ◌^◌, ℕ, List, length, refl, ap, sym, ◌∙◌, arith, inl, inr, subst}
use Rattle.std.specs.Prelude.{Option, None, Some, Result, Ok, Err, Bool, true, false, nat_lt, min, if◌then◌else◌}
use Rattle.std.proofs.lemmas.Bool.Decides.{nat_tests}
use Rattle.sp_host.specs.Told.{Told}
use Rattle.sp_host.specs.Whole.{most_file, FaultFits}
use Rattle.sp_host.specs.declared.whole.ReadFault.{ReadFault}
use Rattle.sp_host.specs.declared.whole.ReadFault.TheVariants as reads
use Rattle.elf_load.specs.Elf.{refusal_of, image_of}
use Rattle.elf_load.specs.Image.{ImageFields}
use Rattle.elf_load.specs.declared.fault.ElfFault.{ElfFault}
use Rattle.guest_model.specs.Call.{World}
use Rattle.guest_model.specs.declared.platform.TheConstants.{MOST_STRINGS}
use Rattle.rv_machine.specs.Load.{machine_of, strings_size}
use Rattle.sp_report.specs.declared.answer.Refusal.{Refusal}
use Rattle.sp_report.specs.declared.answer.Refusal.TheVariants as refusals
use Rattle.sp_report.specs.declared.answer.Answer.TheVariants as answers
use Rattle.sp_report.specs.declared.answer.UsageKind.{UsageKind}
use Rattle.master_run.specs.Answers.{PacerState}
use Rattle.sp_words.specs.Asked.{Answers, RunWanted, Wanted}
use Rattle.sp_words.specs.Tools.{meaning_of}
use Rattle.sp_words.specs.declared.asked.WordFault.{WordFault}
use Rattle.sp_words.specs.declared.asked.WordFault.TheVariants as words
use Rattle.superpin_top.specs.Causes.{refusal_of_read, refusal_of_words}
use Rattle.superpin_top.specs.Due.{OfTask, Task, Runs, Shows, program_of, run_task, strings_of, task_of_file, task_of_image, task_of_tested, view_task}
use Rattle.superpin_top.specs.Engine.{program_by}
use Rattle.superpin_top.specs.Outcome.{AttemptGives, IsAccepted, IsDecided, Refuses}
use Rattle.superpin_top.specs.Top.{ImageGives, IsBefore, IsLate, IsLoadedFor, IsOfWords, IsPastWords, ReadGives, answer_by}
use Rattle.superpin_top.specs.declared.engine.Done.{Done}
use Rattle.superpin_top.specs.declared.load.LoadedRun.{LoadedRun}
use Rattle.superpin_top.proofs.Outcomes.{refused_before}

-- a file that was not read
pub unread : (file : List ℕ) (fault : ReadFault) → FaultFits fault most_file (length file) → ReadGives file (Err (refusal_of_read fault))
unread file reads.FileFault fits = tt
unread file reads.FileTooLarge fits = fits
unread file reads.NoMemory fits = tt

-- a file that is not too large
pub read_file : (file : List ℕ) (task : Result Task Refusal) → length file ≤ most_file → task_of_file file task ≡ task_of_tested (refusal_of file) task
read_file file task le = ap (λ (b : Bool). if b then Err refusals.FileTooLarge else task_of_tested (refusal_of file) task) (is_no (nat_lt most_file (length file)) refl)
  where
    is_no : (b : Bool) → nat_lt most_file (length file) ≡ b → nat_lt most_file (length file) ≡ false
    is_no true e = grind (arith, nat_tests)
    is_no false e = e

large_file : (file : List ℕ) (task : Result Task Refusal) → most_file < length file → task_of_file file task ≡ Err refusals.FileTooLarge
large_file file task lt = ap (λ (b : Bool). if b then Err refusals.FileTooLarge else task_of_tested (refusal_of file) task) (is_yes (nat_lt most_file (length file)) refl)
  where
    is_yes : (b : Bool) → nat_lt most_file (length file) ≡ b → nat_lt most_file (length file) ≡ true
    is_yes true e = e
    is_yes false e = grind (arith, nat_tests)

-- and has no fault, or one
sound_file : (file : List ℕ) (task : Result Task Refusal) → length file ≤ most_file → refusal_of file ≡ None → task_of_file file task ≡ task
sound_file file task le none = read_file file task le ∙ ap (λ (o : Option ElfFault). task_of_tested o task) none

faulty_file : (file : List ℕ) (task : Result Task Refusal) (fault : ElfFault) → length file ≤ most_file → refusal_of file ≡ Some fault → task_of_file file task ≡ Err (refusals.Elf fault)
faulty_file file task fault le is = read_file file task le ∙ ap (λ (o : Option ElfFault). task_of_tested o task) is

by_size : (file : List ℕ) (r : RunWanted) (long : Bool) → nat_lt MOST_STRINGS (strings_size (strings_of r)) ≡ long
    → task_of_image file r ≡ (if long then Err (refusals.ArgsTooLong (min (strings_size (strings_of r)) (2 ^ 64 - 1))) else Ok (Runs (program_of (image_of file) r)))
by_size file r long is = ap (λ (b : Bool). if b then Err (refusals.ArgsTooLong (min (strings_size (strings_of r)) (2 ^ 64 - 1))) else Ok (Runs (program_of (image_of file) r))) is

-- strings that are too long
pub long_strings : (file : List ℕ) (r : RunWanted) (bytes : ℕ) → length file ≤ most_file → refusal_of file ≡ None → MOST_STRINGS < strings_size (strings_of r) → bytes ≡ min (strings_size (strings_of r)) (2 ^ 64 - 1)
    → run_task file r ≡ Err (refusals.ArgsTooLong bytes)
long_strings file r bytes le none lt is = sound_file file (task_of_image file r) le none ∙ (by_size file r true (grind (arith, nat_tests)) ∙ ap (λ (n : ℕ). Err (refusals.ArgsTooLong n)) (sym is))

-- a program that is accepted
pub accepted_run : (file : List ℕ) (r : RunWanted) (image : ImageFields) → length file ≤ most_file → refusal_of file ≡ None → strings_size (strings_of r) ≤ MOST_STRINGS → image ≡ image_of file → run_task file r ≡ Ok (Runs (program_of image r))
accepted_run file r image le none few same =
    sound_file file (task_of_image file r) le none
    ∙ (by_size file r false (grind (arith, nat_tests)) ∙ ap (λ (i : ImageFields). Ok (Runs (program_of i r))) (sym same))

-- and an image whose code is shown
pub accepted_view : (file : List ℕ) (image : ImageFields) → length file ≤ most_file → refusal_of file ≡ None → image ≡ image_of file → view_task file ≡ Ok (Shows image)
accepted_view file image le none same = sound_file file (Ok (Shows (image_of file))) le none ∙ ap (λ (i : ImageFields). Ok (Shows i)) (sym same)

pub unsound : (file : List ℕ) (task : Result Task Refusal) (refusal : Refusal) → length file ≤ most_file → ImageGives file (Err refusal) → IsBefore (task_of_file file task) refusal
unsound file task (refusals.Elf fault) le gives = faulty_file file task fault le gives
unsound file task refusals.NoMemory le gives = tt
unsound file task (refusals.Usage kind) le gives = absurd gives
unsound file task refusals.FileFault le gives = absurd gives
unsound file task refusals.FileTooLarge le gives = absurd gives
unsound file task (refusals.ArgsTooLong bytes) le gives = absurd gives
unsound file task (refusals.UnsupportedCall number pc) le gives = absurd gives
unsound file task (refusals.BudgetSpent n) le gives = absurd gives
unsound file task refusals.InputFault le gives = absurd gives
unsound file task (refusals.OutputFault port) le gives = absurd gives
unsound file task refusals.ReportFault le gives = absurd gives

pub unread_task : (file : List ℕ) (task : Result Task Refusal) (refusal : Refusal) → ReadGives file (Err refusal) → IsBefore (task_of_file file task) refusal
unread_task file task (refusals.Usage kind) gives = absurd gives
unread_task file task refusals.FileFault gives = tt
unread_task file task refusals.FileTooLarge gives = large_file file task gives
unread_task file task refusals.NoMemory gives = tt
unread_task file task (refusals.Elf fault) gives = absurd gives
unread_task file task (refusals.ArgsTooLong bytes) gives = absurd gives
unread_task file task (refusals.UnsupportedCall number pc) gives = absurd gives
unread_task file task (refusals.BudgetSpent n) gives = absurd gives
unread_task file task refusals.InputFault gives = absurd gives
unread_task file task (refusals.OutputFault port) gives = absurd gives
unread_task file task refusals.ReportFault gives = absurd gives

-- what is so of every task
pub of_any : (o : Option (Result Task Refusal)) (P : Result Task Refusal → Type 0) → ((task : Result Task Refusal) → P task) → OfTask o P
of_any None P all = tt
of_any (Some task) P all = all task

-- and what follows of each
pub of_each : (o : Option (Result Task Refusal)) (P Q : Result Task Refusal → Type 0) → ((task : Result Task Refusal) → P task → Q task) → OfTask o P → OfTask o Q
of_each None P Q follows is = tt
of_each (Some task) P Q follows is = follows task is

-- words that were read were not refused
pub read_words_pass : (wanted : Result Wanted UsageKind) (asked : Wanted) (r : Result Done Refusal) → wanted ≡ Ok asked → ((refusal : Refusal) → r ≡ Err refusal → IsPastWords refusal) → IsOfWords wanted (answer_by r)
read_words_pass wanted asked (Ok done) is past = record { only = λ kind e. cc; always = λ kind e. absurd (both kind e) }
  where
    both : (kind : UsageKind) → wanted ≡ Err kind → ⊥
    both kind e = let same : Ok asked ≡ Err kind = sym is ∙ e in cc
read_words_pass wanted asked (Err refusal) is past = record { only = λ kind e. absurd (named kind e); always = λ kind e. absurd (both kind e) }
  where
    named : (kind : UsageKind) → answers.Refused refusal ≡ answers.Refused (refusals.Usage kind) → ⊥
    named kind e = let same : refusal ≡ refusals.Usage kind = cc in past (refusals.Usage kind) (ap (λ (k : Refusal). Err k) same)

    both : (kind : UsageKind) → wanted ≡ Err kind → ⊥
    both kind e = let same : Ok asked ≡ Err kind = sym is ∙ e in cc

pub refused_words : (wanted : Result Wanted UsageKind) (fault : WordFault) → Answers wanted (Err fault) → IsOfWords wanted (answers.Refused (refusal_of_words fault))
refused_words wanted (words.Usage kind) due = record {
  only = λ other e. let same : kind ≡ other = cc in due ∙ ap (λ (k : UsageKind). Err k) same;
  always = λ other e. let both : Err kind ≡ Err other = sym due ∙ e in let same : kind ≡ other = cc in inl (ap (λ (k : UsageKind). answers.Refused (refusals.Usage k)) same);
}
refused_words wanted words.NoMemory due = record { only = λ kind e. cc; always = λ kind e. inr refl }

-- a refusal before a run, or before a text is written
pub unready : (t new : Told) (task : Result Task Refusal) (w : World) (first now : PacerState) (refusal : Refusal) → IsBefore task refusal → t.input ≡ Some w.input → t.moments ≡ Some w.moments → new ≡ t
    → Refuses t task w first refusal new now
unready t new task w first now (refusals.Usage kind) gives input moments same = absurd gives
unready t new task w first now refusals.FileFault gives input moments same = same
unready t new task w first now refusals.FileTooLarge gives input moments same = refused_before t new task refusals.FileTooLarge w first now tt gives input moments same
unready t new task w first now (refusals.Elf fault) gives input moments same = refused_before t new task (refusals.Elf fault) w first now tt gives input moments same
unready t new task w first now (refusals.ArgsTooLong bytes) gives input moments same = refused_before t new task (refusals.ArgsTooLong bytes) w first now tt gives input moments same
unready t new task w first now refusals.NoMemory gives input moments same = inl same
unready t new task w first now (refusals.UnsupportedCall number pc) gives input moments same = absurd gives
unready t new task w first now (refusals.BudgetSpent n) gives input moments same = absurd gives
unready t new task w first now refusals.InputFault gives input moments same = absurd gives
unready t new task w first now (refusals.OutputFault port) gives input moments same = absurd gives
unready t new task w first now refusals.ReportFault gives input moments same = absurd gives

-- and what that decides
pub unready_decides : (task : Result Task Refusal) (refusal : Refusal) → IsBefore task refusal → IsDecided task (Err refusal)
unready_decides task (refusals.Usage kind) gives = absurd gives
unready_decides task refusals.FileFault gives = tt
unready_decides task refusals.FileTooLarge gives = gives
unready_decides task (refusals.Elf fault) gives = gives
unready_decides task (refusals.ArgsTooLong bytes) gives = gives
unready_decides task refusals.NoMemory gives = tt
unready_decides task (refusals.UnsupportedCall number pc) gives = absurd gives
unready_decides task (refusals.BudgetSpent n) gives = absurd gives
unready_decides task refusals.InputFault gives = absurd gives
unready_decides task (refusals.OutputFault port) gives = absurd gives
unready_decides task refusals.ReportFault gives = absurd gives

-- a run that began decides nothing but that its program was accepted
pub ran_decides : (task : Result Task Refusal) (r : Result Done Refusal) → IsAccepted task → ((refusal : Refusal) → r ≡ Err refusal → IsLate refusal) → IsDecided task r
ran_decides task (Ok done) accepted late = accepted
ran_decides task (Err (refusals.Usage kind)) accepted late = absurd (late (refusals.Usage kind) refl)
ran_decides task (Err refusals.FileFault) accepted late = tt
ran_decides task (Err refusals.NoMemory) accepted late = tt
ran_decides task (Err refusals.FileTooLarge) accepted late = absurd (late refusals.FileTooLarge refl)
ran_decides task (Err (refusals.Elf fault)) accepted late = absurd (late (refusals.Elf fault) refl)
ran_decides task (Err (refusals.ArgsTooLong bytes)) accepted late = absurd (late (refusals.ArgsTooLong bytes) refl)
ran_decides task (Err (refusals.UnsupportedCall number pc)) accepted late = accepted
ran_decides task (Err (refusals.BudgetSpent n)) accepted late = accepted
ran_decides task (Err refusals.InputFault) accepted late = accepted
ran_decides task (Err (refusals.OutputFault port)) accepted late = accepted
ran_decides task (Err refusals.ReportFault) accepted late = accepted

-- a run that began is that of what is to be done
pub ran : (t mid new : Told) (task : Result Task Refusal) (loaded : LoadedRun) (w : World) (first now : PacerState) (r : Result Done Refusal) (is : IsLoadedFor task loaded) → mid ≡ t → t.input ≡ Some w.input → t.moments ≡ Some w.moments
    → (mid.input ≡ Some w.input → mid.moments ≡ Some w.moments → loaded.guest.machine ≡ machine_of loaded.image is.strings
    → AttemptGives mid (Ok (Runs (program_by loaded.image is.strings (meaning_of loaded.image loaded.tool) loaded.how))) w first r new now)
    → AttemptGives t task w first r new now
ran t mid new task loaded w first now r is same input moments gives =
    subst (λ (k : Result Task Refusal). AttemptGives t k w first r new now) (sym is.task_is)
    (subst (λ (q : Told). AttemptGives q (Ok (Runs (program_by loaded.image is.strings (meaning_of loaded.image loaded.tool) loaded.how))) w first r new now) same
    (gives (ap (λ (q : Told). q.input) same ∙ input) (ap (λ (q : Told). q.moments) same ∙ moments) is.machine_is))
