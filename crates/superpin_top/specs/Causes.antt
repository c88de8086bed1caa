-- The cause of each refusal.
use Rattle.std.specs.Prelude.{◌≡◌, ◌≢◌, Bool, true, false, Option, None, Some, Result, MatchResult}
use Rattle.sp_host.specs.Faults.{File, Input, To, Source, Faults, Caused}
use Rattle.sp_host.specs.declared.host.Port.TheVariants.{Report}
use Rattle.sp_host.specs.declared.whole.ReadFault.{ReadFault}
use Rattle.sp_host.specs.declared.whole.ReadFault.TheVariants as reads
use Rattle.syscall_layer.specs.declared.fault.RunFault.{RunFault}
use Rattle.syscall_layer.specs.declared.fault.RunFault.TheVariants as runs
use Rattle.sp_words.specs.declared.asked.WordFault.{WordFault}
use Rattle.sp_words.specs.declared.asked.WordFault.TheVariants as words
use Rattle.sp_report.specs.declared.answer.Refusal.{Refusal}
use Rattle.sp_report.specs.declared.answer.Refusal.TheVariants as refusals

-- the refusal of a fault
abbrev pub refusal_of_read : ReadFault → Refusal
refusal_of_read reads.FileFault = refusals.FileFault
refusal_of_read reads.FileTooLarge = refusals.FileTooLarge
refusal_of_read reads.NoMemory = refusals.NoMemory

abbrev pub refusal_of_words : WordFault → Refusal
refusal_of_words (words.Usage kind) = refusals.Usage kind
refusal_of_words words.NoMemory = refusals.NoMemory

abbrev pub refusal_of_run : RunFault → Refusal
refusal_of_run (runs.Unsupported number pc) = refusals.UnsupportedCall number pc
refusal_of_run (runs.BudgetSpent n) = refusals.BudgetSpent n
refusal_of_run runs.InputFault = refusals.InputFault
refusal_of_run (runs.OutputFault port) = refusals.OutputFault port
refusal_of_run runs.NoMemory = refusals.NoMemory

-- the count that the cause of a refusal raised: that of files, of the input, of a port that the guest can write to, of the
-- report; the other refusals come where no count rose
abbrev pub cause_of : Refusal → Option Source
cause_of (refusals.Usage kind) = None
cause_of refusals.FileFault = Some File
cause_of refusals.FileTooLarge = None
cause_of (refusals.Elf fault) = None
cause_of (refusals.ArgsTooLong bytes) = None
cause_of (refusals.UnsupportedCall number pc) = None
cause_of (refusals.BudgetSpent n) = None
cause_of refusals.InputFault = Some Input
cause_of (refusals.OutputFault port) = Some (To port)
cause_of refusals.ReportFault = Some (To Report)
cause_of refusals.NoMemory = None

-- the report is no port of an output fault
abbrev pub IsOfGuest : Refusal → Type 0
IsOfGuest (refusals.OutputFault port) = port ≢ Report
IsOfGuest refusal = Unit {0}

abbrev pub CausedBy : Refusal → Faults → Faults → Type 0
CausedBy refusal before now = Caused (cause_of refusal) before now × IsOfGuest refusal

-- no count rose, or that of the cause of the refusal
abbrev pub HasCause : {X : Type 0} → Faults → Faults → Result X Refusal → Type 0
HasCause before now result = MatchResult result (λ _. now ≡ before) (λ e. CausedBy e before now)

-- the refusals that the words and the file alone decide
abbrev pub is_early : Refusal → Bool
is_early (refusals.Usage kind) = true
is_early refusals.FileTooLarge = true
is_early (refusals.Elf fault) = true
is_early (refusals.ArgsTooLong bytes) = true
is_early refusal = false

-- those that the run decides, from the input and the moments too
abbrev pub is_of_run : Refusal → Bool
is_of_run (refusals.UnsupportedCall number pc) = true
is_of_run (refusals.BudgetSpent n) = true
is_of_run refusal = false
