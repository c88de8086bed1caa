-- What words ask for, tried and answered, whatever words these are. `wanted` is what they ask for, and `task_at` what is to be done
-- with these files. The clauses of the top calls are those of `IsAnswered`, each under its name.
use Rattle.std.specs.Prelude.{◌≡◌, ◌≢◌, ◌<◌, ◌-◌, ◌^◌, ◌↔◌, ℕ, Option, Result, IfErr}
use Rattle.sp_host.specs.Told.{Files, Told, WhereTold}
use Rattle.sp_host.specs.Faults.{Faults, To, count_of}
use Rattle.sp_host.specs.declared.host.Port.{Port}
use Rattle.sp_host.specs.declared.host.Port.TheVariants.{Report}
use Rattle.master_run.specs.Answers.{PacerState}
use Rattle.sp_report.specs.Answer.{exit_code_of}
use Rattle.sp_report.specs.declared.answer.Answer.{Answer}
use Rattle.sp_report.specs.declared.answer.Answer.TheVariants.{Refused}
use Rattle.sp_report.specs.declared.answer.Refusal.{Refusal}
use Rattle.sp_report.specs.declared.answer.Refusal.TheVariants as refusals
use Rattle.sp_report.specs.declared.answer.UsageKind.{UsageKind}
use Rattle.sp_words.specs.Asked.{Wanted}
use Rattle.superpin_top.specs.Causes.{HasCause}
use Rattle.superpin_top.specs.Due.{OfTask, Task, due_task, slicing_in, task_in}
use Rattle.superpin_top.specs.Outcome.{AddsFront, AttemptGives, CanRise, IsCaused, IsDecided, IsDelivered, IsEarly, IsEndedWhereNone, NoneRose, Outcome, TellsSlices, WhereTask, WritesLine}
use Rattle.superpin_top.specs.Top.{IsOfWords, IsPastWords, answer_by}
use Rattle.superpin_top.specs.declared.engine.Done.{Done}

-- The causes that show on every host. A fault of the files, of the input or of an output is answered exactly where its count rose,
-- and a fault of the report only there, if the count can rise.
abbrev pub TellsFileFault : Answer → Faults → Faults → Type 0
TellsFileFault answer before after = before.file < 2 ^ 64 - 1 → (answer ≡ Refused refusals.FileFault) ↔ (before.file < after.file)

abbrev pub TellsInputFault : Answer → Faults → Faults → Type 0
TellsInputFault answer before after = before.input < 2 ^ 64 - 1 → (answer ≡ Refused refusals.InputFault) ↔ (before.input < after.input)

abbrev pub TellsOutputFault : Answer → Faults → Faults → Type 0
TellsOutputFault answer before after = (port : Port) → port ≢ Report → count_of (To port) before < 2 ^ 64 - 1 →
    (answer ≡ Refused (refusals.OutputFault port)) ↔ (count_of (To port) before < count_of (To port) after)

abbrev pub TellsReportFault : Answer → Faults → Faults → Type 0
TellsReportFault answer before after = before.report < 2 ^ 64 - 1 → answer ≡ Refused refusals.ReportFault → before.report < after.report

-- the port of an output fault is one that a guest can write to
abbrev pub NamesGuestPort : Answer → Type 0
NamesGuestPort answer = (port : Port) → answer ≡ Refused (refusals.OutputFault port) → port ≢ Report

-- where the files are told: the refusals that the words and the file alone decide
abbrev pub IsEarlyAt : (Files → Option (Result Task Refusal)) → Told → Faults → Answer → Faults → Type 0
IsEarlyAt task_at t before answer after = WhereTold t.files (λ files. before.file < 2 ^ 64 - 1 → after.file ≡ before.file → answer ≢ Refused refusals.NoMemory →
    OfTask (task_at files) (λ task. IsEarly task answer))

-- where the host tells: what is answered, and what stands where then, for each answer
abbrev pub OutcomeAt : (Files → Option (Result Task Refusal)) → Told → Faults → PacerState → Answer → Told → Faults → PacerState → Type 0
OutcomeAt task_at t before first answer new after now = WhereTask t task_at (λ task w. Outcome t task w first before answer new after now)

-- where no count rose: the due answer with exactly the due bytes, or want of memory
abbrev pub IsDeliveredAt : (Files → Option (Result Task Refusal)) → Told → Faults → Answer → Told → Faults → Type 0
IsDeliveredAt task_at t before answer new after = WhereTask t task_at (λ task w. CanRise before → after ≡ before → IsDelivered t (due_task task w (slicing_in answer)) answer new)

-- the cuts and the lines of a run that ended are those that the pacer's answers and the limits make due
abbrev pub TellsSlicesAt : (Files → Option (Result Task Refusal)) → Told → PacerState → Answer → PacerState → Type 0
TellsSlicesAt task_at t first answer now = WhereTask t task_at (λ task w. TellsSlices task w first now answer)

-- the cause of every other answer, where no call of the run failed and memory was found
abbrev pub IsCausedAt : (Files → Option (Result Task Refusal)) → Told → Faults → Answer → Faults → Type 0
IsCausedAt task_at t before answer after = WhereTask t task_at (λ task w. CanRise before → NoneRose before after → answer ≢ Refused refusals.NoMemory →
    IsCaused (due_task task w (slicing_in answer)) before after answer)

-- what was sent to an output is a beginning of what the run sends there
abbrev pub AddsFrontAt : (Files → Option (Result Task Refusal)) → Told → Answer → Told → Type 0
AddsFrontAt task_at t answer new = WhereTask t task_at (λ task w. AddsFront t.out (due_task task w (slicing_in answer)).out new.out)

abbrev pub AddsErrorFrontAt : (Files → Option (Result Task Refusal)) → Told → Answer → Told → Type 0
AddsErrorFrontAt task_at t answer new = WhereTask t task_at (λ task w. AddsFront t.err (due_task task w (slicing_in answer)).err new.err)

-- the exit code of an answer with that outcome
abbrev pub ExitsAt : (Files → Option (Result Task Refusal)) → Told → Faults → PacerState → ℕ → Told → Faults → PacerState → Type 0
ExitsAt task_at t before first code new after now = WhereTask t task_at (λ task w. (answer : Answer) × (code ≡ exit_code_of answer) × Outcome t task w first before answer new after now)

-- the exit code where words could not be read, with the line of their refusal
abbrev pub ExitsUnread : Refusal → ℕ → Told → Told → Faults → Faults → Type 0
ExitsUnread refusal code old new before after = (code ≡ 125) × WritesLine refusal old new before after

-- what is asked for was tried, from where the outside, the counts and the pacer stood to where they stand
pub record IsTried (asked : Wanted) (t : Told) (before : Faults) (first : PacerState) (attempt : Result Done Refusal) (new : Told) (after : Faults) (now : PacerState) : Type 0 where
  pub early : WhereTold t.files (λ files. OfTask (task_in files asked) (λ task. IsDecided task attempt))
  pub told : WhereTask t (λ files. task_in files asked) (λ task w. AttemptGives t task w first attempt new now)
  pub faults : HasCause before after attempt
  pub past : IfErr attempt IsPastWords

module _ (wanted : Result Wanted UsageKind) (task_at : Files → Option (Result Task Refusal)) (t : Told) (before : Faults) (first : PacerState) where
  -- an attempt that began where the outside, the counts and the pacer stood so, and where they stand behind it
  pub record IsAttempt (attempt : Result Done Refusal) (mid : Told) (middle : Faults) (now : PacerState) : Type 0 where
    pub words : IsOfWords wanted (answer_by attempt)
    pub early : WhereTold t.files (λ files. OfTask (task_at files) (λ task. IsDecided task attempt))
    pub told : WhereTask t task_at (λ task w. AttemptGives t task w first attempt mid now)
    pub faults : HasCause before middle attempt

  -- its answer, and where they stand then
  pub record IsAnswered (answer : Answer) (new : Told) (after : Faults) (now : PacerState) : Type 0 where
    -- the causes that show on every host
    pub words : IsOfWords wanted answer
    pub file_fault : TellsFileFault answer before after
    pub input_fault : TellsInputFault answer before after
    pub output_fault : TellsOutputFault answer before after
    pub report_fault : TellsReportFault answer before after
    pub ended : IsEndedWhereNone answer before after
    pub other_port : NamesGuestPort answer
    -- where the files are told
    pub early : IsEarlyAt task_at t before answer after
    -- where the host tells
    pub outcome : OutcomeAt task_at t before first answer new after now
    pub headline : IsDeliveredAt task_at t before answer new after
    pub sliced : TellsSlicesAt task_at t first answer now
    pub causes : IsCausedAt task_at t before answer after
    pub front : AddsFrontAt task_at t answer new
    pub error_front : AddsErrorFrontAt task_at t answer new
