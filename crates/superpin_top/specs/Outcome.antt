-- What is answered, and what stands where then.
use Rattle.std.specs.Prelude.{◌≡◌, ◌≢◌, ℕ, ◌-◌, ◌^◌, ◌<◌, ◌||◌, true, List, [], ◌++◌, length, Option, None, Some, Result, Ok, Err, ◌⊎◌, ◌↔◌}
use Rattle.sp_host.specs.Told.{Told, Files, appended, sent as sent_to, PartSent}
use Rattle.sp_host.specs.Faults.{To, Faults, Faulted}
use Rattle.sp_host.specs.declared.host.Port.TheVariants.{Out, Report}
use Rattle.elf_load.specs.Elf.{image_of, refusal_of}
use Rattle.elf_load.specs.Image.{ImageFields}
use Rattle.guest_model.specs.Call.{World}
use Rattle.guest_model.specs.Serial.{sent_at}
use Rattle.master_run.specs.Answers.{PacerState}
use Rattle.ordered_merge.specs.declared.merger.SliceLine.{SliceLine}
use Rattle.syscall_layer.specs.Serve.{PartWritten}
use Rattle.syscall_layer.specs.Step.{StopsInput}
use Rattle.sp_report.specs.Lines.{refusal_line}
use Rattle.sp_report.specs.View.{view_text}
use Rattle.sp_report.specs.declared.answer.Answer.{Answer}
use Rattle.sp_report.specs.declared.answer.Answer.TheVariants.{Ended, Refused}
use Rattle.sp_report.specs.declared.answer.Refusal.{Refusal}
use Rattle.sp_report.specs.declared.answer.Refusal.TheVariants as refusals
use Rattle.serial_run.specs.Run.{StepBefore}
use Rattle.sp_words.specs.Due.{Due, Program, delivered, due_run, run_of_program}
use Rattle.sp_words.specs.Run.{IsSlicedBy, Run, Slicing, steps_of}
use Rattle.demo_run.specs.Demo.{DemoGives, IsDemoText}
use Rattle.prog_gen.specs.Demo.{demo_headers, demo_instrs}
use Rattle.prog_gen.specs.File.{Adds}
use Rattle.superpin_top.specs.Due.{OfTask, Task, Runs, Shows, due_task, not_sliced, slicing_in}
use Rattle.superpin_top.specs.Engine.{WantsWithin}
use Rattle.superpin_top.specs.Causes.{CausedBy, is_early, is_of_run}
use Rattle.superpin_top.specs.declared.engine.Done.{Done}

-- holds of the files and of the input and moments left, where they are told
abbrev pub WhereAllTold : Told → (Files → World → Type 0) → Type 0
WhereAllTold t P = (files : Files) (w : World) → t.files ≡ Some files → t.input ≡ Some w.input → t.moments ≡ Some w.moments → P files w

-- the same, and of what is asked for where that is no demonstration
abbrev pub WhereTask : Told → (Files → Option (Result Task Refusal)) → (Result Task Refusal → World → Type 0) → Type 0
WhereTask t task_at P = WhereAllTold t (λ files w. OfTask (task_at files) (λ task. P task w))

-- the due answer is this one, and its bytes but for the report were written
pub record IsDue (t : Told) (d : Due) (answer : Answer) (new : Told) : Type 0 where
  pub answer_is : d.answer ≡ answer
  pub told_is : new ≡ delivered t d []

-- a run that ended is due
abbrev pub IsEndDue : Due → Type 0
IsEndDue d = (status : ℕ) × (cuts : List ℕ) × (lines : List SliceLine) × (d.answer ≡ Ended status cuts lines)

-- where what is to be done is a run by windows, this is how it is sliced; nothing else asks the pacer
abbrev pub IsSlicedFor : Result Task Refusal → World → PacerState → PacerState → Slicing → Type 0
IsSlicedFor (Ok (Runs p)) w first now s = IsSlicedBy p.engine.by (run_of_program p w) first now s
IsSlicedFor (Ok (Shows image)) w first now s = now ≡ first
IsSlicedFor (Err refusal) w first now s = now ≡ first

-- what is to be done is this run
abbrev pub OfRun : Result Task Refusal → World → (Run → Type 0) → Type 0
OfRun task w P = (p : Program) × (task ≡ Ok (Runs p)) × P (run_of_program p w)

-- what is to be done is to show this text
abbrev pub OfText : Result Task Refusal → (List ℕ → Type 0) → Type 0
OfText task P = (image : ImageFields) × (task ≡ Ok (Shows image)) × P (view_text image)

-- The places at which the outside stands when a command is refused, before the line of the refusal is written.
-- After a file fault nothing was written. A refusal that is due comes with the due bytes: none before a run, and in a run those
-- of the steps that ran. After an input fault they are the bytes of the steps before a call that reads, and a beginning of
-- what it asks for was taken from the input. After an output fault of a run they are the bytes of the steps before a call that
-- writes, and a proper beginning of that call's; where a text is shown, a proper beginning of it on the standard output. After
-- a report fault they are the whole run's, and a proper beginning of the report. Memory is wanting before a run, or before a
-- text is written, where nothing was written; before a call that takes memory; before or behind a step, where the tool may take
-- memory for an event; or after a run that ended.
abbrev pub Refuses : Told → Result Task Refusal → World → PacerState → Refusal → Told → PacerState → Type 0
Refuses t task w first refusals.FileFault new now = new ≡ t
Refuses t task w first refusals.InputFault new now = OfRun task w (λ r. StepBefore (steps_of r) (λ q before. StopsInput t q before new))
Refuses t task w first (refusals.OutputFault port) new now =
    (OfRun task w (λ r. StepBefore (steps_of r) (λ q before. PartWritten t q.world before port (sent_at q) new)))
    ⊎ (OfText task (λ text. (port ≡ Out) × PartSent Out text t new))
Refuses t task w first refusals.ReportFault new now =
    (s : Slicing) × IsSlicedFor task w first now s × IsEndDue (due_task task w s) × PartSent Report (due_task task w s).report (delivered t (due_task task w s) []) new
Refuses t task w first refusals.NoMemory new now =
    (new ≡ t)
    ⊎ (OfRun task w (λ r. WantsWithin r.by r t new)
    ⊎ OfRun task w (λ r. IsEndDue (due_run r not_sliced) × (new ≡ delivered t (due_run r not_sliced) [])))
Refuses t task w first refusal new now = IsDue t (due_task task w not_sliced) (Refused refusal) new

-- what a command that was done told of its slices
abbrev pub done_slicing : Done → Slicing
done_slicing done = record { cuts = done.cuts; lines = done.lines }

-- a command that was done, with all its bytes
pub record IsDone (t : Told) (task : Result Task Refusal) (w : World) (first : PacerState) (done : Done) (new : Told) (now : PacerState) : Type 0 where
  pub answer_is : (due_task task w (done_slicing done)).answer ≡ Ended done.status done.cuts done.lines
  pub told_is : new ≡ delivered t (due_task task w (done_slicing done)) (due_task task w (done_slicing done)).report
  pub sliced : IsSlicedFor task w first now (done_slicing done)

abbrev pub AttemptGives : Told → Result Task Refusal → World → PacerState → Result Done Refusal → Told → PacerState → Type 0
AttemptGives t task w first (Ok done) new now = IsDone t task w first done new now
AttemptGives t task w first (Err refusal) new now = Refuses t task w first refusal new now

-- the line of a refusal was written, or a proper beginning of it where the count of Report rose
pub record WritesLine (refusal : Refusal) (old new : Told) (before now : Faults) : Type 0 where
  pub line : List ℕ
  pub rest : List ℕ
  pub is_front : line ++ rest ≡ refusal_line refusal
  pub told_is : new ≡ sent_to Report line old
  pub cause : ((rest ≡ []) × (now ≡ before)) ⊎ ((rest ≢ []) × Faulted (To Report) before now)

-- Where the outside stood before the line of a refusal, and after it.
pub record IsRefused (t : Told) (task : Result Task Refusal) (w : World) (first : PacerState) (refusal : Refusal) (before : Faults) (new : Told) (after : Faults) (now : PacerState) : Type 0 where
  pub mid : Told
  pub middle : Faults
  pub refuses : Refuses t task w first refusal mid now
  pub caused : CausedBy refusal before middle
  pub writes : WritesLine refusal mid new middle after

-- where a run ended, or a text was shown
pub record IsEnded (t : Told) (task : Result Task Refusal) (w : World) (first : PacerState) (before : Faults) (answer : Answer) (new : Told) (after : Faults) (now : PacerState) : Type 0 where
  pub answer_is : (due_task task w (slicing_in answer)).answer ≡ answer
  pub told_is : new ≡ delivered t (due_task task w (slicing_in answer)) (due_task task w (slicing_in answer)).report
  pub sliced : IsSlicedFor task w first now (slicing_in answer)
  pub same : after ≡ before

-- the outcome
abbrev pub Outcome : Told → Result Task Refusal → World → PacerState → Faults → Answer → Told → Faults → PacerState → Type 0
Outcome t task w first before (Ended status cuts lines) new after now = IsEnded t task w first before (Ended status cuts lines) new after now
Outcome t task w first before (Refused refusal) new after now = IsRefused t task w first refusal before new after now

-- an answer of a run that ended tells how it was sliced
abbrev pub TellsSlices : Result Task Refusal → World → PacerState → PacerState → Answer → Type 0
TellsSlices task w first now (Ended status cuts lines) = IsSlicedFor task w first now (record { cuts = cuts; lines = lines })
TellsSlices task w first now (Refused refusal) = Unit {0}

-- each count can still rise
pub record CanRise (f : Faults) : Type 0 where
  pub file : f.file < 2 ^ 64 - 1
  pub input : f.input < 2 ^ 64 - 1
  pub out : f.out < 2 ^ 64 - 1
  pub err : f.err < 2 ^ 64 - 1
  pub report : f.report < 2 ^ 64 - 1

-- the counts of the run stand as before: that of files, of the input, of the ports that the guest can write to
pub record NoneRose (before now : Faults) : Type 0 where
  pub file : now.file ≡ before.file
  pub input : now.input ≡ before.input
  pub out : now.out ≡ before.out
  pub err : now.err ≡ before.err

-- the due answer with exactly the due bytes, or want of memory
abbrev pub IsDelivered : Told → Due → Answer → Told → Type 0
IsDelivered t d answer new = (answer ≡ Refused refusals.NoMemory) ⊎ ((answer ≡ d.answer) × (new ≡ delivered t d d.report))

-- the words and the file were accepted
abbrev pub IsAccepted : Result Task Refusal → Type 0
IsAccepted task = (accepted : Task) × (task ≡ Ok accepted)

-- what the words and the file decide of an attempt; where the file could not be read, or memory was wanting, nothing
abbrev pub IsDecided : Result Task Refusal → Result Done Refusal → Type 0
IsDecided task (Ok done) = IsAccepted task
IsDecided task (Err refusals.FileFault) = Unit {0}
IsDecided task (Err refusals.NoMemory) = Unit {0}
IsDecided task (Err (refusals.Usage kind)) = task ≡ Err (refusals.Usage kind)
IsDecided task (Err refusals.FileTooLarge) = task ≡ Err refusals.FileTooLarge
IsDecided task (Err (refusals.Elf fault)) = task ≡ Err (refusals.Elf fault)
IsDecided task (Err (refusals.ArgsTooLong bytes)) = task ≡ Err (refusals.ArgsTooLong bytes)
IsDecided task (Err _) = IsAccepted task

-- a status is answered only where no count rose
abbrev pub IsEndedWhereNone : Answer → Faults → Faults → Type 0
IsEndedWhereNone (Ended status cuts lines) before now = now ≡ before
IsEndedWhereNone (Refused refusal) before now = Unit {0}

-- a refusal that the words and the file decide comes exactly where they do
abbrev pub IsEarly : Result Task Refusal → Answer → Type 0
IsEarly task answer = (refusal : Refusal) → is_early refusal ≡ true → (answer ≡ Refused refusal) ↔ (task ≡ Err refusal)

-- where a run that ended is answered as such, and where as a fault of its report
abbrev pub IsReported : Due → ℕ → ℕ → Answer → Type 0
IsReported d before now answer = (status : ℕ) (cuts : List ℕ) (lines : List SliceLine) → d.answer ≡ Ended status cuts lines →
    ((answer ≡ Ended status cuts lines) ↔ (now ≡ before)) × ((answer ≡ Refused refusals.ReportFault) ↔ (before < now))

-- The cause of every answer, where memory was found and no call of the run failed: it is the due one, but for a report
-- fault, which comes exactly where the run ended and the count of Report rose.
pub record IsCaused (d : Due) (before now : Faults) (answer : Answer) : Type 0 where
  pub refused : (refusal : Refusal) → (is_early refusal || is_of_run refusal) ≡ true → (answer ≡ Refused refusal) ↔ (d.answer ≡ Refused refusal)
  pub reported : IsReported d before.report now.report answer
  pub no_report : answer ≡ Refused refusals.ReportFault → IsEndDue d

-- a beginning of these bytes was added, where told
pub record AddsFront (old : Option (List ℕ)) (bytes : List ℕ) (new : Option (List ℕ)) : Type 0 where
  pub written : List ℕ
  pub rest : List ℕ
  pub is_front : written ++ rest ≡ bytes
  pub told_is : new ≡ appended old written

-- a text was written to the standard output, or a proper beginning of it
abbrev pub ShowTells : List ℕ → Told → Result Done Refusal → Told → Type 0
ShowTells text t (Ok done) new = (done ≡ record { status = 0; cuts = []; lines = [] }) × (new ≡ sent_to Out text t)
ShowTells text t (Err (refusals.OutputFault port)) new = (port ≡ Out) × PartSent Out text t new
ShowTells text t (Err _) new = ⊥

-- the demonstration of this number prints this: the file is the one of its program
abbrev pub DemoPrints : ℕ → List ℕ → Type 0
DemoPrints n text = (file : List ℕ) × Adds (demo_instrs n) demo_headers file × (refusal_of file ≡ None) × IsDemoText n (length file) (image_of file) text

-- what a demonstration that is refused leaves, before the line of the refusal is written: nothing, or a proper beginning of its text
abbrev pub DemoRefuses : ℕ → Told → Refusal → Told → Type 0
DemoRefuses n t (refusals.OutputFault port) new = (port ≡ Out) × ((text : List ℕ) × DemoPrints n text × PartSent Out text t new)
DemoRefuses n t refusal new = DemoGives n (Err refusal) × (new ≡ t)

abbrev pub DemoTells : ℕ → Told → Result Done Refusal → Told → Type 0
DemoTells n t (Ok done) new = (done.status ≡ 0) × (done.cuts ≡ []) × (done.lines ≡ []) × ((text : List ℕ) × DemoPrints n text × (new ≡ sent_to Out text t))
DemoTells n t (Err refusal) new = DemoRefuses n t refusal new

-- what a demonstration answers, and what stands where then
pub record IsDemoEnded (n : ℕ) (t : Told) (before : Faults) (answer : Answer) (new : Told) (after : Faults) : Type 0 where
  pub answer_is : answer ≡ Ended 0 [] []
  pub text : List ℕ
  pub prints : DemoPrints n text
  pub told_is : new ≡ sent_to Out text t
  pub same : after ≡ before

pub record IsDemoRefused (n : ℕ) (t : Told) (before : Faults) (refusal : Refusal) (new : Told) (after : Faults) : Type 0 where
  pub mid : Told
  pub middle : Faults
  pub refuses : DemoRefuses n t refusal mid
  pub caused : CausedBy refusal before middle
  pub writes : WritesLine refusal mid new middle after

abbrev pub DemoOutcome : ℕ → Told → Faults → Answer → Told → Faults → Type 0
DemoOutcome n t before (Ended status cuts lines) new after = IsDemoEnded n t before (Ended status cuts lines) new after
DemoOutcome n t before (Refused refusal) new after = IsDemoRefused n t before refusal new after
