-- A run with a tool, of whatever engine, from the clauses of the parts of a top call.
use Rattle.std.proofs.Common.{◌≡◌, ℕ, List, sym, subst}
use Rattle.std.specs.Prelude.{Some, Result, Ok, Err, IfErr}
use Rattle.sp_host.specs.Told.{Told, WhereTold, file_of}
use Rattle.sp_host.specs.Faults.{Faults}
use Rattle.elf_load.specs.Image.{ImageFields}
use Rattle.guest_model.specs.Call.{World}
use Rattle.guest_model.specs.Machine.{Machine}
use Rattle.guest_model.specs.Serial.{TraceItem}
use Rattle.master_run.specs.Answers.{PacerState}
use Rattle.ordered_merge.specs.declared.finished.Finished.{Finished}
use Rattle.sp_report.specs.declared.answer.Refusal.{Refusal}
use Rattle.sp_report.specs.declared.answer.Refusal.TheVariants as refusals
use Rattle.sp_words.specs.Asked.{RunWanted, ToRun}
use Rattle.sp_words.specs.Due.{run_of_program}
use Rattle.sp_words.specs.Run.{Run, ToolMeaning}
use Rattle.sp_words.specs.Tools.{meaning_of}
use Rattle.sp_words.specs.declared.asked.ToolName.{ToolName}
use Rattle.syscall_layer.specs.declared.fault.RunFault.{RunFault}
use Rattle.superpin_top.specs.Answered.{IsTried}
use Rattle.superpin_top.specs.Causes.{CausedBy, HasCause}
use Rattle.superpin_top.specs.Due.{Runs, run_task}
use Rattle.superpin_top.specs.Engine.{EngineGives, EngineTells, program_by}
use Rattle.superpin_top.specs.Outcome.{AttemptGives}
use Rattle.superpin_top.specs.Top.{IsBefore, IsLate, IsLoadedFor, IsPastWords, RunTells}
use Rattle.superpin_top.specs.declared.engine.Done.{Done}
use Rattle.superpin_top.specs.declared.engine.How.{How}
use Rattle.superpin_top.specs.declared.load.LoadedRun.{LoadedRun}
use Rattle.superpin_top.proofs.Outcomes.{at_begin, begun}
use Rattle.superpin_top.proofs.Ready.{ran, ran_decides, unready, unready_decides}

-- what an engine answered of a guest that stands where its program begins, and what is made of that
pub engine_run : {T L S : Type 0} (is_value : List TraceItem → S → Type 0) (image : ImageFields) (m : Machine) (tool : ToolMeaning) (how : How) (t mid new : Told) (first now : PacerState) (run : Result (Finished T L S) RunFault) (r : Result Done Refusal)
    → EngineTells is_value tool.grows m how t first run mid now
    → ((w : World) (strings : List (List ℕ)) → t.input ≡ Some w.input → t.moments ≡ Some w.moments → EngineGives is_value t (run_of_program (program_by image strings tool how) w) first run mid now
    → AttemptGives t (Ok (Runs (program_by image strings tool how))) w first r new now)
    → RunTells image m tool how t first r new now
engine_run is_value image m tool how t mid new first now run r tells finish w strings input moments begins =
    finish w strings input moments (subst (λ (q : Run). EngineGives is_value t q first run mid now) (begun (program_by image strings tool how) m w begins) (tells tool.text t w (at_begin t w input moments)))

-- the tool of this name
pub named_run : (image : ImageFields) (m : Machine) (how : How) (t new : Told) (first now : PacerState) (r : Result Done Refusal) (name tool : ToolName) → tool ≡ name → RunTells image m (meaning_of image name) how t first r new now
    → RunTells image m (meaning_of image tool) how t first r new now
named_run image m how t new first now r name tool is tells = subst (λ (k : ToolName). RunTells image m (meaning_of image k) how t first r new now) (sym is) tells

-- a refusal of a run that began is none of the words
late_past : (r : Result Done Refusal) → IfErr r IsLate → IfErr r IsPastWords
late_past (Ok done) late = tt
late_past (Err (refusals.Usage kind)) late = late
late_past (Err refusals.FileFault) late = tt
late_past (Err refusals.FileTooLarge) late = tt
late_past (Err (refusals.Elf fault)) late = tt
late_past (Err (refusals.ArgsTooLong bytes)) late = tt
late_past (Err (refusals.UnsupportedCall number pc)) late = tt
late_past (Err (refusals.BudgetSpent n)) late = tt
late_past (Err refusals.InputFault) late = tt
late_past (Err (refusals.OutputFault port)) late = tt
late_past (Err refusals.ReportFault) late = tt
late_past (Err refusals.NoMemory) late = tt

-- the run that is asked for, of a program that was loaded
pub run_tried : (asked : RunWanted) (t mid new : Told) (before middle after : Faults) (first now : PacerState) (loaded : LoadedRun) (r : Result Done Refusal)
    → WhereTold t.files (λ files. IsLoadedFor (run_task (file_of files asked.file) asked) loaded) → mid ≡ t → middle ≡ before
    → RunTells loaded.image loaded.guest.machine (meaning_of loaded.image loaded.tool) loaded.how mid first r new now → HasCause middle after r → IfErr r IsLate
    → IsTried (ToRun asked) t before first r new after now
run_tried asked t mid new before middle after first now loaded r loads same calm tells caused late = record {
  early = λ files files_are. let is = loads files files_are in
      ran_decides (run_task (file_of files asked.file) asked) r (Runs (program_by loaded.image is.strings (meaning_of loaded.image loaded.tool) loaded.how), is.task_is)
      (λ refusal e. subst (λ (k : Result Done Refusal). IfErr k IsLate) e late);
  told = λ files w files_are input moments. let is = loads files files_are in
      ran t mid new (run_task (file_of files asked.file) asked) loaded w first now r is same input moments (tells w is.strings);
  faults = subst (λ (f : Faults). HasCause f after r) calm caused;
  past = late_past r late;
}

-- and of one that was refused before
pub run_untried : (asked : RunWanted) (t mid : Told) (before middle : Faults) (first : PacerState) (refusal : Refusal)
    → WhereTold t.files (λ files. IsBefore (run_task (file_of files asked.file) asked) refusal) → mid ≡ t → CausedBy refusal before middle → IsPastWords refusal
    → IsTried (ToRun asked) t before first (Err refusal) mid middle first
run_untried asked t mid before middle first refusal loads same caused past = record {
  early = λ files files_are. unready_decides (run_task (file_of files asked.file) asked) refusal (loads files files_are);
  told = λ files w files_are input moments. unready t mid (run_task (file_of files asked.file) asked) w first first refusal (loads files files_are) input moments same;
  faults = caused;
  past = past;
}
