-- From what the parts answer to what is due.
use Rattle.std.proofs.Common.{inl, inr, ◌≡◌, ℕ, List, [], refl, ap, sym, subst, ◌∙◌}
use Rattle.std.specs.Prelude.{Option, Some, Ok, Err, Result}
use Rattle.sp_host.specs.Told.{Told, appended, sent as sent_to, PartSent}
use Rattle.sp_host.specs.declared.host.Port.TheVariants.{Out, Report}
use Rattle.sp_host.proofs.Told.{appended-nil, appended-more}
use Rattle.guest_model.specs.Call.{World}
use Rattle.guest_model.specs.Machine.{Machine}
use Rattle.guest_model.specs.Runs.{RunState, Running, Ended as RunEnded}
use Rattle.guest_model.specs.Serial.{Position, End, Exit, Signal, Unsupported, run_of, sent_of, trace_of}
use Rattle.rv_machine.specs.Load.{machine_of}
use Rattle.rv_machine.specs.Step.{kind_number, status_of}
use Rattle.rv_machine.specs.declared.step.End.{End as GuestEnd}
use Rattle.rv_machine.specs.declared.step.End.TheVariants as ends
use Rattle.syscall_layer.specs.Serve.{told_after}
use Rattle.syscall_layer.specs.declared.fault.RunFault.{RunFault}
use Rattle.syscall_layer.specs.declared.fault.RunFault.TheVariants as faults
use Rattle.sp_report.specs.Lines.{end_by}
use Rattle.sp_report.specs.View.{view_text}
use Rattle.sp_report.specs.declared.answer.Answer.TheVariants.{Ended, Refused}
use Rattle.sp_report.specs.declared.answer.Refusal.{Refusal}
use Rattle.sp_report.specs.declared.answer.Refusal.TheVariants as refusals
use Rattle.master_run.specs.Answers.{PacerState}
use Rattle.serial_run.specs.Run.{EndsAt, RunLacks}
use Rattle.sliced_run.specs.Sliced.{SlicedFail}
use Rattle.sp_words.specs.Due.{Due, Program, delivered, due_refused, due_run, due_state, report_of, run_of_program}
use Rattle.sp_words.specs.Run.{IsSlicedBy, Run, Slicing, slicing_of, steps_of}
use Rattle.sp_words.specs.declared.asked.By.{By}
use Rattle.sp_words.specs.declared.asked.By.TheVariants.{Serial, Windows}
use Rattle.superpin_top.specs.Causes.{refusal_of_run}
use Rattle.superpin_top.specs.Due.{Task, Runs, due_shown, not_sliced}
use Rattle.superpin_top.specs.Engine.{EngineFails, WantsWithin, run_from}
use Rattle.superpin_top.specs.Outcome.{IsDue, OfText, Refuses, AttemptGives, done_slicing}
use Rattle.superpin_top.specs.declared.engine.Done.{Done}

-- where the input and the moments are told, a run begins here
pub at_begin : (t : Told) (w : World) → t.input ≡ Some w.input → t.moments ≡ Some w.moments → t ≡ told_after t w []
at_begin t w input moments =
    ap (λ (o : Option (List ℕ)). record t { input = o }) input
    ∙ ap (λ (o : Option (List ℕ)). record t { input = Some w.input; moments = o }) moments
    ∙ ap (λ (o : Option (List ℕ)). record t { input = Some w.input; moments = Some w.moments; out = o }) (sym (appended-nil t.out))
    ∙ ap (λ (o : Option (List ℕ)). record t { input = Some w.input; moments = Some w.moments; out = appended t.out []; err = o }) (sym (appended-nil t.err))

-- what is told where the due bytes but for the report were written
abbrev all_but_report : Told → Due → Told
all_but_report t d = record t { input = Some d.left.input; moments = Some d.left.moments; out = appended t.out d.out; err = appended t.err d.err }

delivered-nil : (t : Told) (d : Due) → delivered t d [] ≡ all_but_report t d
delivered-nil t d = ap (λ (o : Option (List ℕ)). record (all_but_report t d) { report = o }) (appended-nil t.report)

-- the report, after all else
pub delivered_report : (t : Told) (d : Due) (text : List ℕ) → sent_to Report text (delivered t d []) ≡ delivered t d text
delivered_report t d text = ap (λ (o : Option (List ℕ)). record (all_but_report t d) { report = o }) (appended-more t.report [] text)

told_due : (t : Told) (d e : Due) (new : Told) → d ≡ e → new ≡ all_but_report t e → new ≡ delivered t d []
told_due t d e new same told = told ∙ (ap (all_but_report t) (sym same) ∙ sym (delivered-nil t d))

due_at : (r : Run) (s : Slicing) (state : RunState Position End) → run_of r.budget r.start ≡ state → due_run r s ≡ due_state r s state (trace_of r.budget r.start) (sent_of r.budget r.start)
due_at r s state h = ap (λ (k : RunState Position End). due_state r s k (trace_of r.budget r.start) (sent_of r.budget r.start)) h

-- a refusal before the run
early : (t new : Told) (refusal : Refusal) (w : World) → t.input ≡ Some w.input → t.moments ≡ Some w.moments → new ≡ t → IsDue t (due_refused refusal [] w) (Refused refusal) new
early t new refusal w input moments same = record {
  answer_is = refl;
  told_is = told_due t (due_refused refusal [] w) (due_refused refusal [] w) new refl (same ∙ at_begin t w input moments);
}

-- of those that are due
abbrev IsEarlyRefusal : Refusal → Type 0
IsEarlyRefusal (refusals.Usage kind) = Unit {0}
IsEarlyRefusal refusals.FileTooLarge = Unit {0}
IsEarlyRefusal (refusals.Elf fault) = Unit {0}
IsEarlyRefusal (refusals.ArgsTooLong bytes) = Unit {0}
IsEarlyRefusal refusal = ⊥

refused_early : (t new : Told) (refusal : Refusal) (w : World) (first now : PacerState) → IsEarlyRefusal refusal → t.input ≡ Some w.input → t.moments ≡ Some w.moments → new ≡ t → Refuses t (Err refusal) w first refusal new now
refused_early t new (refusals.Usage kind) w first now is input moments same = early t new (refusals.Usage kind) w input moments same
refused_early t new refusals.FileTooLarge w first now is input moments same = early t new refusals.FileTooLarge w input moments same
refused_early t new (refusals.Elf fault) w first now is input moments same = early t new (refusals.Elf fault) w input moments same
refused_early t new (refusals.ArgsTooLong bytes) w first now is input moments same = early t new (refusals.ArgsTooLong bytes) w input moments same
refused_early t new refusals.FileFault w first now is input moments same = absurd is
refused_early t new (refusals.UnsupportedCall number pc) w first now is input moments same = absurd is
refused_early t new (refusals.BudgetSpent n) w first now is input moments same = absurd is
refused_early t new refusals.InputFault w first now is input moments same = absurd is
refused_early t new (refusals.OutputFault port) w first now is input moments same = absurd is
refused_early t new refusals.ReportFault w first now is input moments same = absurd is
refused_early t new refusals.NoMemory w first now is input moments same = absurd is

pub refused_before : (t new : Told) (task : Result Task Refusal) (refusal : Refusal) (w : World) (first now : PacerState) → IsEarlyRefusal refusal → task ≡ Err refusal → t.input ≡ Some w.input → t.moments ≡ Some w.moments → new ≡ t
    → Refuses t task w first refusal new now
refused_before t new task refusal w first now is by input moments same =
    subst (λ (p : Result Task Refusal). Refuses t p w first refusal new now) (sym by) (refused_early t new refusal w first now is input moments same)

-- a run that is refused
unsupported_refuses : (t new : Told) (number pc : ℕ) (r : Run) (last : Position) → EndsAt t (steps_of r) last (Unsupported number pc) new → IsDue t (due_run r not_sliced) (Refused (refusals.UnsupportedCall number pc)) new
unsupported_refuses t new number pc r last ended =
    let state = RunEnded last (Unsupported number pc) in
    let is = due_at r not_sliced state ended.stands in
    record { answer_is = ap (λ (q : Due). q.answer) is; told_is = told_due t (due_run r not_sliced) (due_state r not_sliced state (trace_of r.budget r.start) (sent_of r.budget r.start)) new is ended.told_is }

spent_refuses : (t new : Told) (n : ℕ) (r : Run) (last : Position) → run_of r.budget r.start ≡ Running last → n ≡ r.budget → new ≡ told_after t last.world (sent_of r.budget r.start) → IsDue t (due_run r not_sliced) (Refused (refusals.BudgetSpent n)) new
spent_refuses t new n r last stands spent told =
    let is = due_at r not_sliced (Running last) stands in
    record {
      answer_is = ap (λ (q : Due). q.answer) is ∙ ap (λ (k : ℕ). Refused (refusals.BudgetSpent k)) (sym spent);
      told_is = told_due t (due_run r not_sliced) (due_state r not_sliced (Running last) (trace_of r.budget r.start) (sent_of r.budget r.start)) new is told;
    }

-- a run that ended, whatever its report
pub record IsOver (t : Told) (r : Run) (s : Slicing) (last : Position) (end : GuestEnd) (new : Told) : Type 0 where
  pub answer_is : (due_run r s).answer ≡ Ended (status_of end) (slicing_of r.by (trace_of r.budget r.start) last s).cuts (slicing_of r.by (trace_of r.budget r.start) last s).lines
  pub told_is : new ≡ delivered t (due_run r s) []
  pub report_is : (due_run r s).report ≡ report_of r.slices (r.tool.text (trace_of r.budget r.start)) (end_by end) (slicing_of r.by (trace_of r.budget r.start) last s).lines

over_by : (t new : Told) (r : Run) (s : Slicing) (last : Position) (end : GuestEnd) → EndsAt t (steps_of r) last (end_by end) new → IsOver t r s last end new
over_by t new r s last (ends.Exit status) ended =
    let is = due_at r s (RunEnded last (Exit status)) ended.stands in
    record {
      answer_is = ap (λ (q : Due). q.answer) is;
      told_is = told_due t (due_run r s) (due_state r s (RunEnded last (Exit status)) (trace_of r.budget r.start) (sent_of r.budget r.start)) new is ended.told_is;
      report_is = ap (λ (q : Due). q.report) is;
    }
over_by t new r s last (ends.Signal kind pc) ended =
    let end = Signal (kind_number kind) pc in
    let is = due_at r s (RunEnded last end) ended.stands in
    record {
      answer_is = ap (λ (q : Due). q.answer) is;
      told_is = told_due t (due_run r s) (due_state r s (RunEnded last end) (trace_of r.budget r.start) (sent_of r.budget r.start)) new is ended.told_is;
      report_is = ap (λ (q : Due). q.report) is;
    }

ended_lacks : (t new : Told) (p : Program) (w : World) (first now : PacerState) (last : Position) (end : GuestEnd) → EndsAt t (steps_of (run_of_program p w)) last (end_by end) new → Refuses t (Ok (Runs p)) w first refusals.NoMemory new now
ended_lacks t new p w first now last end ended =
    let over = over_by t new (run_of_program p w) not_sliced last end ended in
    inr (inr (p, refl, ((status_of end, _, _, over.answer_is), over.told_is)))

serial_lacks : (t new : Told) (p : Program) (w : World) (first now : PacerState) → p.engine.by ≡ Serial → t.input ≡ Some w.input → t.moments ≡ Some w.moments → RunLacks p.tool.grows t (steps_of (run_of_program p w)) new → Refuses t (Ok (Runs p)) w first refusals.NoMemory new now
serial_lacks t new p w first now by input moments (inl told) = inl (told ∙ sym (at_begin t w input moments))
serial_lacks t new p w first now by input moments (inr (inl step)) = inr (inl (p, refl, subst (λ (b : By). WantsWithin b (run_of_program p w) t new) (sym by) step))
serial_lacks t new p w first now by input moments (inr (inr (last, end, ended))) = ended_lacks t new p w first now last end ended

windows_lacks : (t new : Told) (p : Program) (w : World) (first now : PacerState) → p.engine.by ≡ Windows → SlicedFail t (steps_of (run_of_program p w)) faults.NoMemory new → Refuses t (Ok (Runs p)) w first refusals.NoMemory new now
windows_lacks t new p w first now by (inl between) = inr (inl (p, refl, subst (λ (b : By). WantsWithin b (run_of_program p w) t new) (sym by) between))
windows_lacks t new p w first now by (inr (last, end, ended)) = ended_lacks t new p w first now last end ended

-- a run by windows fails as a serial one does, but for want of memory
pub run_refuses : (t new : Told) (p : Program) (w : World) (first now : PacerState) (by : By) (fault : RunFault) → p.engine.by ≡ by → t.input ≡ Some w.input → t.moments ≡ Some w.moments → EngineFails by (run_of_program p w) t fault new
    → Refuses t (Ok (Runs p)) w first (refusal_of_run fault) new now
run_refuses t new p w first now Serial (faults.Unsupported number pc) is input moments gives = unsupported_refuses t new number pc (run_of_program p w) gives.0 gives.1
run_refuses t new p w first now Serial (faults.BudgetSpent n) is input moments gives = spent_refuses t new n (run_of_program p w) gives.0 gives.1 gives.2 gives.3
run_refuses t new p w first now Serial faults.InputFault is input moments gives = (p, refl, gives)
run_refuses t new p w first now Serial (faults.OutputFault port) is input moments gives = inl (p, refl, gives)
run_refuses t new p w first now Serial faults.NoMemory is input moments gives = serial_lacks t new p w first now is input moments gives
run_refuses t new p w first now Windows (faults.Unsupported number pc) is input moments gives = unsupported_refuses t new number pc (run_of_program p w) gives.0 gives.1
run_refuses t new p w first now Windows (faults.BudgetSpent n) is input moments gives = spent_refuses t new n (run_of_program p w) gives.0 gives.1 gives.2 gives.3
run_refuses t new p w first now Windows faults.InputFault is input moments gives = (p, refl, gives)
run_refuses t new p w first now Windows (faults.OutputFault port) is input moments gives = inl (p, refl, gives)
run_refuses t new p w first now Windows faults.NoMemory is input moments gives = windows_lacks t new p w first now is gives

-- what is so of a command that was done, with this slicing
abbrev IsDoneWith : Told → Program → World → PacerState → PacerState → Done → Slicing → Told → Type 0
IsDoneWith t p w first now done s new =
    ((due_run (run_of_program p w) s).answer ≡ Ended done.status done.cuts done.lines) × (new ≡ delivered t (due_run (run_of_program p w) s) (due_run (run_of_program p w) s).report)
    × IsSlicedBy p.engine.by (run_of_program p w) first now s

-- a run that ended, before its report, whose slices are told so
pub record IsFinished (t : Told) (r : Run) (s : Slicing) (first now : PacerState) (end : GuestEnd) (text : List ℕ) (new : Told) : Type 0 where
  pub answer_is : (due_run r s).answer ≡ Ended (status_of end) s.cuts s.lines
  pub report_is : (due_run r s).report ≡ report_of r.slices text (end_by end) s.lines
  pub told_is : new ≡ delivered t (due_run r s) []
  pub sliced : IsSlicedBy r.by r first now s

pub finishes : (t new : Told) (r : Run) (s : Slicing) (first now : PacerState) (last : Position) (end : GuestEnd) → EndsAt t (steps_of r) last (end_by end) new → slicing_of r.by (trace_of r.budget r.start) last s ≡ s → IsSlicedBy r.by r first now s
    → IsFinished t r s first now end (r.tool.text (trace_of r.budget r.start)) new
finishes t new r s first now last end ended told sliced =
    let over = over_by t new r s last end ended in
    record {
      answer_is = over.answer_is ∙ ap (λ (q : Slicing). Ended (status_of end) q.cuts q.lines) told;
      report_is = over.report_is ∙ ap (λ (q : Slicing). report_of r.slices (r.tool.text (trace_of r.budget r.start)) (end_by end) q.lines) told;
      told_is = over.told_is;
      sliced = sliced;
    }

pub no_room : (t : Told) (p : Program) (w : World) (first now : PacerState) (last : Position) (end : GuestEnd) (mid : Told) → EndsAt t (steps_of (run_of_program p w)) last (end_by end) mid → Refuses t (Ok (Runs p)) w first refusals.NoMemory mid now
no_room t p w first now last end mid ended = ended_lacks t mid p w first now last end ended

pub reported : (t : Told) (p : Program) (w : World) (first now : PacerState) (end : GuestEnd) (mid new : Told) (s : Slicing) (text whole : List ℕ) (done : Done) → IsFinished t (run_of_program p w) s first now end text mid
    → whole ≡ report_of p.engine.slices text (end_by end) s.lines → new ≡ sent_to Report whole mid → done.status ≡ status_of end → done_slicing done ≡ s → AttemptGives t (Ok (Runs p)) w first (Ok done) new now
reported t p w first now end mid new s text whole done finished is wrote status_is slices_are =
    let r = run_of_program p w in
    let d = due_run r s in
    let at = λ (q : Slicing). IsDoneWith t p w first now done q new in
    let all : at s = (
      finished.answer_is ∙ (ap (λ (n : ℕ). Ended n s.cuts s.lines) (sym status_is) ∙ ap (λ (q : Slicing). Ended done.status q.cuts q.lines) (sym slices_are)),
      wrote ∙ (ap (sent_to Report whole) finished.told_is ∙ (delivered_report t d whole ∙ ap (delivered t d) (is ∙ sym finished.report_is))),
      finished.sliced,
    ) in
    let here : at (done_slicing done) = subst at (sym slices_are) all in
    record { answer_is = here.0; told_is = here.1; sliced = here.2 }

pub not_reported : (t : Told) (p : Program) (w : World) (first now : PacerState) (end : GuestEnd) (mid new : Told) (s : Slicing) (text whole : List ℕ) → IsFinished t (run_of_program p w) s first now end text mid
    → whole ≡ report_of p.engine.slices text (end_by end) s.lines → PartSent Report whole mid new → Refuses t (Ok (Runs p)) w first refusals.ReportFault new now
not_reported t p w first now end mid new s text whole finished is wrote =
    let d = due_run (run_of_program p w) s in (
      s,
      finished.sliced,
      (status_of end, s.cuts, s.lines, finished.answer_is),
      subst (λ (q : Told). PartSent Report d.report q new) finished.told_is (subst (λ (xs : List ℕ). PartSent Report xs mid new) (is ∙ sym finished.report_is) wrote),
    )

-- the run of a guest that stands where its program begins
pub begun : (p : Program) (m : Machine) (w : World) → m ≡ machine_of p.image p.strings → run_from m p.tool p.engine w ≡ run_of_program p w
begun p m w is = ap (λ (k : Machine). run_from k p.tool p.engine w) is

-- a text that was written, where the input and the moments are told
shown_delivered : (t : Told) (text : List ℕ) (w : World) → t.input ≡ Some w.input → t.moments ≡ Some w.moments → sent_to Out text t ≡ delivered t (due_shown text w) []
shown_delivered t text w input moments =
    ap (λ (o : Option (List ℕ)). record t { input = o; out = appended t.out text }) input
    ∙ ap (λ (o : Option (List ℕ)). record t { input = Some w.input; moments = o; out = appended t.out text }) moments
    ∙ ap (λ (o : Option (List ℕ)). record t { input = Some w.input; moments = Some w.moments; out = appended t.out text; err = o }) (sym (appended-nil t.err))
    ∙ ap (λ (o : Option (List ℕ)). record t { input = Some w.input; moments = Some w.moments; out = appended t.out text; err = appended t.err []; report = o }) (sym (appended-nil t.report))

pub shown : (t new : Told) (task : Result Task Refusal) (text : List ℕ) (w : World) (pacer : PacerState) → OfText task (λ due. text ≡ due) → t.input ≡ Some w.input → t.moments ≡ Some w.moments → new ≡ sent_to Out text t
    → AttemptGives t task w pacer (Ok (record { status = 0; cuts = []; lines = [] })) new pacer
shown t new task text w pacer of input moments wrote =
    subst (λ (k : Result Task Refusal). AttemptGives t k w pacer (Ok (record { status = 0; cuts = []; lines = [] })) new pacer) (sym of.1)
    (record { answer_is = refl; told_is = wrote ∙ (ap (λ (xs : List ℕ). sent_to Out xs t) of.2 ∙ shown_delivered t (view_text of.0) w input moments); sliced = refl })

pub not_shown : (t new : Told) (task : Result Task Refusal) (text : List ℕ) (w : World) (pacer : PacerState) → OfText task (λ due. text ≡ due) → PartSent Out text t new → Refuses t task w pacer (refusals.OutputFault Out) new pacer
not_shown t new task text w pacer of wrote = inr (of.0, of.1, (refl, subst (λ (xs : List ℕ). PartSent Out xs t new) of.2 wrote))
