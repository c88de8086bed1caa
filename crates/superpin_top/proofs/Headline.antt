-- What follows from the outcome.
use Rattle.std.proofs.Common.{◌≡◌, ◌≢◌, ◌<◌, ◌+◌, ◌-◌, ◌^◌, ◌++◌, ◌⊎◌, ℕ, List, [], take, drop, refl, ap, sym, subst, ◌∙◌, arith, inl, inr}
use Rattle.std.specs.Prelude.{Option, Result, Ok, Err, true, false, ◌||◌, ◌↔◌}
use Rattle.std.proofs.lemmas.List.{append-nil, take-append-drop}
use Rattle.sp_host.specs.Told.{Told, PartSent, appended, sent as sent_to}
use Rattle.sp_host.specs.Faults.{Source, File, Input, To, Faults, Faulted, count_of}
use Rattle.sp_host.specs.declared.host.Port.{Port}
use Rattle.sp_host.specs.declared.host.Port.TheVariants as ports
use Rattle.sp_host.proofs.Told.{appended-nil}
use Rattle.guest_model.specs.Call.{World, Sent}
use Rattle.guest_model.specs.Runs.{RunState, Running, Ended as RunEnded}
use Rattle.guest_model.specs.Serial.{Position, End, Exit, Signal, Unsupported, TraceItem, run_of, sent_of, trace_of}
use Rattle.ordered_merge.specs.declared.merger.SliceLine.{SliceLine}
use Rattle.sp_report.specs.Lines.{refusal_line}
use Rattle.sp_report.specs.View.{view_text}
use Rattle.sp_report.specs.declared.answer.Answer.{Answer}
use Rattle.sp_report.specs.declared.answer.Answer.TheVariants.{Ended, Refused}
use Rattle.sp_report.specs.declared.answer.Refusal.{Refusal}
use Rattle.sp_report.specs.declared.answer.Refusal.TheVariants as refusals
use Rattle.superpin_top.specs.Causes.{CausedBy, is_early, is_of_run}
use Rattle.master_run.specs.Answers.{PacerState}
use Rattle.sp_words.specs.Due.{Due, Program, delivered, due_ended, due_run, due_state, run_of_program}
use Rattle.sp_words.specs.Run.{Run, Slicing, slicing_of}
use Rattle.superpin_top.specs.Due.{Task, Runs, Shows, due_shown, due_task, not_sliced, slicing_in}
use Rattle.superpin_top.specs.Outcome.{IsAccepted, IsDecided, IsDone, IsDue, done_slicing, IsEndDue, IsEarly, Refuses, WritesLine, Outcome, IsRefused, CanRise, NoneRose, IsDelivered, IsCaused, AddsFront}
use Rattle.superpin_top.specs.declared.engine.Done.{Done}
use Rattle.superpin_top.proofs.Causes.{count_after, rose_by, line_kept, line_report}
use Rattle.superpin_top.proofs.Outcomes.{delivered_report}
use Rattle.superpin_top.proofs.Fronts.{AddsFronts, due_err, due_out, input_fronts, output_fronts, memory_fronts}

-- where the count of Report did not rise, the line is whole
whole : (refusal : Refusal) (old new : Told) (before now : Faults) (writes : WritesLine refusal old new before now) → before.report < 2 ^ 64 - 1 → now.report ≡ before.report → writes.line ≡ refusal_line refusal
whole refusal old new before now writes below same = ends writes.cause
  where
    ends : ((writes.rest ≡ []) × (now ≡ before)) ⊎ ((writes.rest ≢ []) × Faulted (To ports.Report) before now) → writes.line ≡ refusal_line refusal
    ends (inl p) = sym (append-nil writes.line) ∙ (ap (λ (xs : List ℕ). writes.line ++ xs) (sym p.0) ∙ writes.is_front)
    ends (inr fault) = absurd (omega (arith, below, same, count_after (To ports.Report) before now fault.1))

-- a refusal that is due, with its line
due_delivered : (t : Told) (d : Due) (refusal : Refusal) (before middle now : Faults) (mid new : Told) → IsDue t d (Refused refusal) mid → d.report ≡ refusal_line refusal → middle ≡ before
    → WritesLine refusal mid new middle now → CanRise before → now ≡ before → IsDelivered t d (Refused refusal) new
due_delivered t d refusal before middle now mid new is line_is same writes can none =
    let below : middle.report < 2 ^ 64 - 1 = omega (arith, can.report, ap (λ (f : Faults). f.report) same) in
    let unmoved : now.report ≡ middle.report = ap (λ (f : Faults). f.report) (none ∙ sym same) in
    let all : writes.line ≡ d.report = whole refusal mid new middle now writes below unmoved ∙ sym line_is in
    inr (sym is.answer_is, writes.told_is ∙ (ap (sent_to ports.Report writes.line) is.told_is ∙ (delivered_report t d writes.line ∙ ap (delivered t d) all)))

-- the line of a refusal that is due is the due report
line_of_end : (end : End) (q : Slicing) (report : List ℕ) (sent : List Sent) (w : World) (refusal : Refusal) → (due_ended end q report sent w).answer ≡ Refused refusal → (due_ended end q report sent w).report ≡ refusal_line refusal
line_of_end (Exit status) q report sent w refusal h = cc
line_of_end (Signal kind pc) q report sent w refusal h = cc
line_of_end (Unsupported number pc) q report sent w refusal h = let e : refusals.UnsupportedCall number pc ≡ refusal = cc in ap refusal_line e

line_of_state : (r : Run) (s : Slicing) (state : RunState Position End) (items : List TraceItem) (sent : List Sent) (refusal : Refusal) → (due_state r s state items sent).answer ≡ Refused refusal → (due_state r s state items sent).report ≡ refusal_line refusal
line_of_state r s (Running p) items sent refusal h = let e : refusals.BudgetSpent r.budget ≡ refusal = cc in ap refusal_line e
line_of_state r s (RunEnded p end) items sent refusal h = line_of_end end _ _ sent p.world refusal h

line_due : (task : Result Task Refusal) (w : World) (refusal : Refusal) → (due_task task w not_sliced).answer ≡ Refused refusal → (due_task task w not_sliced).report ≡ refusal_line refusal
line_due (Err early) w refusal h = let e : early ≡ refusal = cc in ap refusal_line e
line_due (Ok (Shows image)) w refusal h = cc
line_due (Ok (Runs p)) w refusal h =
    let r = run_of_program p w in
    line_of_state r not_sliced (run_of r.budget r.start) (trace_of r.budget r.start) (sent_of r.budget r.start) refusal h

due_is : (t : Told) (task : Result Task Refusal) (w : World) (first : PacerState) (before after : Faults) (refusal : Refusal) (new : Told) (now : PacerState) (o : IsRefused t task w first refusal before new after now) → IsDue t (due_task task w not_sliced) (Refused refusal) o.mid
    → o.middle ≡ before → CanRise before → after ≡ before → IsDelivered t (due_task task w not_sliced) (Refused refusal) new
due_is t task w first before after refusal new now o is calm can none =
    due_delivered t (due_task task w not_sliced) refusal before o.middle after o.mid new is (line_due task w refusal is.answer_is) calm o.writes can none

-- a count of the run rose
count_rose : (source : Source) (refusal : Refusal) (mid new : Told) (before middle now : Faults) → Faulted source before middle → WritesLine refusal mid new middle now → source ≢ To ports.Report → count_of source before < 2 ^ 64 - 1 → now ≡ before → ⊥
count_rose source refusal mid new before middle now fault writes other below none =
    omega (arith, rose_by source before middle fault below, line_kept source refusal mid new middle now writes other, ap (count_of source) none)

port_below : (port : Port) (before : Faults) → CanRise before → count_of (To port) before < 2 ^ 64 - 1
port_below ports.Out before can = can.out
port_below ports.Err before can = can.err
port_below ports.Report before can = can.report

headline_of : (t : Told) (task : Result Task Refusal) (w : World) (first : PacerState) (before after : Faults) (answer : Answer) (new : Told) (now : PacerState)
    → Outcome t task w first before answer new after now → CanRise before → after ≡ before → IsDelivered t (due_task task w (slicing_in answer)) answer new
headline_of t task w first before after (Ended status cuts lines) new now o can none = inr (sym o.answer_is, o.told_is)
headline_of t task w first before after (Refused (refusals.Usage kind)) new now o can none = due_is t task w first before after (refusals.Usage kind) new now o o.refuses o.caused.0 can none
headline_of t task w first before after (Refused refusals.FileTooLarge) new now o can none = due_is t task w first before after refusals.FileTooLarge new now o o.refuses o.caused.0 can none
headline_of t task w first before after (Refused (refusals.Elf fault)) new now o can none = due_is t task w first before after (refusals.Elf fault) new now o o.refuses o.caused.0 can none
headline_of t task w first before after (Refused (refusals.ArgsTooLong bytes)) new now o can none = due_is t task w first before after (refusals.ArgsTooLong bytes) new now o o.refuses o.caused.0 can none
headline_of t task w first before after (Refused (refusals.UnsupportedCall number pc)) new now o can none = due_is t task w first before after (refusals.UnsupportedCall number pc) new now o o.refuses o.caused.0 can none
headline_of t task w first before after (Refused (refusals.BudgetSpent n)) new now o can none = due_is t task w first before after (refusals.BudgetSpent n) new now o o.refuses o.caused.0 can none
headline_of t task w first before after (Refused refusals.FileFault) new now o can none =
    absurd (count_rose File refusals.FileFault o.mid new before o.middle after o.caused.0 o.writes (λ e. cc) can.file none)
headline_of t task w first before after (Refused refusals.InputFault) new now o can none =
    absurd (count_rose Input refusals.InputFault o.mid new before o.middle after o.caused.0 o.writes (λ e. cc) can.input none)
headline_of t task w first before after (Refused (refusals.OutputFault port)) new now o can none =
    absurd (count_rose (To port) (refusals.OutputFault port) o.mid new before o.middle after o.caused.0 o.writes (λ e. let same : port ≡ ports.Report = cc in o.caused.1 same) (port_below port before can) none)
headline_of t task w first before after (Refused refusals.ReportFault) new now o can none =
    absurd (omega (arith, rose_by (To ports.Report) before o.middle o.caused.0 can.report, line_report refusals.ReportFault o.mid new o.middle after o.writes, ap (λ (f : Faults). f.report) none))
headline_of t task w first before after (Refused refusals.NoMemory) new now o can none = inl refl

-- an answer that is due has the due cause
caused_due : (d : Due) (refusal : Refusal) (before now : Faults) → d.answer ≡ Refused refusal → refusal ≢ refusals.ReportFault → IsCaused d before now (Refused refusal)
caused_due d refusal before now is other = record {
  refused = λ r due. ((λ e. is ∙ e), λ e. sym is ∙ e);
  reported = λ status cuts lines e. absurd (never (sym e ∙ is));
  no_report = λ e. absurd (other (cc));
}
  where
    never : {status : ℕ} {cuts : List ℕ} {lines : List SliceLine} → Ended status cuts lines ≡ Refused refusal → ⊥
    never e = cc

-- a run that ended is no refusal that is due, and a report fault is none
never_ended : (d : Due) (status : ℕ) (cuts : List ℕ) (lines : List SliceLine) (r : Refusal) → d.answer ≡ Ended status cuts lines → d.answer ≡ Refused r → ⊥
never_ended d status cuts lines r is e = let both : Ended status cuts lines ≡ Refused r = sym is ∙ e in cc

report_none : (r : Refusal) → (is_early r || is_of_run r) ≡ true → Refused refusals.ReportFault ≡ Refused r → ⊥
report_none r due e =
    let same : refusals.ReportFault ≡ r = cc in
    let no_due : (is_early refusals.ReportFault || is_of_run refusals.ReportFault) ≡ true = ap (λ (k : Refusal). is_early k || is_of_run k) same ∙ due in
    cc

run_rose : (source : Source) (refusal : Refusal) (mid new : Told) (before middle now : Faults) → Faulted source before middle → WritesLine refusal mid new middle now → source ≢ To ports.Report → count_of source before < 2 ^ 64 - 1 → count_of source now ≡ count_of source before → ⊥
run_rose source refusal mid new before middle now fault writes other below none =
    omega (arith, rose_by source before middle fault below, line_kept source refusal mid new middle now writes other, none)

port_none : (port : Port) (before now : Faults) → port ≢ ports.Report → NoneRose before now → count_of (To port) now ≡ count_of (To port) before
port_none ports.Out before now other none = none.out
port_none ports.Err before now other none = none.err
port_none ports.Report before now other none = absurd (other refl)

-- whether the due answer is that of a run that ended does not hang on how the run is sliced
ended_by_end : (end : End) (s o : Slicing) (report other : List ℕ) (sent : List Sent) (w : World) → IsEndDue (due_ended end s report sent w) → IsEndDue (due_ended end o other sent w)
ended_by_end (Exit status) s o report other sent w is = (status, o.cuts, o.lines, refl)
ended_by_end (Signal kind pc) s o report other sent w is = (128 + kind, o.cuts, o.lines, refl)
ended_by_end (Unsupported number pc) s o report other sent w (status, cuts, lines, e) = cc

ended_by_state : (r : Run) (s o : Slicing) (state : RunState Position End) (items : List TraceItem) (sent : List Sent) → IsEndDue (due_state r s state items sent) → IsEndDue (due_state r o state items sent)
ended_by_state r s o (Running p) items sent (status, cuts, lines, e) = cc
ended_by_state r s o (RunEnded p end) items sent is = ended_by_end end (slicing_of r.by items p s) (slicing_of r.by items p o) _ _ sent p.world is

ended_any : (task : Result Task Refusal) (w : World) (s o : Slicing) → IsEndDue (due_task task w s) → IsEndDue (due_task task w o)
ended_any (Err refusal) w s o (status, cuts, lines, e) = cc
ended_any (Ok (Shows image)) w s o is = is
ended_any (Ok (Runs p)) w s o is =
    let r = run_of_program p w in
    ended_by_state r s o (run_of r.budget r.start) (trace_of r.budget r.start) (sent_of r.budget r.start) is

causes_of : (t : Told) (task : Result Task Refusal) (w : World) (first : PacerState) (before after : Faults) (answer : Answer) (new : Told) (now : PacerState)
    → Outcome t task w first before answer new after now → CanRise before → NoneRose before after → answer ≢ Refused refusals.NoMemory → IsCaused (due_task task w (slicing_in answer)) before after answer
causes_of t task w first before after (Ended status cuts lines) new now o can none some = record {
  refused = λ r due. ((λ e. cc), λ e. absurd (never_ended (due_task task w (record { cuts = cuts; lines = lines })) status cuts lines r o.answer_is e));
  reported = λ other more others e. (((λ _. ap (λ (f : Faults). f.report) o.same), λ _. sym o.answer_is ∙ e), ((λ h. cc), λ rose. absurd (omega (arith, rose, ap (λ (f : Faults). f.report) o.same))));
  no_report = λ e. cc;
}
causes_of t task w first before after (Refused (refusals.Usage kind)) new now o can none some = caused_due (due_task task w not_sliced) (refusals.Usage kind) before after o.refuses.answer_is (λ e. cc)
causes_of t task w first before after (Refused refusals.FileTooLarge) new now o can none some = caused_due (due_task task w not_sliced) refusals.FileTooLarge before after o.refuses.answer_is (λ e. cc)
causes_of t task w first before after (Refused (refusals.Elf fault)) new now o can none some = caused_due (due_task task w not_sliced) (refusals.Elf fault) before after o.refuses.answer_is (λ e. cc)
causes_of t task w first before after (Refused (refusals.ArgsTooLong bytes)) new now o can none some = caused_due (due_task task w not_sliced) (refusals.ArgsTooLong bytes) before after o.refuses.answer_is (λ e. cc)
causes_of t task w first before after (Refused (refusals.UnsupportedCall number pc)) new now o can none some = caused_due (due_task task w not_sliced) (refusals.UnsupportedCall number pc) before after o.refuses.answer_is (λ e. cc)
causes_of t task w first before after (Refused (refusals.BudgetSpent n)) new now o can none some = caused_due (due_task task w not_sliced) (refusals.BudgetSpent n) before after o.refuses.answer_is (λ e. cc)
causes_of t task w first before after (Refused refusals.FileFault) new now o can none some =
    absurd (run_rose File refusals.FileFault o.mid new before o.middle after o.caused.0 o.writes (λ e. cc) can.file none.file)
causes_of t task w first before after (Refused refusals.InputFault) new now o can none some =
    absurd (run_rose Input refusals.InputFault o.mid new before o.middle after o.caused.0 o.writes (λ e. cc) can.input none.input)
causes_of t task w first before after (Refused (refusals.OutputFault port)) new now o can none some =
    absurd (run_rose (To port) (refusals.OutputFault port) o.mid new before o.middle after o.caused.0 o.writes (λ e. let same : port ≡ ports.Report = cc in o.caused.1 same) (port_below port before can) (port_none port before after o.caused.1 none))
causes_of t task w first before after (Refused refusals.NoMemory) new now o can none some = absurd (some refl)
causes_of t task w first before after (Refused refusals.ReportFault) new now o can none some =
    let rose : before.report < after.report = omega (arith, rose_by (To ports.Report) before o.middle o.caused.0 can.report, line_report refusals.ReportFault o.mid new o.middle after o.writes) in
    let s = o.refuses.0 in
    let ended = ended_any task w s not_sliced o.refuses.2 in
    record {
      refused = λ r due. ((λ e. absurd (report_none r due e)), λ e. absurd (never_ended (due_task task w not_sliced) ended.0 ended.1 ended.2 r ended.3 e));
      reported = λ status cuts lines e. (((λ h. cc), λ same. absurd (omega (arith, rose, same))), ((λ _. rose), λ _. refl));
      no_report = λ _. ended;
    }

-- what was sent is a beginning of what is due
all_sent : (t new : Told) (d : Due) → (report : List ℕ) → new ≡ delivered t d report → AddsFronts t d new
all_sent t new d report e = record {
  out = record { written = d.out; rest = []; is_front = append-nil d.out; told_is = ap (λ (q : Told). q.out) e };
  err = record { written = d.err; rest = []; is_front = append-nil d.err; told_is = ap (λ (q : Told). q.err) e };
}

nothing_sent : (t mid : Told) (d : Due) → mid ≡ t → AddsFronts t d mid
nothing_sent t mid d same = record {
  out = record { written = []; rest = d.out; is_front = refl; told_is = ap (λ (q : Told). q.out) same ∙ sym (appended-nil t.out) };
  err = record { written = []; rest = d.err; is_front = refl; told_is = ap (λ (q : Told). q.err) same ∙ sym (appended-nil t.err) };
}

of_task : (t mid : Told) (task : Result Task Refusal) (w : World) (s : Slicing) (p : Program) → task ≡ Ok (Runs p) → AddsFronts t (due_task (Ok (Runs p)) w s) mid → AddsFronts t (due_task task w s) mid
of_task t mid task w s p is fronts = subst (λ (k : Result Task Refusal). AddsFronts t (due_task k w s) mid) (sym is) fronts

-- what is due at the outputs does not hang on how the run is sliced
same_outputs : (task : Result Task Refusal) (w : World) (s o : Slicing) → ((due_task task w s).out ≡ (due_task task w o).out) × ((due_task task w s).err ≡ (due_task task w o).err)
same_outputs (Err refusal) w s o = (refl, refl)
same_outputs (Ok (Shows image)) w s o = (refl, refl)
same_outputs (Ok (Runs p)) w s o = let r = run_of_program p w in (due_out r s ∙ sym (due_out r o), due_err r s ∙ sym (due_err r o))

-- a proper beginning of a text was written
part_shown : (t mid : Told) (text : List ℕ) (w : World) → PartSent ports.Out text t mid → AddsFronts t (due_shown text w) mid
part_shown t mid text w part = record {
  out = record { written = take part.count text; rest = drop part.count text; is_front = take-append-drop part.count text; told_is = ap (λ (q : Told). q.out) part.sends };
  err = record { written = []; rest = []; is_front = refl; told_is = ap (λ (q : Told). q.err) part.sends ∙ sym (appended-nil t.err) };
}

fronts_before : (t : Told) (task : Result Task Refusal) (w : World) (first : PacerState) (refusal : Refusal) (mid : Told) (now : PacerState) → Refuses t task w first refusal mid now → AddsFronts t (due_task task w not_sliced) mid
fronts_before t task w first refusals.FileFault mid now refuses = nothing_sent t mid (due_task task w not_sliced) refuses
fronts_before t task w first (refusals.Usage kind) mid now refuses = all_sent t mid (due_task task w not_sliced) [] refuses.told_is
fronts_before t task w first refusals.FileTooLarge mid now refuses = all_sent t mid (due_task task w not_sliced) [] refuses.told_is
fronts_before t task w first (refusals.Elf fault) mid now refuses = all_sent t mid (due_task task w not_sliced) [] refuses.told_is
fronts_before t task w first (refusals.ArgsTooLong bytes) mid now refuses = all_sent t mid (due_task task w not_sliced) [] refuses.told_is
fronts_before t task w first (refusals.UnsupportedCall number pc) mid now refuses = all_sent t mid (due_task task w not_sliced) [] refuses.told_is
fronts_before t task w first (refusals.BudgetSpent n) mid now refuses = all_sent t mid (due_task task w not_sliced) [] refuses.told_is
fronts_before t task w first refusals.InputFault mid now refuses = of_task t mid task w not_sliced refuses.0 refuses.1 (input_fronts t mid (run_of_program refuses.0 w) not_sliced refuses.2)
fronts_before t task w first (refusals.OutputFault port) mid now (inl ran) = of_task t mid task w not_sliced ran.0 ran.1 (output_fronts t mid (run_of_program ran.0 w) not_sliced port ran.2)
fronts_before t task w first (refusals.OutputFault port) mid now (inr text) = subst (λ (k : Result Task Refusal). AddsFronts t (due_task k w not_sliced) mid) (sym text.1) (part_shown t mid (view_text text.0) w text.2.1)
fronts_before t task w first refusals.ReportFault mid now (s, sliced, ended, part) =
    let same = same_outputs task w not_sliced s in
    record {
      out = record { written = (due_task task w not_sliced).out; rest = []; is_front = append-nil (due_task task w not_sliced).out; told_is = ap (λ (q : Told). q.out) part.sends ∙ ap (appended t.out) (sym same.0) };
      err = record { written = (due_task task w not_sliced).err; rest = []; is_front = append-nil (due_task task w not_sliced).err; told_is = ap (λ (q : Told). q.err) part.sends ∙ ap (appended t.err) (sym same.1) };
    }
fronts_before t task w first refusals.NoMemory mid now (inl same) = nothing_sent t mid (due_task task w not_sliced) same
fronts_before t task w first refusals.NoMemory mid now (inr (inl step)) = of_task t mid task w not_sliced step.0 step.1 (memory_fronts t mid (run_of_program step.0 w) not_sliced step.0.engine.by step.2)
fronts_before t task w first refusals.NoMemory mid now (inr (inr ran)) = of_task t mid task w not_sliced ran.0 ran.1 (all_sent t mid (due_run (run_of_program ran.0 w) not_sliced) [] ran.2.1)

fronts_of : (t : Told) (task : Result Task Refusal) (w : World) (first : PacerState) (before after : Faults) (answer : Answer) (new : Told) (now : PacerState)
    → Outcome t task w first before answer new after now → AddsFronts t (due_task task w (slicing_in answer)) new
fronts_of t task w first before after (Ended status cuts lines) new now o = all_sent t new (due_task task w (record { cuts = cuts; lines = lines })) _ o.told_is
fronts_of t task w first before after (Refused refusal) new now o =
    let fronts = fronts_before t task w first refusal o.mid now o.refuses in
    record {
      out = subst (λ (out : Option (List ℕ)). AddsFront t.out (due_task task w not_sliced).out out) (sym (ap (λ (q : Told). q.out) o.writes.told_is)) fronts.out;
      err = subst (λ (err : Option (List ℕ)). AddsFront t.err (due_task task w not_sliced).err err) (sym (ap (λ (q : Told). q.err) o.writes.told_is)) fronts.err;
    }

-- all that follows from the outcome
pub record Follows (t : Told) (d : Due) (before now : Faults) (answer : Answer) (new : Told) : Type 0 where
  pub headline : CanRise before → now ≡ before → IsDelivered t d answer new
  pub causes : CanRise before → NoneRose before now → answer ≢ Refused refusals.NoMemory → IsCaused d before now answer
  pub fronts : AddsFronts t d new

pub follows : (t : Told) (task : Result Task Refusal) (w : World) (first : PacerState) (before after : Faults) (answer : Answer) (new : Told) (now : PacerState) → Outcome t task w first before answer new after now
    → Follows t (due_task task w (slicing_in answer)) before after answer new
follows t task w first before after answer new now o = record {
  headline = headline_of t task w first before after answer new now o;
  causes = causes_of t task w first before after answer new now o;
  fronts = fronts_of t task w first before after answer new now o;
}

-- from a command that was done
pub done_outcome : (t new : Told) (task : Result Task Refusal) (w : World) (first now : PacerState) (before after : Faults) (done : Done) → IsDone t task w first done new now → after ≡ before → Outcome t task w first before (Ended done.status done.cuts done.lines) new after now
done_outcome t new task w first now before after done is same = record { answer_is = is.answer_is; told_is = is.told_is; sliced = is.sliced; same = same }

pub done_follows : (t new : Told) (task : Result Task Refusal) (w : World) (first now : PacerState) (before after : Faults) (done : Done) → IsDone t task w first done new now → after ≡ before
    → Follows t (due_task task w (done_slicing done)) before after (Ended done.status done.cuts done.lines) new
done_follows t new task w first now before after done is same = follows t task w first before after (Ended done.status done.cuts done.lines) new now (done_outcome t new task w first now before after done is same)

-- from the outcome of a refusal
pub refused_follows : (t : Told) (task : Result Task Refusal) (w : World) (first : PacerState) (refusal : Refusal) (before middle after : Faults) (mid new : Told) (now : PacerState) → Refuses t task w first refusal mid now → CausedBy refusal before middle
    → WritesLine refusal mid new middle after → Follows t (due_task task w not_sliced) before after (Refused refusal) new
refused_follows t task w first refusal before middle after mid new now refuses caused writes =
    follows t task w first before after (Refused refusal) new now (record { mid = mid; middle = middle; refuses = refuses; caused = caused; writes = writes })

-- the refusals that the words and the file decide
decided_one : (task : Result Task Refusal) (refusal r : Refusal) → task ≡ Err refusal → (Refused refusal ≡ Refused r) ↔ (task ≡ Err r)
decided_one task refusal r is = ((λ e. let same : refusal ≡ r = cc in is ∙ ap (λ (k : Refusal). Err k) same), λ e. let both : Err refusal ≡ Err r = sym is ∙ e in let same : refusal ≡ r = cc in ap (λ (k : Refusal). Refused k) same)

decided_none : (task : Result Task Refusal) (answer : Answer) (r : Refusal) → IsAccepted task → (answer ≡ Refused r → ⊥) → (answer ≡ Refused r) ↔ (task ≡ Err r)
decided_none task answer r accepted never = ((λ e. absurd (never e)), λ e. let both : Ok accepted.0 ≡ Err r = sym accepted.1 ∙ e in cc)

late_differs : (refusal r : Refusal) → is_early refusal ≡ false → is_early r ≡ true → Refused refusal ≡ Refused r → ⊥
late_differs refusal r late early e = let same : refusal ≡ r = cc in let both : is_early refusal ≡ true = ap is_early same ∙ early in cc

pub early_of : (task : Result Task Refusal) (refusal : Refusal) → IsDecided task (Err refusal) → refusal ≢ refusals.FileFault → refusal ≢ refusals.NoMemory → IsEarly task (Refused refusal)
early_of task refusals.FileFault decided some found r early = absurd (some refl)
early_of task refusals.NoMemory decided some found r early = absurd (found refl)
early_of task (refusals.Usage kind) decided some found r early = decided_one task (refusals.Usage kind) r decided
early_of task refusals.FileTooLarge decided some found r early = decided_one task refusals.FileTooLarge r decided
early_of task (refusals.Elf fault) decided some found r early = decided_one task (refusals.Elf fault) r decided
early_of task (refusals.ArgsTooLong bytes) decided some found r early = decided_one task (refusals.ArgsTooLong bytes) r decided
early_of task (refusals.UnsupportedCall number pc) decided some found r early = decided_none task _ r decided (late_differs (refusals.UnsupportedCall number pc) r refl early)
early_of task (refusals.BudgetSpent n) decided some found r early = decided_none task _ r decided (late_differs (refusals.BudgetSpent n) r refl early)
early_of task refusals.InputFault decided some found r early = decided_none task _ r decided (late_differs refusals.InputFault r refl early)
early_of task (refusals.OutputFault port) decided some found r early = decided_none task _ r decided (late_differs (refusals.OutputFault port) r refl early)
early_of task refusals.ReportFault decided some found r early = decided_none task _ r decided (late_differs refusals.ReportFault r refl early)

pub early_ended : (task : Result Task Refusal) (status : ℕ) (cuts : List ℕ) (lines : List SliceLine) → IsAccepted task → IsEarly task (Ended status cuts lines)
early_ended task status cuts lines accepted r early = decided_none task (Ended status cuts lines) r accepted (λ e. cc)
