use Rattle.std.proofs.Common.{ℕ, List, refl, ap, sym, subst, ◌∙◌}
use Rattle.std.specs.Prelude.{Ok}
use Rattle.sp_host.specs.Faults.{Faults}
use Rattle.guest_model.specs.Serial.{trace_of}
use Rattle.ins_views.specs.Views.{ViewFields, views_of}
use Rattle.insert_points.specs.declared.call.Event.{Event}
use Rattle.ordered_merge.specs.declared.merger.SliceLine.{SliceLine}
use Rattle.sp_report.specs.Lines.{end_by}
use Rattle.sp_report.specs.declared.answer.Refusal.{Refusal}
use Rattle.sp_report.specs.declared.answer.Refusal.TheVariants.{ReportFault}
use Rattle.sp_words.specs.Due.{Program, report_of, run_of_program}
use Rattle.sp_words.specs.Tools.{with_calls}
use Rattle.tool_law.specs.Events.{trace_events}
use Rattle.superpin_top.specs.Causes.{CausedBy}
use Rattle.superpin_top.specs.Due.{Runs}
use Rattle.superpin_top.specs.Engine.{program_by, sliced_by}
use Rattle.superpin_top.specs.Outcome.{Refuses}
use Rattle.superpin_top.proofs.Causes.{result_calm, result_caused}
use Rattle.superpin_top.proofs.Engines.{engine_ends, engine_fails}
use Rattle.superpin_top.proofs.Outcomes.{finishes, no_room, not_reported, reported, run_refuses}
use Rattle.superpin_top.proofs.run.finish.Goals as goal

pub returns-in-Err-clause-told : goal.returns-in-Err-clause-told
returns-in-Err-clause-told g c t w image strings first now input moments views_are gives =
    let calls = g.T.Tool.calls_of c.args.tool.now in
    let text : List Event → List ℕ = λ xs. g.T.Tool.text_of c.args.tool.now (views_of image) (g.T.Tool.value c.args.tool.now xs) in
    let p : Program = program_by image strings (with_calls (views_of image) g.T.Tool.GROWS calls text) c.args.how in
    let mid = g.H.Host.told c.args.host.now in
    let fails = engine_fails (λ items s. g.T.Tool.is_value c.args.tool.now (trace_events calls c.args.views.now items) s) t (run_of_program p w) first c.args.run c.in-Err.fault mid now c.in-Err.is gives in
    subst (λ (refusal : Refusal). Refuses t (Ok (Runs p)) w first refusal mid now) (sym c.refusal_of_run.ensures) (run_refuses t mid p w first now c.args.how.by c.in-Err.fault refl input moments fails)

pub returns-in_default-clause-told : goal.returns-in_default-clause-told
returns-in_default-clause-told g c t w image strings first now input moments views_are gives =
    let calls = g.T.Tool.calls_of c.args.tool.now in
    let text : List Event → List ℕ = λ xs. g.T.Tool.text_of c.args.tool.now (views_of image) (g.T.Tool.value c.args.tool.now xs) in
    let p : Program = program_by image strings (with_calls (views_of image) g.T.Tool.GROWS calls text) c.args.how in
    let mid = g.H.Host.told c.args.host.now in
    let ends = engine_ends (λ items s. g.T.Tool.is_value c.args.tool.now (trace_events calls c.args.views.now items) s) t (run_of_program p w) first c.args.run c.in-Ok.finished mid now c.in-Ok.is gives in
    no_room t p w first now ends.last c.in-Ok.finished.end mid ends.ends

pub returns-in-Ok-write_whole-clause-told : goal.returns-in-Ok-write_whole-clause-told
returns-in-Ok-write_whole-clause-told g c t w image strings first now input moments views_are gives =
    let calls = g.T.Tool.calls_of c.args.tool.now in
    let text : List Event → List ℕ = λ xs. g.T.Tool.text_of c.args.tool.now (views_of image) (g.T.Tool.value c.args.tool.now xs) in
    let p : Program = program_by image strings (with_calls (views_of image) g.T.Tool.GROWS calls text) c.args.how in
    let finished = c.in-Ok.finished in
    let mid = g.H.Host.told c.args.host.now in
    let ends = engine_ends (λ items s. g.T.Tool.is_value c.args.tool.now (trace_events calls c.args.views.now items) s) t (run_of_program p w) first c.args.run finished mid now c.in-Ok.is gives in
    let r = run_of_program p w in
    let done = finishes t mid r (sliced_by finished) first now ends.last finished.end ends.ends ends.told_slices ends.sliced in
    let whole = c.deref.ensures.value ∙ (c.in-Ok-report.ensures (trace_events calls c.args.views.now (trace_of r.budget r.start)) ends.value
    ∙ ap (λ (v : ViewFields). report_of c.args.how.slices (g.T.Tool.text_of c.args.tool.now v (g.T.Tool.value c.args.tool.now (trace_events calls v (trace_of r.budget r.start)))) (end_by finished.end) finished.lines.items) views_are) in
    reported t p w first now finished.end mid (g.H.Host.told c.write_whole.new.host) (sliced_by finished) (p.tool.text (trace_of r.budget r.start)) c.deref.result.now
    (record { status = c.status.result; cuts = c.new.result; lines = c.new-in-Ok-write_whole.result }) done whole c.in-Ok-write_whole.ensures.told c.status.ensures
    (ap (λ (cuts : List ℕ). record { cuts = cuts; lines = c.new-in-Ok-write_whole.result }) c.new.ensures ∙ ap (λ (lines : List SliceLine). record { cuts = finished.cuts.items; lines = lines }) c.new-in-Ok-write_whole.ensures)

pub returns-in-Err-write_whole-clause-told : goal.returns-in-Err-write_whole-clause-told
returns-in-Err-write_whole-clause-told g c t w image strings first now input moments views_are gives =
    let calls = g.T.Tool.calls_of c.args.tool.now in
    let text : List Event → List ℕ = λ xs. g.T.Tool.text_of c.args.tool.now (views_of image) (g.T.Tool.value c.args.tool.now xs) in
    let p : Program = program_by image strings (with_calls (views_of image) g.T.Tool.GROWS calls text) c.args.how in
    let finished = c.in-Ok.finished in
    let mid = g.H.Host.told c.args.host.now in
    let ends = engine_ends (λ items s. g.T.Tool.is_value c.args.tool.now (trace_events calls c.args.views.now items) s) t (run_of_program p w) first c.args.run finished mid now c.in-Ok.is gives in
    let r = run_of_program p w in
    let done = finishes t mid r (sliced_by finished) first now ends.last finished.end ends.ends ends.told_slices ends.sliced in
    let whole = c.deref.ensures.value ∙ (c.in-Ok-report.ensures (trace_events calls c.args.views.now (trace_of r.budget r.start)) ends.value
    ∙ ap (λ (v : ViewFields). report_of c.args.how.slices (g.T.Tool.text_of c.args.tool.now v (g.T.Tool.value c.args.tool.now (trace_events calls v (trace_of r.budget r.start)))) (end_by finished.end) finished.lines.items) views_are) in
    not_reported t p w first now finished.end mid (g.H.Host.told c.write_whole.new.host) (sliced_by finished) (p.tool.text (trace_of r.budget r.start)) c.deref.result.now done whole c.in-Err-write_whole.ensures.told

pub returns-in-Err-clause-faults : goal.returns-in-Err-clause-faults
returns-in-Err-clause-faults g c before caused guests =
    subst (λ (refusal : Refusal). CausedBy refusal before (g.H.Host.faults c.args.host.now)) (sym c.refusal_of_run.ensures) (result_caused c.args.run c.in-Err.fault before (g.H.Host.faults c.args.host.now) c.in-Err.is caused guests)

pub returns-in_default-clause-faults : goal.returns-in_default-clause-faults
returns-in_default-clause-faults g c before caused guests = (result_calm c.args.run c.in-Ok.finished before (g.H.Host.faults c.args.host.now) c.in-Ok.is caused, tt)

pub returns-in-Ok-write_whole-clause-faults : goal.returns-in-Ok-write_whole-clause-faults
returns-in-Ok-write_whole-clause-faults g c before caused guests =
    c.in-Ok-write_whole.ensures.faults ∙ result_calm c.args.run c.in-Ok.finished before (g.H.Host.faults c.args.host.now) c.in-Ok.is caused

pub returns-in-Err-write_whole-clause-faults : goal.returns-in-Err-write_whole-clause-faults
returns-in-Err-write_whole-clause-faults g c before caused guests =
    subst (λ (f : Faults). CausedBy ReportFault f (g.H.Host.faults c.write_whole.new.host)) (result_calm c.args.run c.in-Ok.finished before (g.H.Host.faults c.args.host.now) c.in-Ok.is caused) (c.in-Err-write_whole.ensures.faults, tt)
