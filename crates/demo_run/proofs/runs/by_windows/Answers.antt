use Rattle.std.proofs.Common.{ap, sym, subst, ◌∙◌}
use Rattle.guest_model.specs.Serial.{trace_of}
use Rattle.ins_views.specs.Views.{ViewFields}
use Rattle.serial_run.specs.Start.{Run}
use Rattle.sp_host.specs.EveryPacer.{every_answers, every_period, every_tally}
use Rattle.sp_host.specs.Steady.{steady_told}
use Rattle.tool_law.specs.Events.{trace_events}
use Rattle.sliced_run.specs.Sliced.{SlicedEnd, SlicedFail, shows}
use Rattle.sp_report.specs.declared.answer.Refusal.{Refusal}
use Rattle.demo_run.specs.Demo.{RunRefused, demo_run, no_world}
use Rattle.demo_run.proofs.Due.{begins, cut_run, windows_fail}
use Rattle.demo_run.proofs.Steady.{at_outset, no_source, outset}
use Rattle.demo_run.proofs.runs.by_windows.Goals as goal

pub returns-in-Ok-text_of : goal.returns-in-Ok-text_of
returns-in-Ok-text_of g c =
    let image = c.args.image.now in
    let tool = c.args.tool.now in
    let calls = g.T.Tool.calls_of tool in
    let limits = c.usual-limits.result in
    let finished = c.in-Ok-run_windows.finished in
    let pacer = c.new-pacer.result in
    let later = c.run_windows.new.pacer in
    let first = shows (every_period pacer) (every_tally pacer) (every_answers pacer) in
    let now = shows (every_period later) (every_tally later) (every_answers later) in
    let new = steady_told c.run_windows.new.host in
    let told = at_outset (steady_told c.outside-host.result) c.outside-host.ensures in
    let gives = subst (λ (r : Run). SlicedEnd (λ items s. g.T.Tool.is_value tool (trace_events calls c.args.views.now items) s) outset limits r first finished new now)
    (begins image c.in-Ok.guest.machine limits.budget c.in-Ok.ensures.machine c.usual-limits.ensures.budget) (c.in-Ok-run_windows.ensures.told outset no_world told) in
    let items = trace_of (demo_run image).budget (demo_run image).start in
    let text = c.in-Ok-text_of.ensures (trace_events calls c.args.views.now items) gives.value
    ∙ ap (λ (v : ViewFields). g.T.Tool.text_of tool v (g.T.Tool.value tool (trace_events calls v items))) c.requires.views in
    let cut = cut_run (λ items s. g.T.Tool.is_value tool (trace_events calls c.args.views.now items) s) outset new limits image first now finished c.usual-limits.ensures c.new-pacer.ensures.answers gives in
    ((gives.last, gives.ends.stands), cut, text)

pub returns : goal.returns
returns g c =
    let image = c.args.image.now in
    let fault = c.in-Err.fault in
    let new = steady_told c.run_windows.new.host in
    let told = at_outset (steady_told c.outside-host.result) c.outside-host.ensures in
    let gives = subst (λ (r : Run). SlicedFail outset r fault new) (begins image c.in-Ok.guest.machine c.usual-limits.result.budget c.in-Ok.ensures.machine c.usual-limits.ensures.budget) (c.in-Err.ensures.told outset no_world told) in
    subst (λ (refusal : Refusal). RunRefused image refusal) (sym c.refusal_of.ensures) (windows_fail outset new image fault (no_source fault c.in-Err.ensures.faults) gives)
