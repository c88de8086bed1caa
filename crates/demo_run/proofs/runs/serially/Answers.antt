use Rattle.std.proofs.Common.{ap, sym, subst, ◌∙◌}
use Rattle.guest_model.specs.Serial.{trace_of}
use Rattle.ins_views.specs.Views.{ViewFields}
use Rattle.serial_run.specs.Run.{RunEnds, RunFails}
use Rattle.serial_run.specs.Start.{Run}
use Rattle.sp_host.specs.Steady.{steady_told}
use Rattle.tool_law.specs.Events.{trace_events}
use Rattle.sp_report.specs.declared.answer.Refusal.{Refusal}
use Rattle.demo_run.specs.Demo.{RunRefused, demo_run, no_world}
use Rattle.demo_run.proofs.Due.{begins, fails}
use Rattle.demo_run.proofs.Steady.{at_outset, no_source, outset}
use Rattle.demo_run.proofs.runs.serially.Goals as goal

pub returns-in-Ok-text_of : goal.returns-in-Ok-text_of
returns-in-Ok-text_of g c =
    let image = c.args.image.now in
    let tool = c.args.tool.now in
    let calls = g.T.Tool.calls_of tool in
    let finished = c.in-Ok-run_serial.finished in
    let told = at_outset (steady_told c.outside-host.result) c.outside-host.ensures in
    let gives = subst (λ (r : Run). RunEnds (λ items s. g.T.Tool.is_value tool (trace_events calls c.args.views.now items) s) outset r finished (steady_told c.run_serial.new.host))
    (begins image c.in-Ok.guest.machine c.usual.result.budget c.in-Ok.ensures.machine c.usual.ensures.budget) (c.in-Ok-run_serial.ensures.told outset no_world told) in
    let items = trace_of (demo_run image).budget (demo_run image).start in
    let text = c.in-Ok-text_of.ensures (trace_events calls c.args.views.now items) gives.value
    ∙ ap (λ (v : ViewFields). g.T.Tool.text_of tool v (g.T.Tool.value tool (trace_events calls v items))) c.requires.views in
    ((gives.last, gives.ends.stands), text)

pub returns : goal.returns
returns g c =
    let image = c.args.image.now in
    let fault = c.in-Err.fault in
    let new = steady_told c.run_serial.new.host in
    let told = at_outset (steady_told c.outside-host.result) c.outside-host.ensures in
    let gives = subst (λ (r : Run). RunFails g.T.Tool.GROWS outset r fault new) (begins image c.in-Ok.guest.machine c.usual.result.budget c.in-Ok.ensures.machine c.usual.ensures.budget) (c.in-Err.ensures.told outset no_world told) in
    subst (λ (refusal : Refusal). RunRefused image refusal) (sym c.refusal_of.ensures) (fails g.T.Tool.GROWS outset new image fault (no_source fault c.in-Err.ensures.faults) gives)
