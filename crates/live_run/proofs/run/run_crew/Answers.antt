use Rattle.std.proofs.Common.{◌≡◌, ap, sym, ◌∙◌}
use Rattle.std.specs.Prelude.{Vec}
use denote.Param.Send.{sendable}
use Rattle.master_run.specs.Answers.{PacerState}
use Rattle.master_run.specs.Master.{MasterState}
use Rattle.ordered_merge.specs.declared.merger.SliceLine.{SliceLine}
use Rattle.serial_run.specs.Start.{start_of}
use Rattle.sliced_run.specs.Sliced.{shows}
use Rattle.sliced_run.proofs.Faults.{lacks_at_start}
use Rattle.live_run.proofs.Closing.{crew_ends, crew_lacks}
use Rattle.live_run.proofs.Driving.{begins, launched}
use Rattle.live_run.proofs.Sent.{job_send}
use Rattle.live_run.proofs.run.run_crew.Goals as goal

pub close-requires-send-J : goal.close-requires-send-J
close-requires-send-J g c κs within = search (sendable, job_send)

pub close-requires-in_default-launch-send-J : goal.close-requires-in_default-launch-send-J
close-requires-in_default-launch-send-J g c κs within = search (sendable, job_send)

pub returns-in_default-clause-told : goal.returns-in_default-clause-told
returns-in_default-clause-told g c t w is = lacks_at_start t (start_of c.args.guest.machine w) (g.H.Host.told c.args.host.now) c.args.limits.now.budget is

pub returns-in_default-launch-clause-told : goal.returns-in_default-launch-clause-told
returns-in_default-launch-clause-told g c t w is = lacks_at_start t (start_of c.args.guest.machine w) (g.H.Host.told c.args.host.now) c.args.limits.now.budget is

pub lead_beside-requires-clause-can : goal.lead_beside-requires-clause-can
lead_beside-requires-clause-can g c κs within =
    let run = c.args.course.now.run in
    let m = c.in-Ok-launch.master in
    let start = c.args.course.now.pacer.value in
    let pacer = c.args.pacer.now in
    let first : PacerState = shows (g.P.Pacer.period_shown start) (g.P.Pacer.tally start) (g.P.Pacer.answers start) in
    let now : PacerState = shows (g.P.Pacer.period_shown pacer) (g.P.Pacer.tally pacer) (g.P.Pacer.answers pacer) in
    let shown : now ≡ first = ap (λ p. shows (g.P.Pacer.period_shown p) (g.P.Pacer.tally p) (g.P.Pacer.answers p)) c.requires.launch.1 in
    record {
      seat = c.requires.seat;
      topic = c.requires.run.0;
      tool_is = c.requires.tool;
      plan_is = c.requires.plan;
      start = launched run.machine c.args.guest.machine c.args.limits.now m c.requires.run.1 c.in-Ok-launch.ensures.start;
      merger = (c.in-Ok.ensures.lines, c.in-Ok.ensures.sound, c.in-Ok.ensures.value);
      begun = begins run.told (g.H.Host.told c.args.host.now) run.machine c.args.guest.machine first now m c.requires.launch.0 c.requires.run.1 shown c.in-Ok-launch.ensures.told;
    }

pub returns-in-Ok-finished-clause-told : goal.returns-in-Ok-finished-clause-told
returns-in-Ok-finished-clause-told g c t w is =
    let run = c.args.course.now.run in
    let m = c.in-Ok-launch.master in
    let start = c.args.course.now.pacer.value in
    let pacer = c.args.pacer.now in
    let later = c.lead_beside.new.pacer in
    let first : PacerState = shows (g.P.Pacer.period_shown start) (g.P.Pacer.tally start) (g.P.Pacer.answers start) in
    let shown : PacerState = shows (g.P.Pacer.period_shown pacer) (g.P.Pacer.tally pacer) (g.P.Pacer.answers pacer) in
    let now : PacerState = shows (g.P.Pacer.period_shown later) (g.P.Pacer.tally later) (g.P.Pacer.answers later) in
    let led = c.in-Ok-lead_beside.ensures.led in
    let gives = led.gives t w (c.requires.launch.0 ∙ is) in
    let limits : m.limits ≡ c.args.limits.now = ap (λ (k : MasterState). k.limits) c.in-Ok-launch.ensures.start in
    let same : first ≡ shown = ap (λ p. shows (g.P.Pacer.period_shown p) (g.P.Pacer.tally p) (g.P.Pacer.answers p)) (sym c.requires.launch.1) in
    let f = c.in-Ok-finished.ensures in
    let merger = c.lead_beside.new.merger in
    crew_ends t w run.machine c.args.guest.machine first shown c.args.limits.now m.limits c.lead_beside.new.master c.in-Ok-lead_beside.end (g.H.Host.told c.lead_beside.new.host) now c.args.course.now.work.now.plan.now
    (g.T.Tool.calls_of c.args.course.now.work.now.tool.now) c.args.views.now (g.T.Tool.is_local c.args.course.now.work.now.tool.now) (g.T.Tool.is_value c.args.course.now.work.now.tool.now) c.lead_beside.new.lead.view.lead.tags merger.shared merger.lines.items
    c.in-Ok-finished.finished c.requires.calls c.requires.fits c.requires.run.1 same limits led.cut led.tags f.end (f.cuts ∙ c.cuts.ensures) f.shared (ap (λ (v : Vec SliceLine _). v.items) f.lines) gives.0 gives.1

pub returns-in-Ok-lead_beside-clause-told : goal.returns-in-Ok-lead_beside-clause-told
returns-in-Ok-lead_beside-clause-told g c t w is =
    let run = c.args.course.now.run in
    let m = c.in-Ok-launch.master in
    let start = c.args.course.now.pacer.value in
    let pacer = c.args.pacer.now in
    let later = c.lead_beside.new.pacer in
    let first : PacerState = shows (g.P.Pacer.period_shown start) (g.P.Pacer.tally start) (g.P.Pacer.answers start) in
    let shown : PacerState = shows (g.P.Pacer.period_shown pacer) (g.P.Pacer.tally pacer) (g.P.Pacer.answers pacer) in
    let now : PacerState = shows (g.P.Pacer.period_shown later) (g.P.Pacer.tally later) (g.P.Pacer.answers later) in
    let led = c.in-Ok-lead_beside.ensures.led in
    let gives = led.gives t w (c.requires.launch.0 ∙ is) in
    let limits : m.limits ≡ c.args.limits.now = ap (λ (k : MasterState). k.limits) c.in-Ok-launch.ensures.start in
    crew_lacks t w run.machine c.args.guest.machine first shown c.args.limits.now m.limits c.lead_beside.new.master c.in-Ok-lead_beside.end (g.H.Host.told c.lead_beside.new.host) now c.requires.run.1 limits led.cut gives.0
