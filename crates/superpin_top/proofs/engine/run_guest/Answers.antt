use Rattle.tool_law.specs.Events.{trace_events}
use Rattle.sliced_run.specs.Sliced.{shows}
use Rattle.superpin_top.specs.Engine.{engine_by, run_from}
use Rattle.superpin_top.proofs.Engines.{paced, serial_gives, windows_gives}
use Rattle.superpin_top.proofs.engine.run_guest.Goals as goal

pub returns-in-Serial-clause-told : goal.returns-in-Serial-clause-told
returns-in-Serial-clause-told g c text t w told =
    serial_gives (λ items s. g.T.Tool.is_value c.args.tool.now (trace_events (g.T.Tool.calls_of c.args.tool.now) c.args.views.now items) s) t
    (run_from c.args.guest.machine (record { text = text; grows = g.T.Tool.GROWS }) (engine_by c.args.how) w) _ c.run_serial.result (g.H.Host.told c.run_serial.new.host) c.in-Serial.is (c.run_serial.ensures.told t w told) c.run_serial.ensures.uncut

pub returns-in-Windows-clause-told : goal.returns-in-Windows-clause-told
returns-in-Windows-clause-told g c text t w told =
    let first = shows (g.P.Pacer.period_shown c.args.pacer.now) (g.P.Pacer.tally c.args.pacer.now) (g.P.Pacer.answers c.args.pacer.now) in
    windows_gives (λ items s. g.T.Tool.is_value c.args.tool.now (trace_events (g.T.Tool.calls_of c.args.tool.now) c.args.views.now items) s) t c.args.guest.machine (record { text = text; grows = g.T.Tool.GROWS }) c.args.how w
    first (shows (g.P.Pacer.period_shown c.period.new.self) (g.P.Pacer.tally c.period.new.self) (g.P.Pacer.answers c.period.new.self)) _ c.run_windows.result (g.H.Host.told c.run_windows.new.host) c.in-Windows.is
    (paced first _ _ _ c.args.how.msec c.period.ensures.shown c.period.ensures.tally c.period.ensures.answers) (c.run_windows.ensures.told t w told)
