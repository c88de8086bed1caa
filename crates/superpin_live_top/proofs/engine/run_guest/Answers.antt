use denote.Param.Send.{sendable}
use Rattle.std.proofs.Common.{sym, subst}
use Rattle.live_run.proofs.Sent.{job_send}
use Rattle.serial_run.specs.Start.{start_of}
use Rattle.sliced_run.proofs.Faults.{lacks_at_start}
use Rattle.sliced_run.specs.Sliced.{shows}
use Rattle.sp_words.specs.declared.asked.By.{By}
use Rattle.syscall_layer.specs.declared.fault.RunFault.TheVariants.{NoMemory}
use Rattle.tool_law.specs.Events.{trace_events}
use Rattle.superpin_top.specs.Engine.{EngineFails, engine_by, run_from}
use Rattle.superpin_top.proofs.Engines.{paced, windows_gives}
use Rattle.superpin_live_top.proofs.engine.run_guest.Goals as goal

pub returns-in-Ok-clause-told : goal.returns-in-Ok-clause-told
returns-in-Ok-clause-told g c text t w told =
    let first = shows (g.P.Pacer.period_shown c.args.pacer.now) (g.P.Pacer.tally c.args.pacer.now) (g.P.Pacer.answers c.args.pacer.now) in
    windows_gives (λ items s. g.T.Tool.is_value c.args.tool.now (trace_events (g.T.Tool.calls_of c.args.tool.now) c.args.views.now items) s) t c.args.guest.machine (record { text = text; grows = g.T.Tool.GROWS }) c.args.how w
    first (shows (g.P.Pacer.period_shown c.period.new.self) (g.P.Pacer.tally c.period.new.self) (g.P.Pacer.answers c.period.new.self)) _ c.run_live.result (g.H.Host.told c.run_live.new.host) c.requires.by
    (paced first _ _ _ c.args.how.msec c.period.ensures.shown c.period.ensures.tally c.period.ensures.answers) (c.run_live.ensures.told t w told)

pub returns-in-Err-clause-told : goal.returns-in-Err-clause-told
returns-in-Err-clause-told g c text t w told =
    let r = run_from c.args.guest.machine (record { text = text; grows = g.T.Tool.GROWS }) (engine_by c.args.how) w in
    subst (λ (b : By). EngineFails b r t NoMemory (g.H.Host.told c.args.host.now)) (sym c.requires.by)
    (lacks_at_start t (start_of c.args.guest.machine w) (g.H.Host.told c.args.host.now) r.budget told)

pub create-requires-send-J : goal.create-requires-send-J
create-requires-send-J g c κs within = search (sendable, job_send)
