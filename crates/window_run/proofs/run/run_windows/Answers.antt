use Rattle.std.proofs.Common.{ℕ, List, [], ◌++◌, sym, ap, subst, ◌∙◌}
use Rattle.std.specs.Prelude.{Option}
use Rattle.guest_model.specs.Serial.{Position}
use Rattle.boundary_verify.specs.Job.{JobFields}
use Rattle.master_run.specs.Answers.{PacerState}
use Rattle.master_run.specs.Master.{MasterState}
use Rattle.rv_machine.specs.declared.step.End.{End}
use Rattle.serial_run.specs.Start.{start_of}
use Rattle.window_run.specs.Jobs.{IsRun}
use Rattle.sliced_run.specs.Sliced.{SlicedFail, shows}
use Rattle.window_run.proofs.Ending.{all_ends}
use Rattle.sliced_run.proofs.Faults.{lacks_at_start}
use Rattle.window_run.proofs.Filling.{lacks, run_none}
use Rattle.window_run.proofs.Going.{going_first, going_next, less_left}
use Rattle.window_run.proofs.run.run_windows.Goals as goal

pub returns-in_default-clause-told : goal.returns-in_default-clause-told
returns-in_default-clause-told g c t w is = lacks_at_start t (start_of c.args.guest.machine w) (g.H.Host.told c.args.host.now) c.args.limits.now.budget is

pub returns-in_default-launch-clause-told : goal.returns-in_default-launch-clause-told
returns-in_default-launch-clause-told g c t w is = lacks_at_start t (start_of c.args.guest.machine w) (g.H.Host.told c.args.host.now) c.args.limits.now.budget is

pub returns-in-Err-clause-told : goal.returns-in-Err-clause-told
returns-in-Err-clause-told g c t w is =
    let p : Position = start_of c.args.guest.machine w in
    let pacer = c.args.pacer.now in
    let first : PacerState = shows (g.P.Pacer.period_shown pacer) (g.P.Pacer.tally pacer) (g.P.Pacer.answers pacer) in
    let m = c.in-Ok-launch.master in
    let start = run_none t p first m c.args.guest.machine c.args.limits.now (g.H.Host.told c.args.host.now) c.in-Ok-launch.ensures.start is (c.in-Ok-launch.ensures.told t w first) in
    subst (λ (n : ℕ). SlicedFail t (record { start = p; budget = n }) c.in-Err.fault (g.H.Host.told c.fill.new.host)) (ap (λ (k : MasterState). k.limits.budget) c.in-Ok-launch.ensures.start)
    (c.in-Err.ensures.told.gives t p first [] start)

pub loop-end-init : goal.loop-end-init
loop-end-init g c =
    let stands = g.T.Tool.is_local c.args.tool.now in
    let is_value = g.T.Tool.is_value c.args.tool.now in
    let m = c.in-Ok-launch.master in
    let new = c.fill.new.master in
    let window = c.in-Ok-fill.window in
    let going = going_first stands is_value c.args.plan.now c.args.limits.now c.in-Ok.merger.shared c.in-Ok.merger.lines.items window.jobs.items window.end c.args.guest.machine m new c.in-Ok-launch.ensures.start
    c.in-Ok.ensures.value c.in-Ok.ensures.lines c.in-Ok-fill.ensures.hands in
    record {
      going = going.0;
      sound = c.in-Ok.ensures.sound;
      same_faults = c.in-Ok-fill.ensures.faults;
      same_period = c.in-Ok-fill.ensures.period;
      run = λ t w is.
          let p : Position = start_of c.args.guest.machine w in
          let pacer = c.args.pacer.now in
          let later = c.fill.new.pacer in
          let first : PacerState = shows (g.P.Pacer.period_shown pacer) (g.P.Pacer.tally pacer) (g.P.Pacer.answers pacer) in
          let shown : PacerState = shows (g.P.Pacer.period_shown later) (g.P.Pacer.tally later) (g.P.Pacer.answers later) in
          let start = run_none t p first m c.args.guest.machine c.args.limits.now (g.H.Host.told c.args.host.now) c.in-Ok-launch.ensures.start is (c.in-Ok-launch.ensures.told t w first) in
          subst (λ (done : List JobFields). IsRun t p first (done ++ window.jobs.items) window.end new (g.H.Host.told c.fill.new.host) shown) (sym going.1) (c.in-Ok-fill.ensures.told.gives t p first [] start);
    }

pub returns-in-Err-next_window-clause-told : goal.returns-in-Err-next_window-clause-told
returns-in-Err-next_window-clause-told g c t w is =
    let p : Position = start_of c.args.guest.machine w in
    let pacer = c.args.pacer.now in
    let middle = c.loop-end.pacer in
    let first : PacerState = shows (g.P.Pacer.period_shown pacer) (g.P.Pacer.tally pacer) (g.P.Pacer.answers pacer) in
    let before : PacerState = shows (g.P.Pacer.period_shown middle) (g.P.Pacer.tally middle) (g.P.Pacer.answers middle) in
    let m = c.loop-end.master in
    let all = c.loop-end.invariant.going.done ++ c.loop-end.window.jobs.items in
    let run = subst (λ (o : Option End). IsRun t p first all o m (g.H.Host.told c.loop-end.host) before) c.in_default-end.is (c.loop-end.invariant.run t w is) in
    subst (λ (n : ℕ). SlicedFail t (record { start = p; budget = n }) c.in-Err-next_window.fault (g.H.Host.told c.next_window.new.host)) (ap (λ l. l.budget) c.loop-end.invariant.going.limits_are)
    (c.in-Err-next_window.ensures.told.gives t p first all run)

pub loop-end-smaller : goal.loop-end-smaller
loop-end-smaller g c =
    less_left c.args.limits.now c.loop-end.master c.next_window.new.master c.in-Ok-next_window.window.jobs.items c.loop-end.window.end c.in-Ok-next_window.window.end c.in_default-end.is c.loop-end.invariant.going.limits_are
    c.in-Ok-next_window.ensures.hands c.in-Ok-next_window.ensures.some

pub loop-end-preserved : goal.loop-end-preserved
loop-end-preserved g c =
    let stands = g.T.Tool.is_local c.args.tool.now in
    let is_value = g.T.Tool.is_value c.args.tool.now in
    let m = c.loop-end.master in
    let new = c.next_window.new.master in
    let jobs = c.loop-end.window.jobs.items in
    let window = c.in-Ok-next_window.window in
    let inv = c.loop-end.invariant in
    let merger = c.loop-end.merger in
    let more = c.next_window.new.merger in
    let going = going_next stands is_value c.args.plan.now c.args.limits.now merger.shared more.shared merger.lines.items more.lines.items jobs window.jobs.items c.loop-end.window.end window.end m new inv.going c.in_default-end.is
    c.in-Ok-next_window.ensures.merges c.in-Ok-next_window.ensures.hands in
    record {
      going = going.0;
      sound = c.in-Ok-next_window.ensures.sound;
      same_faults = c.in-Ok-next_window.ensures.faults ∙ inv.same_faults;
      same_period = c.in-Ok-next_window.ensures.period ∙ inv.same_period;
      run = λ t w is.
          let p : Position = start_of c.args.guest.machine w in
          let pacer = c.args.pacer.now in
          let middle = c.loop-end.pacer in
          let later = c.next_window.new.pacer in
          let first : PacerState = shows (g.P.Pacer.period_shown pacer) (g.P.Pacer.tally pacer) (g.P.Pacer.answers pacer) in
          let before : PacerState = shows (g.P.Pacer.period_shown middle) (g.P.Pacer.tally middle) (g.P.Pacer.answers middle) in
          let shown : PacerState = shows (g.P.Pacer.period_shown later) (g.P.Pacer.tally later) (g.P.Pacer.answers later) in
          let all = inv.going.done ++ jobs in
          let run = subst (λ (o : Option End). IsRun t p first all o m (g.H.Host.told c.loop-end.host) before) c.in_default-end.is (inv.run t w is) in
          subst (λ (done : List JobFields). IsRun t p first (done ++ window.jobs.items) window.end new (g.H.Host.told c.next_window.new.host) shown) (sym going.1) (c.in-Ok-next_window.ensures.told.gives t p first all run);
    }

pub returns-in_default-last_window-clause-told : goal.returns-in_default-last_window-clause-told
returns-in_default-last_window-clause-told g c t w is =
    let p : Position = start_of c.args.guest.machine w in
    let pacer = c.args.pacer.now in
    let middle = c.loop-end.pacer in
    let first : PacerState = shows (g.P.Pacer.period_shown pacer) (g.P.Pacer.tally pacer) (g.P.Pacer.answers pacer) in
    let before : PacerState = shows (g.P.Pacer.period_shown middle) (g.P.Pacer.tally middle) (g.P.Pacer.answers middle) in
    let inv = c.loop-end.invariant in
    lacks t p first (inv.going.done ++ c.loop-end.window.jobs.items) c.loop-end.window.end c.loop-end.master (g.H.Host.told c.loop-end.host) before c.args.limits.now.budget (inv.run t w is) inv.going.within

pub returns-in-loop-end-clause-told : goal.returns-in-loop-end-clause-told
returns-in-loop-end-clause-told g c t w is =
    let p : Position = start_of c.args.guest.machine w in
    let pacer = c.args.pacer.now in
    let middle = c.loop-end.pacer in
    let first : PacerState = shows (g.P.Pacer.period_shown pacer) (g.P.Pacer.tally pacer) (g.P.Pacer.answers pacer) in
    let before : PacerState = shows (g.P.Pacer.period_shown middle) (g.P.Pacer.tally middle) (g.P.Pacer.answers middle) in
    let inv = c.loop-end.invariant in
    let merger = c.loop-end.merger in
    let last = c.in-Ok-last_window.ensures in
    all_ends c.args.plan.now (g.T.Tool.calls_of c.args.tool.now) c.args.views.now (g.T.Tool.is_local c.args.tool.now) (g.T.Tool.is_value c.args.tool.now) c.requires.plan t p first c.args.limits.now c.loop-end.master merger.shared merger.lines.items
    c.loop-end.window.jobs.items c.loop-end.window.end c.in-Some.end c.in-Ok-last_window.finished (g.H.Host.told c.loop-end.host) before inv.going c.know_pc.ensures c.in-Some.is last.end (last.cuts ∙ c.cuts-cuts.ensures) last.merges
    (inv.run t w is)
