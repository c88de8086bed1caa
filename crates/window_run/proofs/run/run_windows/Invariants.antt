use Rattle.std.proofs.Common.{◌≡◌, ◌-◌, false, [], ◌++◌}
use Rattle.sp_host.specs.Told.{Told}
use Rattle.guest_model.specs.Call.{World}
use Rattle.syscall_layer.specs.Serve.{told_after}
use Rattle.serial_run.specs.Start.{start_of}
use Rattle.window_run.specs.Jobs.{IsRun, and_one}
use Rattle.sliced_run.specs.Sliced.{shows}
use Rattle.window_run.proofs.Going.{IsGoing}
use Rattle.window_run.proofs.run.run_windows.Given as goal

abbrev pub invariant-loop-end : goal.invariant-loop-end
invariant-loop-end g l =
    let told = g.H.Host.told in
    let faults = g.H.Host.faults in
    let period = g.P.Pacer.period_shown in
    let tally = g.P.Pacer.tally in
    let answers = g.P.Pacer.answers in record {
      going : IsGoing (g.T.Tool.is_local l.tool) (g.T.Tool.is_value l.tool) l.plan l.limits l.merger.shared l.merger.lines.items l.window.jobs.items l.window.end l.master;
      sound : l.merger.refused ≡ false;
      same_faults : faults l.host ≡ faults l.fn.host;
      same_period : period l.pacer ≡ period l.fn.pacer;
      run : (t : Told) (w : World) → told l.fn.host ≡ told_after t w [] → IsRun t (start_of l.fn.guest.machine w) (shows (period l.fn.pacer) (tally l.fn.pacer) (answers l.fn.pacer)) (going.done ++ l.window.jobs.items) l.window.end l.master (told l.host)
          (shows (period l.pacer) (tally l.pacer) (answers l.pacer));
    }

abbrev pub decreases-loop-end : goal.decreases-loop-end
decreases-loop-end g l = l.limits.budget - and_one l.window.end l.master.position
