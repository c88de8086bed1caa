use Rattle.std.proofs.Common.{◌≡◌, ◌≤◌, []}
use Rattle.sp_host.specs.Told.{Told}
use Rattle.guest_model.specs.Call.{World}
use Rattle.guest_model.specs.declared.platform.TheConstants.{MOST_PAGES}
use Rattle.syscall_layer.specs.Serve.{told_after}
use Rattle.serial_run.specs.Start.{start_of}
use Rattle.serial_run.proofs.Runs.{SoFar}
use Rattle.serial_run.proofs.run.run_steps.Given as goal

abbrev pub invariant-loop-steps : goal.invariant-loop-steps
invariant-loop-steps g l =
    let told = g.H.Host.told in
    let faults = g.H.Host.faults in
    let stands = g.T.Tool.is_local l.tool in
    record {
      frames : MOST_PAGES ≤ l.guest.frames.count;
      few : l.calls ≤ l.steps;
      same_faults : faults l.host ≡ faults l.fn.host;
      so_far : (t : Told) (w : World) → told l.fn.host ≡ told_after t w [] → stands [] l.fn.local →
          SoFar l.plan stands t (record { start = start_of l.fn.guest.machine w; budget = l.budget }) (told l.host) l.guest.machine l.calls l.steps l.local;
    }
