use Rattle.std.proofs.Common.{◌-◌, ◌≡◌, ◌≤◌, length}
use Rattle.sp_host.specs.Told.{sent}
use Rattle.guest_model.specs.Bytes.{bytes_at}
use Rattle.syscall_layer.proofs.output.send.Given as goal

abbrev pub invariant-loop-done : goal.invariant-loop-done
invariant-loop-done g l =
    let told = g.H.Host.told in
    let faults = g.H.Host.faults in
    record {
      within : l.done ≤ l.len;
      room : length l.buffer ≡ 4096;
      same_told : told l.host ≡ sent l.port (bytes_at l.space.space.bytes l.at l.done) (told l.fn.host);
      same_faults : faults l.host ≡ faults l.fn.host;
    }

abbrev pub decreases-loop-done : goal.decreases-loop-done
decreases-loop-done g l = l.len - l.done
