use Rattle.std.proofs.Common.{◌≡◌, take}
use Rattle.std.specs.List.{flat_map}
use Rattle.sp_host.specs.Told.{sent}
use Rattle.guest_model.specs.Calls.{range_bytes, array_of}
use Rattle.syscall_layer.proofs.output.send_array.Given as goal

abbrev pub invariant-loop-k : goal.invariant-loop-k
invariant-loop-k g l =
    let told = g.H.Host.told in
    let faults = g.H.Host.faults in
    let m = l.guest.machine in
    record {
      same_told : told l.host ≡ sent l.port (flat_map (range_bytes m) (take l.k (array_of m))) (told l.fn.host);
      same_faults : faults l.host ≡ faults l.fn.host;
    }
