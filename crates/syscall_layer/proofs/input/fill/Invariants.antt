use Rattle.std.proofs.Common.{length, ◌-◌, ◌≡◌, ◌≤◌}
use Rattle.sp_host.specs.Told.{WhereTold, input_taken}
use Rattle.syscall_layer.proofs.Filled.{IsTaken}
use Rattle.syscall_layer.proofs.input.fill.Given as goal

abbrev pub invariant-loop-count : goal.invariant-loop-count
invariant-loop-count g l =
    let told = g.H.Host.told in
    let faults = g.H.Host.faults in
    record {
      same_size : length l.buffer ≡ length l.fn.buffer;
      within : l.count ≤ length l.buffer;
      same_told : told l.host ≡ input_taken l.count (told l.fn.host);
      same_faults : faults l.host ≡ faults l.fn.host;
      taken : WhereTold (told l.fn.host).input (λ left. IsTaken left l.count l.buffer);
    }

abbrev pub decreases-loop-count : goal.decreases-loop-count
decreases-loop-count g l = length l.initial.buffer - l.count
