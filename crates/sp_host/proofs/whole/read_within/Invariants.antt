use Rattle.std.proofs.Common.{◌≡◌, ◌≤◌, ◌-◌, ◌+◌, max, vec_len}
use Rattle.sp_host.specs.Told.{WhereTold, file_of}
use Rattle.sp_host.specs.Whole.{IsFront}
use Rattle.sp_host.proofs.whole.read_within.Given as goal

abbrev pub invariant-pieces : goal.invariant-pieces
invariant-pieces g l =
    let told = g.H.Host.told in
    let faults = g.H.Host.faults in
    let reach = g.H.Host.reach in
    let drawn = g.H.Host.drawn in
    record {
      size : vec_len l.bytes ≤ l.most + 1;
      same_told : told l.host ≡ told l.fn.host;
      same_faults : faults l.host ≡ faults l.fn.host;
      reach : reach l.host ≤ max (reach l.fn.host) (l.most + 1);
      drawn : drawn l.host ≤ drawn l.fn.host + vec_len l.bytes;
      bytes : WhereTold (told l.fn.host).files (λ files. IsFront l.bytes.items (file_of files l.name));
    }

abbrev pub decreases-pieces : goal.decreases-pieces
decreases-pieces g l = (l.most + 1) - vec_len l.bytes
