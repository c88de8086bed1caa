use Rattle.std.proofs.Common.{◌≡◌, length, take}
use Rattle.std.specs.List.{sum_by}
use Rattle.call_record.specs.Record.{Stored}
use Rattle.call_record.proofs.log.size_of.Given as goal

abbrev pub invariant-loop-write : goal.invariant-loop-write
invariant-loop-write l = l.size ≡ sum_by (λ (s : Stored). length s.bytes) (take l.write-index l.writes)
