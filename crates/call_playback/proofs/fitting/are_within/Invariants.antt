use Rattle.std.proofs.Common.{◌≡◌, ◌+◌, length, take}
use Rattle.std.specs.List.{sum_by}
use Rattle.call_playback.proofs.fitting.are_within.Given as goal

-- the room that is left beside the writes so far
abbrev pub invariant-loop-write : goal.invariant-loop-write
invariant-loop-write l = l.room + sum_by (λ s. length s.bytes) (take l.write-index l.writes) ≡ l.most
