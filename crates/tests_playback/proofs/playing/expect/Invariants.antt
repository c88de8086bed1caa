use Rattle.std.proofs.Common.{◌≡◌}
use Rattle.tests_playback.proofs.playing.expect.Given as goal

abbrev pub invariant-loop-k : goal.invariant-loop-k
invariant-loop-k g l = l.guest.frames.count ≡ 16384
