use Rattle.std.proofs.Common.{◌≡◌, map, take}
use Rattle.guest_model.specs.Call.{store_all}
use Rattle.guest_model.specs.Space.{with_bytes}
use Rattle.guest_mem.specs.Frames.{TakesFrames}
use Rattle.call_playback.specs.Stores.{range_of}
use Rattle.call_playback.proofs.storing.put_all.Given as goal

-- the writes so far are stored
abbrev pub invariant-loop-write : goal.invariant-loop-write
invariant-loop-write l = record {
  space : l.space.space ≡ with_bytes l.initial.space.space (store_all l.initial.space.space.bytes (take l.write-index l.writes));
  frames : TakesFrames l.initial.space.frames l.space.frames (map range_of (take l.write-index l.writes));
  origin : l.space.origin ≡ l.initial.space.origin;
}
