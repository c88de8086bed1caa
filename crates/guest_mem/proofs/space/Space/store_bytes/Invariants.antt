use Rattle.std.proofs.Common.{◌≡◌, ◌-◌, ◌≤◌, length, take}
use Rattle.guest_model.specs.Bytes.{put_bytes}
use Rattle.guest_model.specs.Space.{with_bytes}
use Rattle.guest_mem.proofs.Ranges.{TakesAt}
use Rattle.guest_mem.proofs.space.Space.store_bytes.Given as goal

-- the bytes so far are stored, and took their frames
abbrev pub invariant-loop-done : goal.invariant-loop-done
invariant-loop-done l = record {
  in_bytes : l.done ≤ length l.bytes;
  space : l.self.space ≡ with_bytes l.initial.self.space (put_bytes l.initial.self.space.bytes l.at (take l.done l.bytes));
  frames : TakesAt l.initial.self.frames l.self.frames l.at l.done;
  origin : l.self.origin ≡ l.initial.self.origin;
}

abbrev pub decreases-loop-done : goal.decreases-loop-done
decreases-loop-done l = length l.bytes - l.done
