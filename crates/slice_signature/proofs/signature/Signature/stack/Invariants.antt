use Rattle.std.proofs.Common.{◌≡◌, take}
use Rattle.guest_model.specs.Bytes.{bytes_at}
use Rattle.slice_signature.proofs.signature.Signature.stack.Given as goal

abbrev pub invariant-loop-i : goal.invariant-loop-i
invariant-loop-i l = bytes_at l.guest.machine.space.bytes l.start l.i ≡ take l.i l.self.stack
