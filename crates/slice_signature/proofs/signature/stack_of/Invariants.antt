use Rattle.std.proofs.Common.{◌≡◌}
use Rattle.guest_model.specs.Bytes.{bytes_at}
use Rattle.slice_signature.proofs.signature.stack_of.Given as goal

abbrev pub invariant-loop-i : goal.invariant-loop-i
invariant-loop-i l = l.stack.items ≡ bytes_at l.at.machine.space.bytes l.start l.i
