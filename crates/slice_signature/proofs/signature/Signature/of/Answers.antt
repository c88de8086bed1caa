use Rattle.std.proofs.Common.{refl}
use Rattle.slice_signature.proofs.signature.Signature.of.Goals as goal

pub returns : goal.returns
returns c = rw (c.pc.ensures, c.registers.ensures, c.stack_of.ensures) refl
