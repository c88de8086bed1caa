use Rattle.std.proofs.Common.{refl, inr, arith}
use Rattle.guest_model.specs.Effect.{effect_of}
use Rattle.guest_mem.proofs.Few.{few_for_effect}
use Rattle.guest_mem.proofs.laws.frames_of_instructions.Goals as goal

pub returns : goal.returns
returns c = λ f m enough. inr (omega (arith, few_for_effect f m (effect_of m) refl, enough))
