use Rattle.std.proofs.Common.{inr, arith}
use Rattle.guest_mem.proofs.Few.{few_for_step}
use Rattle.guest_mem.proofs.laws.frames_of_steps.Goals as goal

pub returns : goal.returns
returns c = λ f m enough. inr (omega (arith, few_for_step f m, enough))
