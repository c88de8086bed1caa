use Rattle.std.proofs.Common.{refl}
use Rattle.std.specs.Int.Count.{ones}
use Rattle.sp_words.proofs.value.tool_named.Goals as goal

pub returns-in-cache-clause-sizes : goal.returns-in-cache-clause-sizes
unfolding ones
returns-in-cache-clause-sizes c = refl
