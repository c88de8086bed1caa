use Rattle.cache_tool.proofs.Powers.{usual_line, usual_sets}
use Rattle.cache_tool.proofs.direct.DirectCacheDefault.default.Goals as goal

pub invariant_of-result : goal.invariant_of-result
invariant_of-result c = record { sets_fit = usual_sets; line_fits = usual_line }
