use Rattle.std.proofs.Common.{◌/◌, ◌%◌, [], ap, get_or}
use Rattle.page_table.proofs.Tables.{none_at}
use Rattle.page_table.proofs.branch.Branch.new.Goals as goal

pub returns : goal.returns
returns c = λ page. ap (λ l. get_or l (page % 32) []) (none_at c.loop-index.leaves.items c.loop-index.invariant.1 (page / 32))
