use Rattle.std.proofs.Common.{◌/◌, ◌%◌, ap}
use Rattle.page_table.specs.Table.{page_in}
use Rattle.page_table.proofs.Tables.{none_at}
use Rattle.page_table.proofs.table.PageTable.new.Goals as goal

pub returns : goal.returns
returns c = λ page. ap (λ b. page_in b (page % 4096)) (none_at c.loop-index.branches.items c.loop-index.invariant.1 (page / 4096))
