use Rattle.std.proofs.Common.{◌≡◌, length, take, map}
use Rattle.page_table.specs.Table.{shared_list}
use Rattle.page_table.proofs.table.PageTable.try_clone.Given as goal

abbrev pub invariant-loop-branch : goal.invariant-loop-branch
invariant-loop-branch l = (length l.branches.items ≡ l.branch-index) × (map shared_list l.branches.items ≡ map shared_list (take l.branch-index l.branch-items))
