use Rattle.std.proofs.Common.{◌≡◌, length, take, map}
use Rattle.page_table.specs.Table.{shared_list}
use Rattle.page_table.proofs.branch.Branch.try_clone.Given as goal

abbrev pub invariant-loop-leaf : goal.invariant-loop-leaf
invariant-loop-leaf l = (length l.leaves.items ≡ l.leaf-index) × (map shared_list l.leaves.items ≡ map shared_list (take l.leaf-index l.leaf-items))
