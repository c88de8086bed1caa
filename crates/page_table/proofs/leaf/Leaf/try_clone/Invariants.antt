use Rattle.std.proofs.Common.{◌≡◌, length, take, map}
use Rattle.page_table.specs.Table.{shared_list}
use Rattle.page_table.proofs.leaf.Leaf.try_clone.Given as goal

abbrev pub invariant-loop-page : goal.invariant-loop-page
invariant-loop-page l = (length l.pages.items ≡ l.page-index) × (map shared_list l.pages.items ≡ map shared_list (take l.page-index l.page-items))
