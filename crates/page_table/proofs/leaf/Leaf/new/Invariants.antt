use Rattle.std.proofs.Common.{◌≡◌, ℕ, [], length, get_or, map}
use Rattle.page_table.specs.Table.{shared_list}
use Rattle.page_table.proofs.leaf.Leaf.new.Given as goal

abbrev pub invariant-loop-index : goal.invariant-loop-index
invariant-loop-index l = (length l.pages.items ≡ l._index) × ((k : ℕ) → get_or (map shared_list l.pages.items) k [] ≡ [])
