use Rattle.std.proofs.Common.{◌≡◌, ℕ, None, length, get_or}
use Rattle.page_table.proofs.table.PageTable.new.Given as goal

abbrev pub invariant-loop-index : goal.invariant-loop-index
invariant-loop-index l = (length l.branches.items ≡ l._index) × ((k : ℕ) → get_or l.branches.items k None ≡ None)
