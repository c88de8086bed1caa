use Rattle.std.proofs.Common.{◌≡◌, ℕ, None, length, get_or}
use Rattle.page_table.proofs.branch.Branch.new.Given as goal

abbrev pub invariant-loop-index : goal.invariant-loop-index
invariant-loop-index l = (length l.leaves.items ≡ l._index) × ((k : ℕ) → get_or l.leaves.items k None ≡ None)
