use Rattle.std.proofs.Common.{◌≡◌, ℕ, ◌<◌, length, get_or}
use Rattle.slot_table.proofs.table.clear_entries.Given as goal

abbrev pub invariant-loop-i : goal.invariant-loop-i
invariant-loop-i l = record {
  len : length l.directory.items ≡ length l.initial.directory.items;
  zero : (c : ℕ) → c < l.i → get_or l.directory.items c 0 ≡ 0;
}
