use Rattle.std.proofs.Common.{◌≡◌, ◌≤◌, ◌-◌, ◌/◌}
use Rattle.elf_load.proofs.Entries.{entries_from}
use Rattle.elf_load.proofs.functions.entries.Given as goal

-- the entries of the symbols from here on
abbrev pub invariant-loop-k : goal.invariant-loop-k
invariant-loop-k l = record {
  within : l.k ≤ l.table.size / 16;
  same : l.entries.entries ≡ entries_from l.file l.table l.headers l.k (l.table.size / 16 - l.k);
}

abbrev pub decreases-loop-k : goal.decreases-loop-k
decreases-loop-k l = l.k
