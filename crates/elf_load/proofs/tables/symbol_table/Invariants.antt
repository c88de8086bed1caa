use Rattle.std.proofs.Common.{◌≡◌, ◌<◌, ℕ, false}
use Rattle.std.specs.Prelude.{◌==◌}
use Rattle.elf_load.specs.Header.{section}
use Rattle.elf_load.proofs.tables.symbol_table.Given as goal

-- no section before this one is a symbol table
abbrev pub invariant-loop-k : goal.invariant-loop-k
invariant-loop-k l = (j : ℕ) → j < l.k → ((section l.file j).kind == 2) ≡ false
