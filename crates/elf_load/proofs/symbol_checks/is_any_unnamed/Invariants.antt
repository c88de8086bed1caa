use Rattle.std.proofs.Common.{◌≡◌, ◌<◌, ℕ, false}
use Rattle.elf_load.specs.Symbols.{is_unnamed, nth_symbol}
use Rattle.elf_load.proofs.symbol_checks.is_any_unnamed.Given as goal

-- each function so far has a name
abbrev pub invariant-loop-k : goal.invariant-loop-k
invariant-loop-k l = (j : ℕ) → j < l.k → is_unnamed l.names (nth_symbol l.file l.table j) ≡ false
