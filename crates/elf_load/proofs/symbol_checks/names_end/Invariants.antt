use Rattle.elf_load.proofs.Names.{EndsAt}
use Rattle.elf_load.proofs.symbol_checks.names_end.Given as goal

-- the last zero byte so far
abbrev pub invariant-loop-at : goal.invariant-loop-at
invariant-loop-at l = EndsAt l.names l.at l.end
