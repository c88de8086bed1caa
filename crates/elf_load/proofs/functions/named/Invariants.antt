use Rattle.std.proofs.Common.{◌≡◌, map, take}
use Rattle.std.specs.Arc.{arc_value}
use Rattle.elf_load.specs.Symbols.{function_named}
use Rattle.elf_load.proofs.functions.named.Given as goal

-- the functions so far
abbrev pub invariant-loop-start : goal.invariant-loop-start
invariant-loop-start l = l.functions.items ≡ map (function_named (arc_value l.table).items) (take l.start-index l.entries)
