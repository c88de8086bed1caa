use Rattle.std.proofs.Common.{arith}
use Rattle.elf_load.proofs.Names.{ends_before}
use Rattle.elf_load.proofs.symbol_checks.names_end.Goals as goal

pub returns : goal.returns
returns c = λ at. ends_before c.args.names.now c.loop-at.end at (record { within = omega arith; past = λ j le lt. c.loop-at.invariant.past j le (omega arith); last = c.loop-at.invariant.last })
