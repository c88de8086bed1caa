use Rattle.std.proofs.Common.{take}
use Rattle.prog_gen.specs.File.{Adds}
use Rattle.prog_gen.proofs.code.push_all.Given as goal

abbrev pub invariant-loop-instr : goal.invariant-loop-instr
invariant-loop-instr l = Adds (take l.instr-index l.instrs) l.initial.bytes.items l.bytes.items
