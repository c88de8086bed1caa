use Rattle.std.proofs.Common.{◌-◌}
use Rattle.elf_load.specs.Limits.{user_end}
use Rattle.ins_views.proofs.Blocks.{IsWalked}
use Rattle.ins_views.proofs.views.Views.block_length.Given as goal

abbrev pub invariant-loop-i : goal.invariant-loop-i
invariant-loop-i l = IsWalked l.self l.head l.pc l.len

abbrev pub decreases-loop-i : goal.decreases-loop-i
decreases-loop-i l = user_end - l.pc
