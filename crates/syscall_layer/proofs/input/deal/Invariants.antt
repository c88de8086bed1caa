use Rattle.std.proofs.Common.{◌-◌, length}
use Rattle.syscall_layer.proofs.Dealt.{IsDealt}
use Rattle.syscall_layer.proofs.input.deal.Given as goal

abbrev pub invariant-loop-used : goal.invariant-loop-used
invariant-loop-used l = IsDealt l.initial.writes.items l.writes.items l.bytes l.used l.done

abbrev pub decreases-loop-used : goal.decreases-loop-used
decreases-loop-used l = length l.initial.writes.items - l.used
