use Rattle.std.proofs.Common.{take}
use Rattle.tool_step.specs.Steps.{TakesEvents, events_by}
use Rattle.tool_step.proofs.give.give_each.Given as goal

abbrev pub invariant-loop-call : goal.invariant-loop-call
invariant-loop-call g l = TakesEvents (g.T.Tool.is_local l.tool) (events_by l.operands l.registers (take l.call-index l.calls)) l.fn.local l.local
