use Rattle.std.proofs.Common.{◌≡◌, ◌++◌, take}
use Rattle.tool_calls.specs.Text.{call_lines}
use Rattle.tool_calls.proofs.text.push_calls.Given as goal

abbrev pub invariant-loop-call : goal.invariant-loop-call
invariant-loop-call l = l.out.items ≡ l.fn.out.items ++ call_lines l.views (take l.call-index l.calls)
