use Rattle.std.proofs.Common.{◌≡◌, ◌+◌, ◌++◌, ◌≤◌, length, map, take}
use Rattle.insert_points.specs.Calls.{calls_at}
use Rattle.insert_points.specs.Planned.{plan_call}
use Rattle.insert_points.proofs.plan.push_at.Given as goal

abbrev pub invariant-loop-call : goal.invariant-loop-call
invariant-loop-call l = record {
  added : l.list.items ≡ l.fn.list.items ++ map (plan_call l.op) (calls_at l.point (take l.call-index l.calls));
  few : length l.list.items ≤ length l.fn.list.items + l.call-index;
}
