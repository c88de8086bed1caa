use Rattle.std.proofs.Common.{◌≡◌, ◌<◌, ◌^◌, ◌==◌, ℕ, drop}
use Rattle.std.specs.List.{position_from}
use Rattle.insert_points.specs.Plan.{called_at}
use Rattle.tool_law.specs.Planning.{code_called, routine_calls}
use Rattle.tool_law.proofs.plan.offer_routines.Given as goal

abbrev pub invariant-loop-k : goal.invariant-loop-k
invariant-loop-k g l =
    (a : ℕ) → a < 2 ^ 32
    → called_at l.plan a ≡ record (code_called (g.T.Tool.calls_of l.tool) l.views a) { routine = routine_calls (g.T.Tool.calls_of l.tool) a (position_from (λ f. f.start == a) l.k (drop l.k l.views.routines)) }
