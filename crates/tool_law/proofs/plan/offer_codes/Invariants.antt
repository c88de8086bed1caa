use Rattle.std.proofs.Common.{◌<◌, ◌^◌, ℕ, take}
use Rattle.std.specs.Prelude.{All}
use Rattle.insert_points.specs.Plan.{called_at}
use Rattle.tool_law.specs.Planning.{IsOpen}
use Rattle.tool_law.proofs.Offering.{IsCovered}
use Rattle.tool_law.proofs.plan.offer_codes.Given as goal

abbrev pub invariant-loop-code : goal.invariant-loop-code
invariant-loop-code g l = record {
  opened : (a : ℕ) → a < 2 ^ 32 → IsOpen (g.T.Tool.calls_of l.tool) l.views a (called_at l.plan a);
  covered : All (IsCovered (g.T.Tool.calls_of l.tool) l.views l.plan) (take l.code-index l.views.code);
}
