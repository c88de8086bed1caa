use Rattle.std.proofs.Common.{◌≡◌, ◌+◌, ◌*◌}
use Rattle.ins_views.specs.Blocks.{block_length}
use Rattle.tool_law.proofs.Offering.{IsOfferedFrom}
use Rattle.tool_law.proofs.plan.offer_code.Given as goal

abbrev pub invariant-loop-k : goal.invariant-loop-k
invariant-loop-k g l = record {
  behind : l.len ≡ block_length l.views (l.first + 4 * l.k);
  offered : IsOfferedFrom (g.T.Tool.calls_of l.tool) l.views l.first l.words l.k l.fn.plan l.plan;
}
