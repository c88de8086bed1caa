use Rattle.std.proofs.Common.{◌≡◌, ◌<◌, ◌^◌, ◌++◌, map, All, take}
use Rattle.tool_calls.specs.Slice.{placed}
use Rattle.tool_calls.proofs.slice.CallTotals.add_calls.Given as goal

abbrev pub invariant-loop-call : goal.invariant-loop-call
invariant-loop-call l = record {
  depth : l.self.depth ≡ l.fn.self.depth;
  calls : l.fn.self.depth < 2 ^ 63 → All (λ r. r.above < 2 ^ 63) l.calls
      → l.self.calls.items ≡ l.fn.self.calls.items ++ map (placed l.fn.self.depth) (take l.call-index l.calls);
}
