use Rattle.std.proofs.Common.{◌≡◌, ◌<◌, ◌^◌, ◌∙◌, arith, ap, sym, subst, All, List}
use Rattle.tool_calls.specs.declared.slice.Relative.{Relative}
use Rattle.tool_calls.specs.Shown.{trace_of}
use Rattle.tool_calls.specs.Slice.{depth_at}
use Rattle.tool_calls.specs.Trace.{Trace}
use Rattle.tool_calls.proofs.Traces.{Trace-eq, depth-traced, merged}
use Rattle.tool_calls.proofs.call_trace.CallTraceTool.merge.Goals as goal

pub returns : goal.returns
returns c = λ xs ys room is r.
    let was : Trace = trace_of c.args.shared.now in
    let shallow = depth-traced xs ys was is in
    let top = r.few_above in
    let same = c.in_ok-add_calls.ensures.depth in
    let read : c.deref.result.now ≡ c.args.local.calls.items = c.deref.ensures.value in
    let few : All (λ r. r.above < 2 ^ 63) c.args.local.calls.items = λ k d h. let low = r.calls_few_above k d h in omega (arith, low) in
    let few' = subst (λ (calls : List Relative). All (λ r. r.above < 2 ^ 63) calls) (sym read) few in
    let calls = rw read at (c.in_ok-add_calls.ensures.calls (omega (arith, shallow)) few') in
    Trace-eq _ _ _ _ (c.go.ensures.calls ∙ calls) (c.go.ensures.depth (omega (arith, shallow, top, same)) ∙ ap (λ d. depth_at d c.args.local.below c.args.local.above) same)
    ∙ merged xs ys was is _ _ _ r
