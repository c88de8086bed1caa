use Rattle.std.proofs.Common.{◌≡◌, ◌∙◌, ap, sym, arith, length}
use Rattle.cache_tool.specs.Cache.{Cache}
use Rattle.cache_tool.specs.Shown.{cache_of}
use Rattle.cache_tool.proofs.Steps.{Cache-eq}
use Rattle.cache_tool.proofs.Merging.{merged, merged-few, simulated-sets}
use Rattle.cache_tool.proofs.direct.DirectCacheTool.merge.Goals as goal

pub returns : goal.returns
returns c = λ xs ys room is r.
    let sets = c.args.self.now.sets in
    let line = c.args.self.now.line in
    let was : Cache = cache_of c.args.shared.now in
    let same : length c.args.shared.now.kept.items ≡ length c.args.local.touched.items = simulated-sets sets line xs ys was is ∙ sym r.sized in
    let read : c.deref.result.now ≡ c.args.local.touched.items = c.deref.ensures.value in
    let sized : length c.args.shared.now.kept.items ≡ length c.deref.result.now = same ∙ ap length (sym read) in
    let ks = rw read at (c.reconcile-first.ensures.kept sized) in
    let hs = rw read at (c.reconcile-first.ensures.hits sized) in
    let ms = rw read at (c.reconcile-first.ensures.misses sized) in
    let top = merged-few sets line xs ys was is _ r in
    Cache-eq _ _ _ _ _ _ ks (omega (arith, hs, ms, top)) (omega (arith, hs, ms, top)) ∙ merged sets line xs ys was is _ r
