use Rattle.std.proofs.Common.{◌≡◌, ◌<◌, ap, arith, get_or, length, subst, sym, take}
use Rattle.std.proofs.Math.Seq.{take-length}
use Rattle.std.proofs.lemmas.List.Elements.{All-more}
use Rattle.ins_views.specs.Views.{CodeFields, IsCode}
use Rattle.tool_law.proofs.Offering.{IsCovered, covered_all, covered_kept, covered_new}
use Rattle.tool_law.proofs.plan.offer_codes.Goals as goal

pub loop-code-preserved : goal.loop-code-preserved
loop-code-preserved g c =
    let calls = g.T.Tool.calls_of c.args.tool.now in
    let v = c.args.views.now in
    let i = c.loop-code.code-index in
    let code = c.code-item.result in
    let new = c.offer_code.new.plan in
    let done = c.in_ok-offer_code.ensures in
    let within : i < length v.code = omega (arith, ap length c.code-code-items.ensures.items, c.loop-code-test.true) in
    let there : code ≡ get_or v.code i code = rw c.code-code-items.ensures.items at c.code-item.is in
    let covered = covered_new calls v code c.loop-code.plan new (subst (λ (x : CodeFields). IsCode x) (sym there) (c.code-code-items.ensures.sound.code i code within)) c.loop-code.invariant.opened done.given in
    record {
      opened = λ a fits. done.opened a fits (c.loop-code.invariant.opened a fits);
      covered = All-more (IsCovered calls v new) v.code i code within
          (λ k d small. covered_kept calls v c.loop-code.plan new done.keeps (get_or (take i v.code) k d) (c.loop-code.invariant.covered k d small))
          (subst (λ (x : CodeFields). IsCovered calls v new x) there covered);
    }

pub returns : goal.returns
returns g c = λ a fits.
    let v = c.args.views.now in
    let last : c.loop-code.code-index ≡ length v.code = omega (arith, ap length c.code-code-items.ensures.items, c.loop-code-test.false, c.loop-code.auto.code-index-end) in
    covered_all (g.T.Tool.calls_of c.args.tool.now) v c.loop-code.plan a (rw (last, take-length v.code) at c.loop-code.invariant.covered) (c.loop-code.invariant.opened a fits)
