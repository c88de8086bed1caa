use Rattle.std.proofs.Common.{◌≡◌, ◌+◌, ◌*◌, ◌-◌, ◌<◌, ◌^◌, arith}
use Rattle.tool_law.proofs.Offering.{code_end, offered_step}
use Rattle.tool_law.proofs.plan.offer_code.Goals as goal

pub loop-k-preserved : goal.loop-k-preserved
loop-k-preserved g c =
    let k = c.loop-k.k in
    let back : k ≡ (k - 1) + 1 = omega arith in
    let end = code_end c.args.code.now c.requires.code in
    let room : c.first-first.result + 4 * c.words-words.result < 2 ^ 32 = omega (arith, c.first-first.ensures, c.words-words.ensures) in
    record {
      behind = c.in_ok-len.ensures.len;
      offered = offered_step (g.T.Tool.calls_of c.args.tool.now) c.args.views.now _ _ (k - 1) _ _ _ room (rw back at c.loop-k.invariant.offered) c.in_ok-len.ensures.given;
    }
