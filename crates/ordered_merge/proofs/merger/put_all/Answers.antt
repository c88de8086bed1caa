use Rattle.std.proofs.Common.{rules, ◌≡◌, [], arith}
use Rattle.std.proofs.lemmas.Grind.{common_steps}
use Rattle.std.proofs.lemmas.Result.{IfOk-at_ok}
use Rattle.std.specs.Vec.Iter.{into_iter_items}
use Rattle.ordered_merge.specs.Merged.{IsPieceOf}
use Rattle.ordered_merge.proofs.Halfway.{halfway_start, halfway_step, halfway_end}
use Rattle.ordered_merge.proofs.merger.put_all.Goals as goal

pub loop-result-init : goal.loop-result-init
loop-result-init g c =
    let same = c.into_iter-result-iterator.ensures.into_iter_gives in record {
      can = tt;
      ends = tt;
      sound = search rules;
      next = grind (arith, common_steps);
      lines = grind (arith, common_steps);
      value = λ xs xss room v z. halfway_start (IsPieceOf (g.T.Tool.is_local c.args.tool.now)) (g.T.Tool.is_local c.args.tool.now) _ xs xss _ _ v (rw same.0 z);
    }

pub loop-result-preserved : goal.loop-result-preserved
loop-result-preserved g c = record {
  can = tt;
  ends = tt;
  sound = search rules;
  next = grind (arith, common_steps);
  lines = grind (arith, common_steps);
  value = λ xs xss room v z.
      let h = rw c.in-Some.ensures.steps.0 at (c.loop-result.invariant.value xs xss room v z) in
      halfway_step (IsPieceOf (g.T.Tool.is_local c.args.tool.now)) _ _ _ _ _ _ _ _ room (λ ys z. IfOk-at_ok (λ p. g.T.Tool.is_local c.args.tool.now ys p.local) c.in_ok-piece.was z) c.in_ok-put.ensures.value h;
}

pub returns-clause-value : goal.returns-clause-value
returns-clause-value g c = λ xs xss room v z.
    let none : into_iter_items c.loop-result.result-iterator ≡ [] = grind (arith, common_steps) in
    let h = rw none at (c.loop-result.invariant.value xs xss room v z) in
    halfway_end (IsPieceOf (g.T.Tool.is_local c.args.tool.now)) _ _ _ _ h
