use Rattle.std.proofs.Common.{rules, ◌≡◌, [], length, ap, arith}
use Rattle.std.proofs.lemmas.Grind.{common_steps}
use Rattle.std.specs.Vec.Iter.{into_iter_items}
use Rattle.window_run.specs.Jobs.{IsResultOf}
use Rattle.sliced_run.proofs.Lists.{zip_length}
use Rattle.window_run.proofs.Merging.{halfway_end, halfway_start, halfway_step}
use Rattle.window_run.proofs.slices.put_pieces.Goals as goal

pub loop-result-init : goal.loop-result-init
loop-result-init g c =
    let stands = g.T.Tool.is_local c.args.tool.now in
    let is_value = g.T.Tool.is_value c.args.tool.now in
    let same = c.into_iter-result-iterator.ensures.into_iter_gives in record {
      can = tt;
      ends = tt;
      sound = search rules;
      next = grind (arith, common_steps);
      count = grind (arith, common_steps);
      halfway = λ done jobs e f room merged are z. halfway_start stands is_value c.args.plan.now done jobs e f _ _ _ merged are (rw same.0 z);
    }

pub loop-result-preserved : goal.loop-result-preserved
loop-result-preserved g c =
    let stands = g.T.Tool.is_local c.args.tool.now in
    let is_value = g.T.Tool.is_value c.args.tool.now in
    record {
      can = tt;
      ends = tt;
      sound = search rules;
      next = grind (arith, common_steps);
      count = grind (arith, common_steps);
      halfway = λ done jobs e f room merged are z.
          let h = rw (c.in-Some.ensures.steps.0, c.in_ok-piece.was) at (c.loop-result.invariant.halfway done jobs e f room merged are z) in
          halfway_step stands is_value c.args.plan.now _ f _ _ _ _ _ _ room c.in_ok-put.ensures.value c.in_ok-put.ensures.lines h;
    }

pub returns-clause-merges : goal.returns-clause-merges
returns-clause-merges g c = λ jobs f room z.
    let stands = g.T.Tool.is_local c.args.tool.now in
    let is_value = g.T.Tool.is_value c.args.tool.now in
    let none : into_iter_items c.loop-result.result-iterator ≡ [] = grind (arith, common_steps) in
    let size = zip_length (IsResultOf stands c.args.plan.now) jobs c.args.results.items z in
    record {
      count = omega (arith, c.loop-result.invariant.count, ap length none, size);
      merged = λ done e are merged. halfway_end stands is_value c.args.plan.now _ f _ _ (into_iter_items c.loop-result.result-iterator) none (c.loop-result.invariant.halfway done jobs e f room merged are z);
    }
