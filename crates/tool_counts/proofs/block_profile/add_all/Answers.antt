use Rattle.std.proofs.Common.{rules}
use Rattle.tool_counts.proofs.Tallies.{adding_first, adding_step, adding_last, adding_fits, IsDistinct-tail}
use Rattle.tool_counts.proofs.block_profile.add_all.Goals as goal

pub loop-head-init : goal.loop-head-init
loop-head-init c = record {
  can = tt;
  ends = tt;
  distinct = search rules;
  adding = λ t e fits. (t, rw (c.into_iter-head-iterator.ensures.into_iter_gives, c.iter-head-items.ensures.rest) (adding_first t _ _ e));
}

pub loop-head-preserved : goal.loop-head-preserved
loop-head-preserved c =
    let distinct = rw c.in-Some.ensures.steps at c.loop-head.invariant.distinct in record {
      can = tt;
      ends = tt;
      distinct = IsDistinct-tail (c.in-Some.head.now, c.in-Some.n.now) _ distinct;
      adding = λ t e fits.
          let now = c.loop-head.invariant.adding t e fits in
          let h = rw c.in-Some.ensures.steps at now.1 in
          (_, adding_step t now.0 _ _ _ _ _ _ distinct (c.in_ok-add_at.ensures now.0 h.shown (adding_fits _ _ _ _ _ _ _ _ fits h)) h);
    }

pub returns : goal.returns
returns c = λ t e fits.
    let now = c.loop-head.invariant.adding t e fits in
    let h = rw c.in-None.ensures.steps.0 at now.1 in
    (now.0, h.shown, adding_last _ _ _ _ h)
