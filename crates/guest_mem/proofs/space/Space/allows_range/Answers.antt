use Rattle.std.proofs.Common.{inl, inr, refl, sym, ◌∙◌, arith}
use Rattle.std.proofs.lemmas.Bool.{cases_lt}
use Rattle.guest_mem.proofs.Permitted.{range_from, range_past, range_denied}
use Rattle.guest_mem.proofs.space.Space.allows_range.Goals as goal

pub returns-then-end : goal.returns-then-end
returns-then-end c = sym (range_past c.args.access _ c.args.at c.args.len (omega arith))

pub returns-then-not-allows_page : goal.returns-then-not-allows_page
returns-then-not-allows_page c =
    let denied = sym (c.allows_page.ensures.permitted c.loop-from.from refl) ∙ c.if-not-allows_page.true in
    sym (range_denied c.args.access _ c.args.at c.args.len c.loop-from.from denied c.loop-from.invariant.start c.loop-from-test.true (omega arith))

pub loop-from-preserved : goal.loop-from-preserved
loop-from-preserved c = record {
  start = omega arith;
  bound = omega arith;
  permitted = λ q ge lt. elim (cases_lt q c.loop-from.from) [
    | inl before ↦ c.loop-from.invariant.permitted q ge before
    | inr there ↦ sym (c.allows_page.ensures.permitted q (omega arith)) ∙ c.if-not-allows_page.false
  ];
}

pub returns : goal.returns
returns c = sym (range_from c.args.access _ c.args.at c.args.len c.loop-from.from c.loop-from.invariant.permitted (omega arith) (omega arith))
