use Rattle.std.proofs.Common.{arith}
use Rattle.cow_pages.proofs.Tables.{frozen-none, frozen-next, frozen-all, named-none, named-next, named-all}
use Rattle.cow_pages.proofs.freeze.frozen.Goals as goal

pub loop-page-init : goal.loop-page-init
loop-page-init c = record {
  end = c.next-page.ensures.range.1;
  some = c.next-page.ensures.changed;
  below = frozen-none c.args.slots.now c.args.pool.now.bytes c.args.table.now c.in_ok-frozen.frozen c.next-page.result c.in_ok-frozen.ensures c.next-page.ensures.none_before;
  named = named-none c.args.slots.now c.new-changed.result.items c.next-page.result c.new-changed.ensures.items c.next-page.ensures.none_before;
}

pub loop-page-preserved : goal.loop-page-preserved
loop-page-preserved c = record {
  end = c.next-page-in-loop-page.ensures.range.1;
  some = c.next-page-in-loop-page.ensures.changed;
  below = frozen-next c.args.slots.now c.args.pool.now.bytes c.args.table.now c.loop-page.frozen c.freeze_page.new.table c.loop-page.page c.next-page-in-loop-page.result c.loop-page.invariant.below c.next-page-in-loop-page.ensures.range.0 c.next-page-in-loop-page.ensures.none_before c.in_ok-freeze_page.ensures;
  named = named-next c.args.slots.now c.loop-page.changed.items c.push.new.self.items c.loop-page.page c.next-page-in-loop-page.result c.in_ok-push.ensures.items c.loop-page.invariant.named (c.loop-page.invariant.some c.loop-page-test.true) c.next-page-in-loop-page.ensures.range.0 c.next-page-in-loop-page.ensures.none_before;
}

pub returns-clause-table : goal.returns-clause-table
returns-clause-table c = frozen-all c.args.slots.now c.args.pool.now.bytes c.args.table.now c.loop-page.frozen c.loop-page.page c.loop-page.invariant.below (omega (arith, c.loop-page-test.false))

pub returns-clause-changed : goal.returns-clause-changed
returns-clause-changed c = named-all c.args.slots.now c.loop-page.changed.items c.loop-page.page c.requires.len c.loop-page.invariant.named (omega (arith, c.loop-page-test.false))
