use Rattle.std.proofs.Common.{arith}
use Rattle.cow_pages.proofs.Laid.{Laying, laid-more, laid-same}
use Rattle.cow_pages.proofs.overlay.lay_frame.Goals as goal

laying : (c : goal.After-replace) → Laying c.args.slots.now c.replace.new.self c.args.pool.now c.take_filled.new.pool c.args.table.now c.args.page c.in-Some.frame
laying c = record {
  in_slots = omega (arith, c.requires.page, c.requires.laid.len);
  none = c.requires.none;
  slots_are = c.replace.ensures.new;
  was_free = c.in-Some.ensures.spare;
  given = c.in-Some.ensures.given;
  bytes = c.in-Some.ensures.bytes;
  free = c.in-Some.ensures.free;
  count = c.take_filled.ensures.count;
}

pub returns-in-Some-clause-laid : goal.returns-in-Some-clause-laid
returns-in-Some-clause-laid c = laid-more _ _ _ _ c.args.table.now c.args.page c.in-Some.frame c.requires.laid (laying c)

pub returns-in-Some-clause-same : goal.returns-in-Some-clause-same
returns-in-Some-clause-same c = laid-same _ _ _ _ c.args.table.now c.args.page c.in-Some.frame c.requires.laid (laying c)
