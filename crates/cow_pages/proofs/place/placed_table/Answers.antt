use Rattle.std.proofs.Common.{◌≡◌, ◌+◌, ◌-◌, ◌/◌, ◌%◌, ◌∙◌, ap, get_or, length, arith}
use Rattle.std.specs.Prelude.{min}
use Rattle.std.proofs.lemmas.Grind.{common_steps}
use Rattle.cow_pages.proofs.Placed.{placed-none, next-page, part-bytes, placed-next}
use Rattle.cow_pages.proofs.Tables.{table_byte-set}
use Rattle.std.specs.Arc.{arc_value}
use Rattle.cow_pages.proofs.place.placed_table.Goals as goal

pub loop-done-init : goal.loop-done-init
loop-done-init c = record {
  inside = omega arith;
  start = λ some _. absurd (omega arith);
  bytes = placed-none c.args.table.now c.in_ok-placed.placed c.args.source.now c.args.at c.in_ok-placed.ensures;
}

pub loop-done-preserved : goal.loop-done-preserved
loop-done-preserved c =
    let part : c.min-part.result ≡ min (length c.args.source.now - c.loop-done.done) (4096 - (c.args.at + c.loop-done.done) % 4096) = grind (arith, common_steps) in
    let next = next-page c.args.at c.loop-done.done c.min-part.result (length c.args.source.now) c.loop-done-test.true part (λ some. c.loop-done.invariant.start some c.loop-done-test.true) in
    record {
      inside = omega arith;
      start = λ _ more. omega arith;
      bytes = placed-next c.args.table.now c.loop-done.placed c.set.new.self c.args.source.now (arc_value c.in_ok-new.field-0) c.args.at c.loop-done.done c.min-part.result c.loop-done.invariant.bytes (record {
        some = omega arith;
        within = omega arith;
        start = λ some. c.loop-done.invariant.start some c.loop-done-test.true;
        page_is = next.0;
        count = next.1;
        bytes_are = λ i. ap (λ l. get_or l i 0) c.in_ok-new.ensures.ok ∙ c.with-page.ensures i ∙ part-bytes c.args.source.now c.loop-done.done c.min-part.result ((c.args.at + c.loop-done.done) % 4096) i (omega arith);
        new_is = table_byte-set c.loop-done.placed c.set.new.self ((c.args.at + c.loop-done.done) / 4096) _ c.in_ok-set.ensures;
      });
    }
