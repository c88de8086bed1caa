use Rattle.std.proofs.Common.{◌∙◌, ap, refl, sym, arith}
use Rattle.std.specs.Arc.{arc_value}
use Rattle.slot_table.specs.Slots.{is_framed, is_written}
use Rattle.cow_pages.specs.Laid.{table_byte}
use Rattle.cow_pages.proofs.Fresh.{fresh-laid, fresh-contents}
use Rattle.cow_pages.proofs.SlotMarks.{fresh-count}
use Rattle.cow_pages.proofs.pages.Pages.over.Goals as goal

pub invariant_of-result : goal.invariant_of-result
invariant_of-result c = record {
  laid = fresh-laid c.in_ok-new.field-0 c.in_ok-new-2.field-0 c.in_ok-new.ensures (c.in_ok-new-2.ensures.free ∙ sym c.in_ok-new-2.ensures.count);
  since = λ a _ _. ap (λ t. table_byte t a) (c.in_ok-try_clone.ensures ∙ sym c.in_ok-try_clone-2.ensures);
  written_is = sym (fresh-count is_written c.in_ok-new.field-0 refl c.in_ok-new.ensures);
}

pub returns-clause-pages : goal.returns-clause-pages
returns-clause-pages c = fresh-contents c.in_ok-new.field-0 c.in_ok-new-2.field-0.bytes (arc_value c.in_ok-try_clone.field-0) (arc_value c.in_ok-try_clone-2.field-0) (arc_value c.args.table.now) _ c.in_ok-new-2.field-0.free c.in_ok-new-2.field-0.count c.args.frames
    c.in_ok-new.ensures c.in_ok-try_clone.ensures c.in_ok-try_clone-2.ensures refl c.in_ok-new-2.ensures.free c.in_ok-new-2.ensures.count

pub returns-clause-adds_up : goal.returns-clause-adds_up
returns-clause-adds_up c = omega (arith, fresh-count is_framed c.in_ok-new.field-0 refl c.in_ok-new.ensures, c.in_ok-new-2.ensures.free, c.in_ok-new-2.ensures.count)
