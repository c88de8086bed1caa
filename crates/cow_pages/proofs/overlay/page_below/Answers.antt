use Rattle.std.proofs.Common.{◌+◌, ◌*◌, ◌∙◌, ap, sym}
use Rattle.slot_table.specs.Slots.{is_framed, slot_at}
use Rattle.cow_pages.specs.Laid.{laid_byte, table_byte}
use Rattle.cow_pages.proofs.Readings.{dropped-byte, reading}
use Rattle.cow_pages.proofs.overlay.page_below.Goals as goal

pub returns-in-Unchanged : goal.returns-in-Unchanged
returns-in-Unchanged c = λ frames. reading c.table_page.result (λ i. table_byte c.args.table.now (4096 * c.args.page + i)) (λ i. laid_byte (slot_at c.args.slots.now c.args.page) frames c.args.table.now (4096 * c.args.page + i))
    (λ i lt. ap (λ s. laid_byte s frames c.args.table.now (4096 * c.args.page + i)) (sym c.get.ensures ∙ c.in-Unchanged.is)) c.table_page.ensures

pub returns-in-Placed : goal.returns-in-Placed
returns-in-Placed c = λ frames. reading c.table_page-in-Placed.result (λ i. table_byte c.args.table.now (4096 * c.args.page + i)) (λ i. laid_byte (slot_at c.args.slots.now c.args.page) frames c.args.table.now (4096 * c.args.page + i))
    (λ i lt. ap (λ s. laid_byte s frames c.args.table.now (4096 * c.args.page + i)) (sym c.get.ensures ∙ c.in-Placed.is)) c.table_page-in-Placed.ensures

pub returns-in_default : goal.returns-in_default
returns-in_default c = λ frames i lt.
    ap (λ s. laid_byte s frames c.args.table.now (4096 * c.args.page + i)) (sym c.get.ensures)
    ∙ dropped-byte c.get.result.now frames c.args.table.now (4096 * c.args.page + i) c.in_default.not-Unchanged c.in_default.not-Placed (ap is_framed c.get.ensures ∙ c.requires.none)
