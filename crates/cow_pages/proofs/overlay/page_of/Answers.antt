use Rattle.std.proofs.Common.{◌+◌, ◌*◌, ◌∙◌, sym}
use Rattle.slot_table.specs.declared.slot.Slot.TheVariants.{Unchanged, Placed, Dropped, Framed}
use Rattle.cow_pages.specs.Laid.{byte_in, table_byte}
use Rattle.cow_pages.proofs.Laid.{byte_of_page, framed-byte}
use Rattle.cow_pages.proofs.Readings.{reading}
use Rattle.cow_pages.proofs.overlay.page_of.Goals as goal

pub returns-in-Framed : goal.returns-in-Framed
returns-in-Framed c = (
  c.bytes.ensures.len,
  λ i lt. c.bytes.ensures.bytes i lt
      ∙ sym (byte_of_page c.args.slots.now c.args.pool.now.bytes c.args.table.now c.args.page i (Framed c.in-Framed.frame) (sym c.get.ensures ∙ c.in-Framed.is) lt
      ∙ framed-byte c.args.pool.now.bytes c.args.table.now c.args.page i c.in-Framed.frame lt),
)

pub returns-in-Unchanged : goal.returns-in-Unchanged
returns-in-Unchanged c = reading c.table_page.result (λ i. table_byte c.args.table.now (4096 * c.args.page + i)) (λ i. byte_in c.args.slots.now c.args.pool.now.bytes c.args.table.now (4096 * c.args.page + i))
    (λ i lt. byte_of_page c.args.slots.now c.args.pool.now.bytes c.args.table.now c.args.page i Unchanged (sym c.get.ensures ∙ c.in-Unchanged.is) lt) c.table_page.ensures

pub returns-in-Placed : goal.returns-in-Placed
returns-in-Placed c = reading c.table_page-in-Placed.result (λ i. table_byte c.args.table.now (4096 * c.args.page + i)) (λ i. byte_in c.args.slots.now c.args.pool.now.bytes c.args.table.now (4096 * c.args.page + i))
    (λ i lt. byte_of_page c.args.slots.now c.args.pool.now.bytes c.args.table.now c.args.page i Placed (sym c.get.ensures ∙ c.in-Placed.is) lt) c.table_page-in-Placed.ensures

pub returns-in-Dropped : goal.returns-in-Dropped
returns-in-Dropped c = λ i lt. byte_of_page c.args.slots.now c.args.pool.now.bytes c.args.table.now c.args.page i (Dropped _) (sym c.get.ensures ∙ c.in-Dropped.is) lt
