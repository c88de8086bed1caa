use Rattle.std.proofs.Common.{◌∙◌, ap, get_or, sym}
use Rattle.cow_pages.proofs.Laid.{table_byte-at}
use Rattle.cow_pages.proofs.overlay.table_page.Goals as goal

pub returns-in-Some : goal.returns-in-Some
returns-in-Some c = (c.as_slice.ensures.len, λ i lt. ap (λ l. get_or l i 0) (c.as_slice.ensures.bytes ∙ sym c.in-Some.ensures) ∙ sym (table_byte-at c.args.table.now c.args.page i lt))

pub returns-in-None : goal.returns-in-None
returns-in-None c = λ i lt. table_byte-at c.args.table.now c.args.page i lt ∙ ap (λ l. get_or l i 0) c.in-None.ensures
