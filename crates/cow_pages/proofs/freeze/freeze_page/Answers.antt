use Rattle.std.proofs.Common.{◌/◌, ◌%◌, ◌∙◌, ap, arith, sym, get_or, []}
use Rattle.slot_table.specs.declared.slot.Slot.TheVariants.{Unchanged, Placed, Dropped, Framed}
use Rattle.cow_pages.specs.Laid.{byte_in, table_byte}
use Rattle.cow_pages.proofs.Laid.{byte-at}
use Rattle.cow_pages.proofs.Tables.{table_byte-set, where_it_is, where_it_stays}
use Rattle.cow_pages.proofs.freeze.freeze_page.Goals as goal

pub returns-in_ok-set-in-Framed : goal.returns-in_ok-set-in-Framed
returns-in_ok-set-in-Framed c = λ a.
    table_byte-set c.args.table.now c.set.new.self c.args.page _ c.in_ok-set-in-Framed.ensures a
    ∙ where_it_is (a / 4096) c.args.page _ (byte_in c.args.slots.now c.args.pool.now.bytes c.args.table.now a) (table_byte c.args.table.now a)
    (λ e. ap (λ l. get_or l (a % 4096) 0) c.in_ok-copy-in-Framed.ensures.ok
    ∙ ap (λ l. get_or l (a % 4096) 0) c.of.ensures
    ∙ c.bytes.ensures.bytes (a % 4096) (omega arith)
    ∙ sym (byte-at c.args.slots.now c.args.pool.now.bytes c.args.table.now c.args.page a (Framed c.in-Framed.frame) (sym c.get.ensures ∙ c.in-Framed.is) e))

pub returns-in_ok-set-in-Dropped : goal.returns-in_ok-set-in-Dropped
returns-in_ok-set-in-Dropped c = λ a.
    table_byte-set c.args.table.now c.set-in-Dropped.new.self c.args.page [] c.in_ok-set-in-Dropped.ensures a
    ∙ where_it_is (a / 4096) c.args.page (get_or [] (a % 4096) 0) (byte_in c.args.slots.now c.args.pool.now.bytes c.args.table.now a) (table_byte c.args.table.now a)
    (λ e. sym (byte-at c.args.slots.now c.args.pool.now.bytes c.args.table.now c.args.page a (Dropped _) (sym c.get.ensures ∙ c.in-Dropped.is) e))

pub returns-in-Unchanged : goal.returns-in-Unchanged
returns-in-Unchanged c = λ a. where_it_stays (a / 4096) c.args.page _ _ (λ e. sym (byte-at c.args.slots.now c.args.pool.now.bytes c.args.table.now c.args.page a Unchanged (sym c.get.ensures ∙ c.in-Unchanged.is) e))

pub returns-in-Placed : goal.returns-in-Placed
returns-in-Placed c = λ a. where_it_stays (a / 4096) c.args.page _ _ (λ e. sym (byte-at c.args.slots.now c.args.pool.now.bytes c.args.table.now c.args.page a Placed (sym c.get.ensures ∙ c.in-Placed.is) e))
