use Rattle.std.proofs.Common.{◌+◌, ◌*◌, ◌<◌, ◌^◌, ◌∙◌, ap, get_or, sym, arith}
use Rattle.std.specs.Arc.{arc_value}
use Rattle.page_table.specs.Table.{page_at}
use Rattle.cow_pages.specs.Laid.{table_byte}
use Rattle.cow_pages.proofs.Flat.{get_or-flat}
use Rattle.cow_pages.proofs.Laid.{table_byte-at}
use Rattle.cow_pages.proofs.shared.Shared.read.Goals as goal

pub returns-in-Some : goal.returns-in-Some
returns-in-Some c =
    let at : 4096 * c.args.page + c.args.at < 2 ^ 32 = omega arith in
    ap (λ l. get_or l c.args.at 0) (c.as_slice.ensures.bytes ∙ sym c.in-Some.ensures ∙ ap (λ t. page_at t c.args.page) c.deref.ensures)
    ∙ sym (table_byte-at (arc_value c.self.inside.table) c.args.page c.args.at c.requires.at)
    ∙ sym (get_or-flat (table_byte (arc_value c.self.inside.table)) (4096 * c.args.page + c.args.at) at)
    ∙ ap (λ v. get_or v.bytes (4096 * c.args.page + c.args.at) 0) c.self.view_is

pub returns-in-None : goal.returns-in-None
returns-in-None c =
    let at : 4096 * c.args.page + c.args.at < 2 ^ 32 = omega arith in
    ap (λ l. get_or l c.args.at 0) (sym c.in-None.ensures ∙ ap (λ t. page_at t c.args.page) c.deref.ensures)
    ∙ sym (table_byte-at (arc_value c.self.inside.table) c.args.page c.args.at c.requires.at)
    ∙ sym (get_or-flat (table_byte (arc_value c.self.inside.table)) (4096 * c.args.page + c.args.at) at)
    ∙ ap (λ v. get_or v.bytes (4096 * c.args.page + c.args.at) 0) c.self.view_is
