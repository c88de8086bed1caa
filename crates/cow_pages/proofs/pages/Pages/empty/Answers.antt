use Rattle.std.proofs.Common.{◌≡◌, ◌∙◌, ap, subst}
use Rattle.std.specs.Prelude.{IfOk}
use Rattle.std.specs.Arc.{arc_value}
use Rattle.page_table.specs.Table.{page_at}
use Rattle.cow_pages.specs.Contents.{flat, pages_over}
use Rattle.cow_pages.specs.Laid.{table_byte}
use Rattle.cow_pages.proofs.Fresh.{empty-table}
use Rattle.cow_pages.proofs.pages.Pages.empty.Goals as goal

pub returns-clause-pages : goal.returns-clause-pages
returns-clause-pages c =
    let zeros : flat (table_byte (arc_value c.in_ok-table.table)) ≡ flat (λ _. 0) = empty-table (arc_value c.in_ok-table.table) (λ page. ap (λ t. page_at t page) c.in_ok-table.ensures.ok ∙ c.in_ok-new.ensures page) in
    subst (λ b. IfOk c.over.result (λ p. p ≡ pages_over b c.args.frames)) zeros c.over.ensures.pages
