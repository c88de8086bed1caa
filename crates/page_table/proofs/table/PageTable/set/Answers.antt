use Rattle.std.proofs.Common.{◌≡◌, ◌/◌, ◌<◌, None, Some, length, get_or, ap, sym, ◌∙◌, arith}
use Rattle.std.proofs.Math.ListN.{get_or-map as map_at}
use Rattle.std.proofs.lemmas.Grind.{common_steps}
use Rattle.page_table.specs.Table.{page_in, shared_list}
use Rattle.page_table.proofs.Tables.{page_at-set, replaced}
use Rattle.page_table.proofs.table.PageTable.set.Goals as goal

pub returns : goal.returns
returns c =
    let in_items : c.args.page / 4096 < length c.self.inside.branches.items = omega (arith, c.self.invariant, c.requires) in
    let was : c.replace-old.result ≡ get_or c.self.inside.branches.items (c.args.page / 4096) None = grind (arith, common_steps) in
    let is : shared_list (Some c.in_ok-new.field-0) ≡ c.set.new.self = grind (arith, common_steps) in
    λ q. rw (← c.self.view_is) (page_at-set _ _ c.in_ok-branch.branch c.set.new.self c.args.page q (shared_list c.args.bytes)
    (replaced c.self.inside.branches.items (c.args.page / 4096) c.replace-old.new.dest (Some c.in_ok-new.field-0) _ in_items is)
    c.in_ok-set.ensures
    (λ i. c.in_ok-branch.ensures i ∙ ap (λ o. page_in (shared_list o) i) was ∙ ap (λ l. page_in l i) (sym (map_at shared_list c.self.inside.branches.items (c.args.page / 4096) None))))
