use Rattle.std.proofs.Common.{◌≡◌, ◌/◌, ◌%◌, ◌<◌, [], None, Some, length, get_or, ap, sym, ◌∙◌, arith, slice_set}
use Rattle.std.proofs.Math.ListN.{get_or-map as map_at}
use Rattle.std.proofs.lemmas.Grind.{common_steps}
use Rattle.page_table.specs.Table.{shared_list}
use Rattle.page_table.proofs.Tables.{page_in-set, replaced}
use Rattle.page_table.proofs.branch.Branch.set.Goals as goal

pub returns : goal.returns
returns c =
    let in_items : c.args.index / 32 < length c.self.inside.leaves.items = omega (arith, c.self.invariant, c.requires) in
    let was : c.replace-old.result ≡ get_or c.self.inside.leaves.items (c.args.index / 32) None = grind (arith, common_steps) in
    let is : shared_list (Some c.in_ok-new.field-0) ≡ slice_set c.in_ok-leaf.leaf (c.args.index % 32) (shared_list c.args.page) = grind (arith, common_steps) in
    λ q. rw (← c.self.view_is) (page_in-set _ _ c.in_ok-leaf.leaf c.args.index q (shared_list c.args.page)
    (omega (arith, c.in_ok-leaf.ensures.len))
    (replaced c.self.inside.leaves.items (c.args.index / 32) c.replace-old.new.dest (Some c.in_ok-new.field-0) _ in_items is)
    (λ i. c.in_ok-leaf.ensures.same i ∙ ap (λ o. get_or (shared_list o) i []) was ∙ ap (λ l. get_or l i []) (sym (map_at shared_list c.self.inside.leaves.items (c.args.index / 32) None))))
