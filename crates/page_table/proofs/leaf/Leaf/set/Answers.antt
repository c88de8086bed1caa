use Rattle.std.proofs.Common.{◌∙◌, ap, slice_set}
use Rattle.std.proofs.lemmas.List.{map-set}
use Rattle.page_table.specs.Table.{shared_list}
use Rattle.page_table.proofs.leaf.Leaf.set.Goals as goal

pub returns : goal.returns
returns c = map-set shared_list c.self.inside.pages.items c.args.index c.args.page ∙ ap (λ l. slice_set l c.args.index (shared_list c.args.page)) c.self.view_is
