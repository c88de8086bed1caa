use Rattle.std.proofs.Common.{◌≡◌, ◌++◌, ◌∙◌, ap, replicate, arith}
use Rattle.std.proofs.lemmas.Grind.{common_steps}
use Rattle.slot_table.specs.declared.slot.Slot.TheVariants.{Unchanged}
use Rattle.slot_table.proofs.table.add_leaf.Goals as goal

pub returns-clause-items : goal.returns-clause-items
returns-clause-items c =
    let all : c.loop-index._index ≡ 1024 = grind (arith, common_steps) in
    c.loop-index.invariant.items ∙ ap (λ n. c.args.leaves.now.items ++ replicate n Unchanged) all
