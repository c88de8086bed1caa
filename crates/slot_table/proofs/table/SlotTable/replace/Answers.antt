use Rattle.std.proofs.Common.{◌≡◌, ◌==◌, ◌∙◌, ℕ, List, ap, cond, get_or, sym, arith}
use Rattle.std.proofs.Math.ListN.{set}
use Rattle.std.proofs.lemmas.List.{get_or_default}
use Rattle.slot_table.specs.declared.slot.Slot.{Slot}
use Rattle.slot_table.specs.declared.slot.Slot.TheVariants.{Unchanged}
use Rattle.slot_table.specs.Sparse.{entry}
use Rattle.slot_table.proofs.Rules.{sparse_set, entry_set, entry_is, cell_in}
use Rattle.slot_table.proofs.Sheets.{sheet-set, get_or-sheet}
use Rattle.slot_table.proofs.table.SlotTable.replace.Goals as goal

-- one slot is replaced where it was found
replaced : (leaves : List Slot) (at k : ℕ) (new slot : Slot) → new ≡ slot → at ≡ k → set leaves at new ≡ set leaves k slot
replaced leaves at k new slot e f = ap (set leaves at) e ∙ ap (λ j. set leaves j slot) f

pub invariant_of-self : goal.invariant_of-self
invariant_of-self c = record {
  sparse = rw (replaced c.own_leaf.new.leaves.items c.cell-cell.result _ c.replace.new.dest c.args.slot c.replace.ensures.after c.cell-cell.ensures)
      (sparse_set c.own_leaf.new.directory.items c.own_leaf.new.leaves.items c.args.page c.args.slot c.own_leaf.ensures.own c.own_leaf.ensures.sparse);
  room = c.own_leaf.ensures.room;
}

pub returns-clause-old : goal.returns-clause-old
returns-clause-old c =
    let inside = cell_in c.own_leaf.new.directory.items c.own_leaf.new.leaves.items c.args.page c.own_leaf.ensures.sparse in
    c.replace.ensures.value ∙ c.index_mut.ensures.value
    ∙ get_or_default c.own_leaf.new.leaves.items c.cell-cell.result c.index_mut.result.now Unchanged (omega (arith, inside, c.cell-cell.ensures))
    ∙ ap (λ k. get_or c.own_leaf.new.leaves.items k Unchanged) c.cell-cell.ensures
    ∙ sym (entry_is c.own_leaf.new.directory.items c.own_leaf.new.leaves.items c.args.page)
    ∙ c.own_leaf.ensures.same c.args.page
    ∙ sym (get_or-sheet (entry c.self.inside.directory.items c.self.inside.leaves.items) c.args.page c.requires)
    ∙ ap (λ l. get_or l c.args.page Unchanged) c.self.view_is

pub returns-clause-new : goal.returns-clause-new
returns-clause-new c =
    sheet-set (entry c.self.inside.directory.items c.self.inside.leaves.items)
    (entry c.own_leaf.new.directory.items (set c.own_leaf.new.leaves.items c.cell-cell.result c.replace.new.dest))
    c.args.page c.args.slot c.requires
    (λ q _. ap (λ l. entry c.own_leaf.new.directory.items l q) (replaced c.own_leaf.new.leaves.items c.cell-cell.result _ c.replace.new.dest c.args.slot c.replace.ensures.after c.cell-cell.ensures)
    ∙ entry_set c.own_leaf.new.directory.items c.own_leaf.new.leaves.items c.args.page c.args.slot c.own_leaf.ensures.own c.own_leaf.ensures.sparse q
    ∙ ap (cond (q == c.args.page) c.args.slot) (c.own_leaf.ensures.same q))
    ∙ ap (λ l. set l c.args.page c.args.slot) c.self.view_is
