use Rattle.std.proofs.Common.{◌≡◌, ◌<◌, ◌∙◌, ℕ, ap, get_or, length, arith}
use Rattle.std.proofs.lemmas.List.{get_or-take, length-take-le}
use Rattle.slot_table.specs.declared.slot.Slot.TheVariants.{Unchanged}
use Rattle.slot_table.proofs.Rules.{sparse_blank, sheet-blank, leaf_left}
use Rattle.slot_table.proofs.table.SlotTable.clear.Goals as goal
use Rattle.slot_table.proofs.table.SlotTable.clear.Goals.{After-truncate}

-- leaf 0 is what is left
blank : (c : After-truncate) → (i : ℕ) → i < 1024 → get_or c.truncate.new.self.items i Unchanged ≡ Unchanged
blank c i lt = ap (λ l. get_or l i Unchanged) c.truncate.ensures.items ∙ get_or-take 1024 c.self.inside.leaves.items i Unchanged lt ∙ c.self.invariant.sparse.blank i lt

pub invariant_of-self : goal.invariant_of-self
invariant_of-self c = record {
  sparse = sparse_blank c.clear_entries.new.directory.items c.truncate.new.self.items (c.clear_entries.ensures.len ∙ c.self.invariant.sparse.directory_len) c.clear_entries.ensures.zero
      (ap length c.truncate.ensures.items ∙ length-take-le 1024 c.self.inside.leaves.items (leaf_left _ _ c.self.invariant.sparse)) (blank (goal.at.invariant_of-self c).After-truncate);
  room = omega (arith, c.truncate.ensures.capacity, c.self.invariant.room);
}

pub returns : goal.returns
returns c = sheet-blank c.clear_entries.new.directory.items c.truncate.new.self.items c.clear_entries.ensures.zero (blank (goal.at.returns c).After-truncate)
