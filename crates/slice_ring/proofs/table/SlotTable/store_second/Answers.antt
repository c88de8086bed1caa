use Rattle.std.proofs.Common.{rules, ap, subst, sym, ◌∙◌, ℕ, ◌+◌, ◌*◌, ◌%◌, ◌<◌, length}
use Rattle.slice_ring.proofs.Leads.{second_stored_allowed}
use Rattle.slice_ring.proofs.table.SlotTable.store_second.Goals as goal

pub store-requires : goal.store-requires
store-requires g c = let same = c.args.self.now.sized.2 in let v = c.args.lead.now.me.0 in (
  search rules,
  search rules,
  second_stored_allowed _ _ _ _ _ _ _ _ _ (ap (λ (z : ℕ). 3 * z + 3) (c.requires.slot.0 ∙ ap (λ (z : ℕ). length v.lead.tags % z) (sym same))) c.requires.seat.1 (subst (λ (z : ℕ). length v.lead.tags < v.lead.merged + z) (sym same) c.requires.slot.2),
)
