use Rattle.std.proofs.Common.{rules, ap, subst, sym, ◌∙◌, ℕ, ◌+◌, ◌*◌, ◌%◌, ◌<◌, ◌∷◌, length, Some}
use Rattle.slice_ring.specs.declared.views.Content.TheVariants.{Job}
use Rattle.atomic_table.specs.Table.{rest}
use Rattle.slice_ring.proofs.Leads.{publish_allowed}
use Rattle.slice_ring.proofs.table.SlotTable.store_ready.Goals as goal

pub store-requires : goal.store-requires
store-requires g c = let same = c.args.self.now.sized.2 in let v = c.args.lead.now.me.0 in let slot = c.requires.slot in let job = c.requires.job in let t = g.J.Numbered.ticket job.0 in
    let at = slot.0 ∙ ap (λ (z : ℕ). length v.lead.tags % z) (sym same) in (
      search rules,
      search rules,
      publish_allowed _ _ _ _ _ _ _ _ _ job.0 t.tag (ap (λ (z : ℕ). 3 * z + 1) at) c.requires.few.0 c.requires.seat.1 (subst (λ (z : ℕ). length v.lead.tags < v.lead.merged + z) (sym same) slot.2) c.requires.few.1 c.requires.few.2
          job.4 job.5 (λ z. record { number = job.2 z; tag = t.tag; topic = job.3 z }) (job.1 ∙ ap (λ (z : ℕ). (z, Some (Job job.0)) ∷ rest c.args.lead.now.me.1) at),
    )
