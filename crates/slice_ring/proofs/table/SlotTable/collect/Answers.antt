use Rattle.std.proofs.Common.{rules, ap, sym, ◌∙◌, ◌+◌, ◌-◌, ◌%◌, ◌++◌, ◌∷◌, [], length, Some, None}
use Rattle.slice_ring.specs.declared.views.Content.TheVariants.{Piece}
use Rattle.atomic_table.specs.Table.{rest, turned}
use Rattle.slice_ring.specs.Seats.{turns}
use Rattle.slice_ring.proofs.Turns.{after_collect}
use Rattle.slice_ring.proofs.table.SlotTable.collect.Goals as goal

pub exchange-content-requires : goal.exchange-content-requires
exchange-content-requires g c = let done = c.load_done.ensures.done (search rules) in let e = ap (λ m. m.1) done.1 in (search rules, (Some (Piece done.0), e ∙ (λ z. (c.args.merged % c.args.self.now.slots, Some (Piece done.0)) ∷ sym (ap rest e) z)))

pub returns-clause-leads : goal.returns-clause-leads
returns-clause-leads g c = let done = c.load_done.ensures.done (search rules) in let leads = c.requires.seat.2 in let v = c.args.lead.now.me.0 in let slots = c.args.self.now.slots in let slot = c.args.merged % slots in
    let all = c.turn.ensures.2 ∙ ap (λ m. (m.0, turned m.1)) (c.exchange-content.ensures.3 ∙ ap (λ m. (m.0, (slot, None) ∷ rest m.1)) done.1) in record {
      role = ap (λ m. m.0.role) all ∙ leads.role;
      opened = ap (λ m. m.0.lead.opened) all ∙ leads.opened;
      kept = ap (λ m. length m.0.work.kept) all ∙ leads.kept;
      held = ap (λ m. m.0.work.held) all ∙ leads.held;
      turns_are = ap (λ m. m.1) all ∙ (λ z. leads.turns_are z ++ (c.requires.out.0 z % slots, None) ∷ []) ∙ after_collect slots v.lead.merged (length v.lead.tags) (search rules)
          ∙ ap (λ m. turns slots (length m.0.lead.tags) (m.0.lead.merged + slots - length m.0.lead.tags)) (sym all);
    }
