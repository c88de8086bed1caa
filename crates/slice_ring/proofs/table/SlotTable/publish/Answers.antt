use Rattle.std.proofs.Common.{ap, sym, ◌∙◌, ◌≡◌, ◌+◌, ◌-◌, ◌++◌, ◌∷◌, [], length, length-append, Some}
use Rattle.atomic_table.specs.Table.{rest}
use Rattle.slice_ring.specs.Seats.{turns}
use Rattle.slice_ring.specs.Steps.{publishes}
use Rattle.slice_ring.proofs.Turns.{after_publish, stored_both}
use Rattle.slice_ring.proofs.table.SlotTable.publish.Goals as goal

pub returns-clause-leads : goal.returns-clause-leads
returns-clause-leads g c = let leads = c.requires.seat.1 in let v = c.args.lead.now.me.0 in let tag = (g.J.Numbered.ticket c.args.job).tag in let told = c.tag-first.ensures in
    let three = stored_both _ _ _ _ _ _ _ c.exchange.ensures.3 c.store_first.ensures.1 c.store_second.ensures.1 in
    let four = c.store_ready.ensures.published tag (ap (λ m. m.0.lead.first) three ∙ ap (λ t. Some t.0) told) (ap (λ m. m.0.lead.second) three ∙ ap (λ t. Some t.1) told) in
    let all = four ∙ ap (λ m. (publishes tag m.0, rest m.1)) three in
    let more : length (v.lead.tags ++ tag ∷ []) ≡ length v.lead.tags + 1 = length-append v.lead.tags (tag ∷ []) in record {
      role = ap (λ m. m.0.role) all ∙ leads.role;
      opened = ap (λ m. m.0.lead.opened) all ∙ leads.opened;
      kept = ap (λ m. length m.0.work.kept) all ∙ leads.kept;
      held = ap (λ m. m.0.work.held) all ∙ leads.held;
      turns_are = ap (λ m. m.1) all ∙ ap rest leads.turns_are ∙ after_publish c.args.self.now.slots v.lead.merged (length v.lead.tags) (length (v.lead.tags ++ tag ∷ [])) c.requires.room.0 more
          ∙ ap (λ m. turns c.args.self.now.slots (length m.0.lead.tags) (m.0.lead.merged + c.args.self.now.slots - length m.0.lead.tags)) (sym all);
    }
