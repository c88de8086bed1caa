use Rattle.std.proofs.Common.{rules, sym, subst, ap, ◌∙◌, ℕ, ◌<◌, ◌∷◌, Some}
use Rattle.slice_ring.specs.declared.views.Content.TheVariants.{Job}
use Rattle.slice_ring.proofs.Looks.{loaded}
use Rattle.atomic_table.specs.Table.{rest}
use Rattle.slice_ring.proofs.table.SlotTable.try_slot.Goals as goal

pub exchange_word-requires-clause-look : goal.exchange_word-requires-clause-look
exchange_word-requires-clause-look g c = let near = subst (λ (z : ℕ). c.args.i < z) (sym c.requires.idle.0.kept) c.requires.near in
    let got = (loaded c.args.i c.load_word-found.result c.load_first-first.result c.load_second-second.result _ _ _ _ near (ap (λ m. m.0) c.load_word-found.ensures.1) (ap (λ m. m.0) c.load_first-first.ensures.1) (ap (λ m. m.0) c.load_second-second.ensures.1)).1 in (
      ap (λ l. l.word) got,
      search rules,
      ((c.load_first-first.result, c.load_second-second.result), ap (λ l. l.first) got, ap (λ l. l.second) got),
    )

pub exchange-requires : goal.exchange-requires
exchange-requires g c = let won = c.exchange_word.ensures.won (search rules) in (search rules, (Some (Job won.0), won.1.turn ∙ (λ z. (c.args.i, Some (Job won.0)) ∷ sym (ap rest won.1.turn) z)))
