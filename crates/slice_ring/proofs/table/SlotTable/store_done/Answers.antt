use Rattle.std.proofs.Common.{rules, ap, sym, ◌∙◌, ℕ, ◌+◌, ◌*◌, ◌%◌, ◌∷◌, Some}
use Rattle.slice_ring.specs.declared.views.Content.TheVariants.{Piece}
use Rattle.atomic_table.specs.Table.{rest}
use Rattle.slice_ring.proofs.Workers.{finishes_allowed}
use Rattle.slice_ring.proofs.table.SlotTable.store_done.Goals as goal

pub store-requires : goal.store-requires
store-requires g c = let same = c.args.self.now.sized.2 in let p = c.requires.piece in let t = g.R.Numbered.ticket p.0 in
    let at = p.2 ∙ ap (λ (z : ℕ). t.number % z) (sym same) in (
      search rules,
      search rules,
      finishes_allowed _ _ _ _ _ _ _ _ _ t.number t.tag p.0 (ap (λ (z : ℕ). 3 * z + 1) at) p.3 c.requires.seat.1 p.4 (λ z. record { number = t.number; tag = t.tag; topic = p.5 z }) (p.1 ∙ ap (λ (z : ℕ). (z, Some (Piece p.0)) ∷ rest c.args.seat.now.me.1) at),
    )
