use Rattle.std.proofs.Common.{rules, refl, ap, sym, ◌∙◌, ℕ, ◌+◌, ◌*◌, ◌%◌}
use Rattle.slice_ring.proofs.Leads.{collect_allowed}
use Rattle.slice_ring.proofs.table.SlotTable.load_done.Goals as goal

pub load-requires : goal.load-requires
load-requires g c = let same = c.args.self.now.sized.2 in let m = c.args.lead.now.me.0.lead.merged in (
  search rules,
  search rules,
  collect_allowed _ _ _ _ _ _ _ _ (ap (λ (z : ℕ). 3 * z + 1) (c.requires.slot.0 ∙ ap (λ (z : ℕ). m % z) (sym same))) c.requires.seat.1 c.requires.out.0 (c.requires.out.1 ∙ sym same),
)

pub returns-clause-done : goal.returns-clause-done
returns-clause-done g c hit = let got = (c.load.ensures.2 c.args.i _ refl c.requires.seat.2).0 hit in (got.1.0, (λ z. (got.0 z, got.1.2 z)), (got.1.1, got.1.3, got.1.4))

pub returns-clause-other : goal.returns-clause-other
returns-clause-other g c miss = (c.load.ensures.2 c.args.i _ refl c.requires.seat.2).1 miss
