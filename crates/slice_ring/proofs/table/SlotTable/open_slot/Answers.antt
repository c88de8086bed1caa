use Rattle.std.proofs.Common.{rules, refl, ap, sym, subst, ◌∙◌, ℕ, ◌+◌, ◌*◌, ◌<◌, ◌++◌, ◌∷◌, [], length, None}
use Rattle.atomic_table.specs.Table.{turned}
use Rattle.slice_ring.proofs.Turns.{after_open}
use Rattle.slice_ring.proofs.Leads.{open_allowed}
use Rattle.slice_ring.proofs.table.SlotTable.open_slot.Goals as goal

pub load-requires : goal.load-requires
load-requires g c = let fresh = c.requires.lead.1 in let same = c.args.self.now.sized.2 in (
  search rules,
  search rules,
  open_allowed _ _ _ _ _ _ _ _ (ap (λ (z : ℕ). 3 * z + 1) (sym fresh.opened_is)) fresh.role
      (subst (λ (z : ℕ). c.args.lead.now.me.0.lead.opened < z) (sym same) (subst (λ (z : ℕ). z < c.args.self.now.slots) (sym fresh.opened_is) c.requires.near)) (ap length fresh.tags),
)

pub returns : goal.returns
returns g c = let fresh = c.requires.lead.1 in let all = c.turn.ensures.2 ∙ ap (λ m. (m.0, turned m.1)) (c.load.ensures.2 c.args.i refl) in (
  (search rules, search rules),
  record {
    role = ap (λ m. m.0.role) all ∙ fresh.role;
    told = ap (λ m. m.0.topic) all ∙ fresh.told;
    opened_is = ap (λ m. m.0.lead.opened) all ∙ ap (λ (z : ℕ). z + 1) fresh.opened_is;
    kept = ap (λ m. length m.0.work.kept) all ∙ fresh.kept;
    held = ap (λ m. m.0.work.held) all ∙ fresh.held;
    tags = ap (λ m. m.0.lead.tags) all ∙ fresh.tags;
    merged = ap (λ m. m.0.lead.merged) all ∙ fresh.merged;
    open_is = ap (λ m. m.0.lead.closed) all ∙ fresh.open_is;
    turns_are = ap (λ m. m.1) all ∙ ap (λ t. t ++ (c.args.i, None) ∷ []) fresh.turns_are ∙ after_open c.args.self.now.slots c.args.i c.requires.near;
  },
)
