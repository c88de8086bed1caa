use Rattle.std.proofs.Common.{rules, subst, sym, refl, ℕ, ◌<◌}
use Rattle.slice_ring.proofs.Workers.{word_allowed}
use Rattle.slice_ring.proofs.table.SlotTable.load_word.Goals as goal

pub load-requires : goal.load-requires
load-requires g c = (search rules, search rules, word_allowed _ _ _ _ _ _ _ _ _ refl (subst (λ (z : ℕ). c.args.i < z) (sym c.args.self.now.sized.2) c.requires.2) c.requires.1)
