use Rattle.std.proofs.Common.{◌≡◌, ◌/◌, ap, get_or, inl, inr, arith}
use Rattle.std.proofs.lemmas.Bool.{cases_lt}
use Rattle.std.proofs.lemmas.Grind.{common_steps}
use Rattle.slot_table.specs.Slots.{is_changed}
use Rattle.slot_table.proofs.Rules.{no_leaf}
use Rattle.slot_table.proofs.table.SlotTable.next.Goals as goal

pub loop-page-preserved-then-index-eq0 : goal.loop-page-preserved-then-index-eq0
loop-page-preserved-then-index-eq0 c =
    let none : get_or c.self.inside.directory.items (c.loop-page.page / 1024) 0 ≡ 0 = grind (arith, common_steps) in
    record {
      from = omega arith;
      end = omega arith;
      none = λ q ge lt. elim (cases_lt q c.loop-page.page) [
        | inl less ↦ c.loop-page.invariant.none q ge less
        | inr more ↦ ap is_changed (no_leaf c.self.inside.directory.items c.self.inside.leaves.items c.args.self.now c.loop-page.page q none c.self.invariant.sparse c.self.view_is (omega arith) (omega arith))
      ];
    }
