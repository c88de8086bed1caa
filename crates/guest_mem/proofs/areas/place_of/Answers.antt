use Rattle.std.proofs.Common.{sym, ◌∙◌}
use Rattle.guest_model.specs.Added.{comes_before}
use Rattle.guest_mem.proofs.Added.{found}
use Rattle.guest_mem.proofs.areas.place_of.Goals as goal

pub returns-then-comes_before_other-clause-place : goal.returns-then-comes_before_other-clause-place
returns-then-comes_before_other-clause-place c = found (comes_before c.args.area.now) c.args.areas.now c.loop-i.i _ c.loop-i-test.true c.loop-i.invariant (sym c.comes_before_other.ensures ∙ c.if-comes_before_other.true)
