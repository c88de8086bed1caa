use Rattle.std.proofs.Common.{ap, sym, ◌∙◌, arith}
use Rattle.guest_model.specs.Descriptors.{first_closed}
use Rattle.rv_machine.proofs.Slots.{ends_here, goes_on, none_left, zero_from, some_from}
use Rattle.rv_machine.proofs.descriptors.Descriptors.first_closed.Goals as goal

pub returns-then-is_empty-clause-place : goal.returns-then-is_empty-clause-place
returns-then-is_empty-clause-place c =
    sym (ap first_closed (sym c.self.view_is)
    ∙ ends_here c.self.inside.slots.items c.loop-place.place c.index-self-place.result (omega (arith, c.loop-place-test.true, c.self.invariant)) (zero_from _ (sym c.is_empty.ensures ∙ c.if-is_empty.true)) c.loop-place.invariant)

pub loop-place-preserved : goal.loop-place-preserved
loop-place-preserved c =
    goes_on c.self.inside.slots.items c.loop-place.place c.index-self-place.result (omega (arith, c.loop-place-test.true, c.self.invariant)) (some_from _ (sym c.is_empty.ensures ∙ c.if-is_empty.false)) c.loop-place.invariant

pub returns-clause-place : goal.returns-clause-place
returns-clause-place c =
    sym (ap first_closed (sym c.self.view_is) ∙ none_left c.self.inside.slots.items c.loop-place.place (omega (arith, c.loop-place-test.false, c.self.invariant)) c.loop-place.invariant)
