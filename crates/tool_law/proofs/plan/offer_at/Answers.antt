use Rattle.std.proofs.Common.{◌+◌, ◌∙◌, true, false, arith, sym}
use Rattle.tool_law.proofs.Lengths.{block_fits, block_none, block_some}
use Rattle.tool_law.proofs.Offering.{given}
use Rattle.tool_law.proofs.plan.offer_at.Goals as goal
use Rattle.tool_law.proofs.plan.offer_at.Goals.{then-is_terminator, else-is_terminator}

pub overflow_add-len : goal.overflow_add-len
overflow_add-len g c = omega (arith, block_fits c.args.views.now (c.args.pc + 4), c.requires.rest)

pub returns-in-None-clause-len : goal.returns-in-None-clause-len
returns-in-None-clause-len g c = sym (block_none c.args.views.now c.args.pc (sym c.in-None.ensures.value))

pub returns-in_ok-offer-in-Some-2-clause-len : goal.returns-in_ok-offer-in-Some-2-clause-len
returns-in_ok-offer-in-Some-2-clause-len g c =
    let v = c.args.views.now in
    elim c.if-is_terminator.branch [
      | then-is_terminator w ↦ block_some v c.args.pc _ c.args.rest c.in-Some.instr true c.requires.views (sym c.in-Some.ensures.value) (sym w.if-is_terminator.true ∙ c.is_terminator.ensures) c.requires.rest w.len-is
      | else-is_terminator w ↦ block_some v c.args.pc _ c.args.rest c.in-Some.instr false c.requires.views (sym c.in-Some.ensures.value) (sym w.if-is_terminator.false ∙ c.is_terminator.ensures) c.requires.rest w.len-is
    ]

pub returns-in_ok-offer-in-Some-2-clause-given : goal.returns-in_ok-offer-in-Some-2-clause-given
returns-in_ok-offer-in-Some-2-clause-given g c = λ a fits.
    given (g.T.Tool.calls_of c.args.tool.now) c.args.views.now a c.args.pc c.if-is_terminator.len c.in-Some.instr _ _ _ (sym c.in-Some.ensures.value)
    (returns-in_ok-offer-in-Some-2-clause-len g c) (c.in_ok-offer-in-Some.ensures a fits) (c.in_ok-offer-in-Some-2.ensures a fits)
