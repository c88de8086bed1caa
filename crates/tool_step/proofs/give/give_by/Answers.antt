use Rattle.std.proofs.Common.{◌≡◌, ap, sym, subst, arith, unwrap_or, ◌∙◌}
use Rattle.std.specs.Prelude.{Option, length}
use Rattle.std.proofs.lemmas.Bool.Decides.{nat_tests}
use Rattle.std.proofs.lemmas.List.{nil_from_length}
use Rattle.insert_points.specs.declared.operands.Operands.{Operands}
use Rattle.tool_step.specs.Steps.{TakesEvents, events_by}
use Rattle.tool_step.proofs.Taking.{takes_as, takes_none}
use Rattle.tool_step.proofs.give.give_by.Goals as goal

pub returns-then-is_empty-clause-law : goal.returns-then-is_empty-clause-law
returns-then-is_empty-clause-law g c o is =
    let empty : length c.args.calls.now ≡ 0 = grind (arith, nat_tests) in
    takes_as (g.T.Tool.is_local c.args.tool.now) _ _ c.args.local.now c.args.local.now (sym (ap (events_by o c.args.guest.now.machine.registers) (nil_from_length c.args.calls.now empty)))
    (takes_none (g.T.Tool.is_local c.args.tool.now) c.args.local.now)

pub returns-clause-law : goal.returns-clause-law
returns-clause-law g c o is =
    let same : c.operands_by-operands.result ≡ o = ap (λ (x : Option Operands). unwrap_or x o) (sym c.operands_by-operands.ensures ∙ is) in
    subst (λ (p : Operands). TakesEvents (g.T.Tool.is_local c.args.tool.now) (events_by p c.args.guest.now.machine.registers c.args.calls.now) c.args.local.now c.give.new.local) same
    (takes_as (g.T.Tool.is_local c.args.tool.now) _ _ c.args.local.now c.give.new.local (ap (λ r. events_by c.operands_by-operands.result r c.args.calls.now) c.registers.ensures) c.in_ok-give.ensures.law)
