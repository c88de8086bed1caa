use Rattle.std.proofs.Common.{◌≤◌, sym, arith, subst}
use Rattle.std.proofs.lemmas.Bool.Decides.{nat_tests}
use Rattle.ins_views.specs.Memory.{lies_in}
use Rattle.ins_views.specs.Views.{IsViews}
use Rattle.ins_views.proofs.Shapes.{find-holds}
use Rattle.ins_views.proofs.Blocks.{placed_some}
use Rattle.ins_views.proofs.views.Views.ins_at.Goals as goal

pub word_at-requires : goal.word_at-requires
word_at-requires c =
    let code = c.in-Some.code.now in
    let holds = find-holds (λ x. lies_in x.start x.size c.args.pc) c.args.self.now.code code (sym c.in-Some.ensures) in
    let start : code.start ≤ c.args.pc = grind (arith, nat_tests) in
    omega (arith, c.if-pc-ne0.false)

pub returns-in-Some-clause-placed : goal.returns-in-Some-clause-placed
returns-in-Some-clause-placed c =
    placed_some c.args.self.now c.in-Some.code.now c.args.pc c.word_at.result (subst IsViews c.self.view_is c.self.invariant) (sym c.in-Some.ensures) c.if-pc-ne0.false c.word_at.ensures
