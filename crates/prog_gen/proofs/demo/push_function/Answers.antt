use Rattle.std.proofs.Common.{arith, ◌+◌, [], ◌∷◌, subst}
use Rattle.rv_isa.specs.Table.{Fields}
use Rattle.prog_gen.specs.File.{Adds}
use Rattle.prog_gen.proofs.Added.{function_whole}
use Rattle.prog_gen.proofs.demo.push_function.Goals as goal

pub returns-clause-added : goal.returns-clause-added
returns-clause-added c =
    let d = c.args.draws.now in
    let middle = c.push_drawn.new.bytes.items in
    let last = c.push.new.bytes.items in
    function_whole d.seed c.args.f (d.made + 1) c.args.bytes.now.items middle last (omega arith) c.in_ok-push_drawn.ensures.added (subst (λ (i : Fields). Adds (i ∷ []) middle last) c.immediate.ensures c.in_ok-push.ensures)
