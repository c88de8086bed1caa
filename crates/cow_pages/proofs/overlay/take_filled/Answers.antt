use Rattle.std.proofs.Common.{◌/◌, ◌%◌, ◌==◌, ◌∙◌, ap, cond, get_or, arith}
use Rattle.std.proofs.lemmas.Option.{IfSome_then}
use Rattle.cow_pages.proofs.overlay.take_filled.Goals as goal

pub take_copy-requires : goal.take_copy-requires
take_copy-requires c = (c.in-Some.ensures c.args.pool.now.bytes).0

pub returns-in-Some-clause-bytes : goal.returns-in-Some-clause-bytes
returns-in-Some-clause-bytes c =
    let read = c.in-Some.ensures c.args.pool.now.bytes in
    IfSome_then c.take_copy.result c.take_copy.ensures.bytes (λ f fills k.
    fills k ∙ ap (λ b. cond (k / 4096 == f) b (get_or c.args.pool.now.bytes k 0)) (read.1 (k % 4096) (omega arith)))
