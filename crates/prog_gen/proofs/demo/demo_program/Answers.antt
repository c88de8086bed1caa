use Rattle.std.proofs.Common.{◌+◌, ◌++◌, ◌∙◌, ap, arith}
use Rattle.prog_gen.specs.Demo.{demo_headers}
use Rattle.prog_gen.proofs.Added.{demo_whole}
use Rattle.prog_gen.proofs.demo.demo_program.Goals as goal

pub returns : goal.returns
returns c =
    let drawn_of = c.new-draws.ensures.seed in
    let calls_of = c.in_ok-push_drawn.ensures.seed ∙ drawn_of in
    let functions_of = c.in_ok-push_calls.ensures.seed ∙ calls_of in
    let headers_at = c.in_ok-push_headers.ensures ∙ ap (λ bytes. bytes ++ demo_headers) c.new-bytes.ensures.items in
    demo_whole c.args.n (c.new-draws.result.made + 1) c.new-draws.result.seed c.push_drawn.new.draws.seed c.push_calls.new.draws.seed c.push_headers.new.bytes.items c.push_start.new.bytes.items c.push_drawn.new.bytes.items c.push_calls.new.bytes.items c.push_turn.new.bytes.items c.push_finish.new.bytes.items c.push_functions.new.bytes.items headers_at (omega (arith, c.new-draws.ensures.made)) drawn_of calls_of functions_of c.in_ok-push_start.ensures c.in_ok-push_drawn.ensures.added c.in_ok-push_calls.ensures.added c.in_ok-push_turn.ensures c.in_ok-push_finish.ensures c.in_ok-push_functions.ensures
