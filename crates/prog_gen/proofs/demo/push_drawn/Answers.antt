use Rattle.std.proofs.Common.{arith, ◌+◌}
use Rattle.prog_gen.proofs.Added.{drawn_none, drawn_next}
use Rattle.prog_gen.proofs.demo.push_drawn.Goals as goal

pub loop-init : goal.loop-init
loop-init c =
    let d = c.args.draws.now in
    record { made = omega arith; seed = cc; added = drawn_none d.seed (d.made + 1) c.args.bytes.now.items }

pub loop-preserved : goal.loop-preserved
loop-preserved c =
    let first = c.args.draws.now in
    let now = c.loop.draws in
    let before = c.loop.invariant in
    record {
      made = omega (arith, before.made, c.draw.ensures.made);
      seed = cc (before.seed, c.draw.ensures.seed);
      added = drawn_next first.seed now.seed (first.made + 1) c.loop.counter (now.made + 1) c.draw.result c.instr_of-instr.result c.args.bytes.now.items c.loop.bytes.items c.push.new.bytes.items (omega (arith, before.made)) before.seed c.draw.ensures.value c.instr_of-instr.ensures before.added c.in_ok-push.ensures;
    }
