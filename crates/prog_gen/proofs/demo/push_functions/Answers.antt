use Rattle.std.proofs.Common.{arith}
use Rattle.prog_gen.proofs.Added.{functions_none, functions_next}
use Rattle.prog_gen.proofs.demo.push_functions.Goals as goal

pub loop-f-init : goal.loop-f-init
loop-f-init c = record { made = omega arith; seed = cc; added = functions_none c.args.draws.now.seed c.args.bytes.now.items }

pub loop-f-preserved : goal.loop-f-preserved
loop-f-preserved c =
    let before = c.loop-f.invariant in
    let made = c.in_ok-push_function.ensures in
    record {
      made = omega (arith, made.made);
      seed = cc (before.seed, made.seed);
      added = functions_next c.args.draws.now.seed c.loop-f.draws.seed c.loop-f.f c.args.bytes.now.items c.loop-f.bytes.items c.push_function.new.bytes.items before.seed before.added made.added;
    }
