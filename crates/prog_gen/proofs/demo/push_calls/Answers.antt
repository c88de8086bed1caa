use Rattle.std.proofs.Common.{arith, ◌+◌, ◌-◌, ◌*◌, ◌%◌, ◌^◌, ◌<◌, ◌∙◌, ap, w32}
use Rattle.std.proofs.lemmas.Int.{to_z_pos}
use Rattle.prog_gen.specs.Instrs.{jump}
use Rattle.prog_gen.proofs.Added.{calls_none, calls_next}
use Rattle.prog_gen.proofs.demo.push_calls.Goals as goal

pub loop-k-init : goal.loop-k-init
loop-k-init c = record { made = omega arith; seed = cc; added = calls_none c.args.draws.now.seed c.args.bytes.now.items }

pub loop-k-preserved : goal.loop-k-preserved
loop-k-preserved c =
    let now = c.loop-k.draws in
    let before = c.loop-k.invariant in
    let offset = 4 * (55 + 9 * (c.draw.result % 64) - (37 + c.loop-k.k)) in
    let small : offset < 2 ^ 31 = omega arith in
    let is = c.jump.ensures ∙ ap (jump 1) (to_z_pos w32 offset small) in
    record {
      made = omega (arith, before.made, c.draw.ensures.made);
      seed = cc (before.seed, c.draw.ensures.seed);
      added = calls_next c.args.draws.now.seed now.seed c.loop-k.k (now.made + 1) c.draw.result c.jump.result c.args.bytes.now.items c.loop-k.bytes.items c.push.new.bytes.items (omega (arith, before.made)) before.seed c.draw.ensures.value is before.added c.in_ok-push.ensures;
    }
