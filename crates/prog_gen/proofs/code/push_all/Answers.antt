use Rattle.prog_gen.proofs.Added.{adds_next}
use Rattle.prog_gen.proofs.code.push_all.Goals as goal

pub loop-instr-preserved : goal.loop-instr-preserved
loop-instr-preserved c =
    adds_next c.args.instrs.now c.loop-instr.instr-index c.instr-item.result c.args.bytes.now.items c.loop-instr.bytes.items c.push.new.bytes.items c.loop-instr-test.true c.instr-item.is c.loop-instr.invariant c.in_ok-push.ensures
