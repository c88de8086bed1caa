use Rattle.std.proofs.Common.{arith}
use Rattle.syscall_layer.proofs.Arrays.{array_end}
use Rattle.syscall_layer.proofs.ranges.range_at.Goals as goal

pub overflow_mul-at : goal.overflow_mul-at
overflow_mul-at c =
    let end = array_end c.args.guest.now.machine c.args.k c.requires.array c.requires.among in
    omega (arith, end)

pub overflow_add-at : goal.overflow_add-at
overflow_add-at c =
    let end = array_end c.args.guest.now.machine c.args.k c.requires.array c.requires.among in
    omega (arith, end, c.reg.ensures)

pub word-requires : goal.word-requires
word-requires c =
    let end = array_end c.args.guest.now.machine c.args.k c.requires.array c.requires.among in
    omega (arith, end, c.reg.ensures)

pub overflow_add-at-2 : goal.overflow_add-at-2
overflow_add-at-2 c =
    let end = array_end c.args.guest.now.machine c.args.k c.requires.array c.requires.among in
    omega (arith, end, c.reg.ensures)

pub word-requires-2 : goal.word-requires-2
word-requires-2 c =
    let end = array_end c.args.guest.now.machine c.args.k c.requires.array c.requires.among in
    omega (arith, end, c.reg.ensures)
