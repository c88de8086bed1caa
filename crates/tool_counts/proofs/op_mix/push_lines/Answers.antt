use Rattle.std.proofs.Common.{◌≡◌, ap, arith, length, slice_index}
use Rattle.tool_counts.proofs.Mixes.{all_lines}
use Rattle.tool_counts.proofs.op_mix.push_lines.Goals as goal

pub returns : goal.returns
returns c =
    let last : c.loop-op.op-index ≡ length c.all_ops-ops.result = omega (arith, ap length c.all_ops-ops.ensures, c.loop-op.auto.op-index-end, c.loop-op-test.false) in
    all_lines (slice_index c.args.counts.now) c.all_ops-ops.result c.loop-op.op-index _ _ c.all_ops-ops.ensures last c.loop-op.invariant
