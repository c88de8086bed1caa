use Rattle.std.proofs.Common.{◌<◌, ◌∙◌, ap, arith}
use Rattle.guest_model.specs.Range.{Range, total_size}
use Rattle.guest_model.specs.Calls.{argument}
use Rattle.syscall_layer.proofs.Arrays.{total_more, take_ranges}
use Rattle.syscall_layer.proofs.ranges.total_size.Goals as goal

pub loop-k-preserved : goal.loop-k-preserved
loop-k-preserved c =
    let m = c.args.guest.now.machine in
    let among : c.loop-k.k < argument m 2 = omega (arith, c.reg-k-end.ensures) in
    let size = ap (λ (p : Range). p.size) (c.total.view_is ∙ c.range_at.ensures) in
    record { sum = omega (arith, total_more m c.loop-k.k among, size, c.loop-k.invariant.sum); small = omega arith }

pub returns : goal.returns
returns c =
    let m = c.args.guest.now.machine in
    c.loop-k.invariant.sum ∙ ap total_size (take_ranges m c.loop-k.k (omega (arith, c.reg-k-end.ensures)))
