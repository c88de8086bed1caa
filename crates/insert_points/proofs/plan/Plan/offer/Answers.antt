use Rattle.std.proofs.Common.{ap, arith, length}
use Rattle.std.specs.Prelude.{None, Some}
use Rattle.insert_points.proofs.Points.{planned_before, planned_points}
use Rattle.insert_points.proofs.plan.Plan.offer.Goals as goal

pub put-requires : goal.put-requires
put-requires c =
    let points = planned_points (Some c.instr.inside.op) c.as_slice-calls.result.now in
    let list = ap length c.as_slice.ensures.value in
    let start = ap length c.new-list.ensures.items in
    let before = c.in_ok-before-in-Ins.ensures in
    let after = c.in_ok-after-in-Ins.ensures in
    let taken = c.in_ok-taken-in-Ins.ensures in (
      omega (arith, list, start, before.len, after.len, taken.len, before.count, after.count, taken.count),
      omega (arith, list, start, points, before.len, after.len, taken.len, c.as_slice-calls.ensures.fits),
    )

pub put-requires-in-Block : goal.put-requires-in-Block
put-requires-in-Block c =
    let few = planned_before None c.as_slice-calls.result.now in
    omega (arith, few, ap length c.as_slice-in-Block.ensures.value, ap length c.new-list.ensures.items, c.in_ok-push_at-in-Block.ensures.len, c.as_slice-calls.ensures.fits)

pub put-requires-in-Routine : goal.put-requires-in-Routine
put-requires-in-Routine c =
    let few = planned_before None c.as_slice-calls.result.now in
    omega (arith, few, ap length c.as_slice-in-Routine.ensures.value, ap length c.new-list.ensures.items, c.in_ok-push_at-in-Routine.ensures.len, c.as_slice-calls.ensures.fits)
