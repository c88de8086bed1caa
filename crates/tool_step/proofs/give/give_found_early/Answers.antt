use Rattle.std.proofs.Common.{◌++◌, List, [], ap, if◌then◌else◌}
use Rattle.insert_points.specs.Plan.{found_calls}
use Rattle.insert_points.specs.declared.call.Event.{Event}
use Rattle.insert_points.specs.declared.planned.PlannedCall.{PlannedCall}
use Rattle.tool_step.specs.Steps.{events_by}
use Rattle.tool_step.proofs.Taking.{takes_as, takes_join}
use Rattle.tool_step.proofs.give.give_found_early.Goals as goal

pub returns-clause-law : goal.returns-clause-law
returns-clause-law g c o is =
    let stands = g.T.Tool.is_local c.args.tool.now in
    let m = c.args.guest.now.machine in
    let called = found_calls c.args.found.now in
    let heads = events_by o m.registers called.routine in
    let block : List Event = if m.fresh then events_by o m.registers called.block else [] in
    let before = events_by o m.registers called.before in
    let one = takes_as stands _ heads c.args.local.now c.give_by.new.local (ap (events_by o m.registers) c.routine.ensures) (c.in_ok-give_by.ensures.law o is) in
    let two = takes_as stands _ block c.give_by.new.local c.give_block_by.new.local (ap (λ (cs : List PlannedCall). if m.fresh then events_by o m.registers cs else []) c.block.ensures) (c.in_ok-give_block_by.ensures.law o is) in
    let three = takes_as stands _ before c.give_block_by.new.local c.give_by-2.new.local (ap (events_by o m.registers) c.before-2.ensures) (c.in_ok-give_by-2.ensures.law o is) in
    takes_join stands heads (block ++ before) c.args.local.now c.give_by.new.local c.give_by-2.new.local one
    (takes_join stands block before c.give_by.new.local c.give_block_by.new.local c.give_by-2.new.local two three)
