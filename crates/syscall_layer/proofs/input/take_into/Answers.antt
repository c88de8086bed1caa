use Rattle.std.proofs.Common.{sym, subst, List, map}
use Rattle.call_record.specs.Record.{Stored}
use Rattle.guest_mem.specs.Frames.{HasAllFrames}
use Rattle.syscall_layer.specs.Serve.{range_of}
use Rattle.syscall_layer.proofs.Deeds.{taken}
use Rattle.syscall_layer.proofs.Permitted.{filled_writable}
use Rattle.syscall_layer.proofs.Received.{filled_has}
use Rattle.syscall_layer.proofs.input.take_into.Goals as goal

pub finish_storing-requires-clause-writable : goal.finish_storing-requires-clause-writable
finish_storing-requires-clause-writable g c =
    let fills = c.in_ok-taken.ensures.fills in
    filled_writable c.args.guest.now.machine.space.areas c.args.ranges.now c.in_ok-taken.taken.writes.items fills.bytes c.requires.writable fills.fills

pub finish_storing-requires-clause-frames : goal.finish_storing-requires-clause-frames
finish_storing-requires-clause-frames g c =
    let fills = c.in_ok-taken.ensures.fills in
    let frames = c.args.guest.now.frames in
    subst (λ (ws : List Stored). HasAllFrames frames (map range_of ws)) (sym fills.fills) (filled_has frames c.args.ranges.now fills.bytes c.requires.frames)

pub returns : goal.returns
returns g c =
    taken c.args.ranges.now c.in_ok-taken.taken.count c.in_ok-taken.taken.writes.items (g.H.Host.told c.args.host.now) (g.H.Host.told c.take_input.new.host) _ _ c.args.guest.now c.finish_storing.new.guest c.finish_storing.result
    c.in_ok-taken.ensures.fills c.in_ok-taken.ensures.told c.in_ok-taken.ensures.faults c.finish_storing.ensures.served c.finish_storing.ensures.machine c.finish_storing.ensures.frames c.finish_storing.ensures.origin
