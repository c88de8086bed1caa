use Rattle.std.proofs.Common.{ap, ◌∙◌}
use Rattle.guest_model.specs.Effect.{machine_with}
use Rattle.guest_model.specs.Machine.{following}
use Rattle.rv_machine.proofs.Frames.{completes}
use Rattle.rv_machine.proofs.guest.Guest.write.Goals as goal

pub returns : goal.returns
returns c =
    completes c.args.self.now c.write_and_move.new.self (machine_with c.args.self.now.machine c.args.i.now c.args.value (following c.args.self.now.machine))
    (c.write_and_move.ensures.machine ∙ ap (machine_with c.args.self.now.machine c.args.i.now c.args.value) c.following.ensures) c.write_and_move.ensures.frames c.write_and_move.ensures.origin
