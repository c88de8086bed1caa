use Rattle.std.proofs.Common.{ap, ◌∙◌}
use Rattle.guest_model.specs.Effect.{machine_at}
use Rattle.guest_model.specs.Machine.{following}
use Rattle.rv_machine.proofs.Frames.{completes}
use Rattle.rv_machine.proofs.guest.Guest.go_on.Goals as goal

pub returns : goal.returns
returns c =
    completes c.args.self.now c.move_to.new.self (machine_at c.args.self.now.machine c.args.i.now (following c.args.self.now.machine))
    (c.move_to.ensures.machine ∙ ap (machine_at c.args.self.now.machine c.args.i.now) c.following.ensures) c.move_to.ensures.frames c.move_to.ensures.origin
