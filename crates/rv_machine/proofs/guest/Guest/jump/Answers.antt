use Rattle.std.proofs.Common.{ℕ, ap, ◌∙◌}
use Rattle.guest_model.specs.Effect.{machine_with}
use Rattle.guest_model.specs.Machine.{following}
use Rattle.rv_machine.proofs.Frames.{completes}
use Rattle.rv_machine.proofs.guest.Guest.jump.Goals as goal

pub returns : goal.returns
returns c =
    rw c.if-to-ne0.false
    (completes c.args.self.now c.write_and_move.new.self (machine_with c.args.self.now.machine c.args.i.now (following c.args.self.now.machine) c.args.to)
    (c.write_and_move.ensures.machine ∙ ap (λ (a : ℕ). machine_with c.args.self.now.machine c.args.i.now a c.args.to) c.following.ensures) c.write_and_move.ensures.frames c.write_and_move.ensures.origin)
