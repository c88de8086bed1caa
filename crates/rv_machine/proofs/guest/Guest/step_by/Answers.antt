use Rattle.std.proofs.Common.{sym, subst}
use Rattle.guest_model.specs.Effect.{Effect, stored_by}
use Rattle.guest_mem.specs.Frames.{HasAllFrames}
use Rattle.rv_machine.specs.Step.{Gives}
use Rattle.rv_machine.proofs.Frames.{effect_read}
use Rattle.rv_machine.proofs.guest.Guest.step_by.Goals as goal

pub carry_out-requires : goal.carry_out-requires
carry_out-requires g c =
    let s = c.args.self.now in
    subst (λ (e : Effect). HasAllFrames s.frames (stored_by e)) (effect_read s.machine c.args.i.now c.requires.at) c.requires.frames

pub returns : goal.returns
returns g c =
    let s = c.args.self.now in
    subst (λ (e : Effect). Gives e c.carry_out.result s c.carry_out.new.self) (sym (effect_read s.machine c.args.i.now c.requires.at)) c.carry_out.ensures
