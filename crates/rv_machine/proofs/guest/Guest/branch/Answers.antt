use Rattle.std.proofs.Common.{◌≡◌, ◌%◌, true, ap, sym, ◌∙◌, arith}
use Rattle.rv_isa.specs.Kinds.{is_taken}
use Rattle.rv_isa.specs.Table.{Fields}
use Rattle.guest_model.specs.Effect.{machine_at, rs1_value, rs2_value, target}
use Rattle.rv_machine.proofs.Frames.{completes}
use Rattle.rv_machine.proofs.guest.Guest.branch.Goals as goal

pub returns : goal.returns
returns c =
    let m = c.args.self.now.machine in
    let i = c.args.i.now in
    let taken : is_taken i.op (rs1_value m i) (rs2_value m i) ≡ true =
    rw (← c.rs1.ensures, ← c.rs2.ensures) (ap (λ (f : Fields). is_taken f.op c.rs1.result c.rs2.result) (sym c.i.view_is) ∙ sym c.is_taken.ensures ∙ c.if-not-is_taken.false) in
    let whole : target m i % 4 ≡ 0 = omega (arith, c.target-target.ensures, c.if-target-ne0.false) in
    rw (taken, whole)
    (completes c.args.self.now c.move_to.new.self (machine_at m i (target m i)) (c.move_to.ensures.machine ∙ ap (machine_at m i) c.target-target.ensures) c.move_to.ensures.frames c.move_to.ensures.origin)
