use Rattle.std.proofs.Common.{◌≡◌, subst}
use Rattle.std.specs.Prelude.{Some}
use Rattle.guest_model.specs.Space.{read_number}
use Rattle.guest_model.specs.declared.Access.TheVariants.{Read}
use Rattle.rv_machine.specs.Guest.{GuestState}
use Rattle.rv_machine.proofs.Frames.{reserves_at}
use Rattle.rv_machine.proofs.guest.Guest.reserve.Goals as goal

pub returns-in-Ok : goal.returns-in-Ok
returns-in-Ok c =
    reserves_at c.args.self.now c.write_reserving.new.self c.args.i c.address-at.result c.in-Ok.value c.address-at.ensures c.if-at-ne0.false
    (subst (λ (g : GuestState). read_number Read g.machine.space c.address-at.result 4 ≡ Some c.in-Ok.value) c.self.view_is c.in-Ok.ensures.number)
    c.write_reserving.ensures.machine c.write_reserving.ensures.frames c.write_reserving.ensures.origin
