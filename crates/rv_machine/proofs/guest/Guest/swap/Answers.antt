use Rattle.std.proofs.Common.{◌≡◌, true, [], ◌∷◌, sym, subst}
use Rattle.std.specs.Prelude.{Some}
use Rattle.guest_model.specs.Areas.{all_permitted}
use Rattle.guest_model.specs.Range.{range}
use Rattle.guest_model.specs.Space.{read_number}
use Rattle.guest_model.specs.declared.Access.TheVariants.{Read, Write}
use Rattle.guest_mem.specs.Frames.{HasAllFrames}
use Rattle.rv_machine.specs.Guest.{GuestState}
use Rattle.rv_machine.proofs.Frames.{has_for_swap}
use Rattle.rv_machine.proofs.guest.Guest.swap.Goals as goal

pub store-requires-clause-frames : goal.store-requires-clause-frames
store-requires-clause-frames c =
    subst (λ (g : GuestState). all_permitted Write g.machine.space.areas c.address-at.result 4 ≡ true → HasAllFrames g.frames (range c.address-at.result 4 ∷ []))
    (sym c.self.view_is)
    (has_for_swap c.args.self.now c.args.i c.address-at.result c.in-Ok.read c.address-at.ensures c.if-at-ne0.false
    (subst (λ (g : GuestState). read_number Read g.machine.space c.address-at.result 4 ≡ Some c.in-Ok.read) c.self.view_is c.in-Ok.ensures.number) c.requires)
