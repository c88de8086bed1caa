use Rattle.std.proofs.Common.{◌≡◌, true, [], ◌∷◌, ap, sym, subst, ◌∙◌}
use Rattle.std.specs.Prelude.{Some}
use Rattle.rv_isa.specs.Kinds.{ends_block}
use Rattle.guest_model.specs.Areas.{all_permitted}
use Rattle.guest_model.specs.Machine.{Machine, following}
use Rattle.guest_model.specs.Range.{range}
use Rattle.guest_model.specs.Space.{write_number}
use Rattle.guest_model.specs.declared.Access.TheVariants.{Write}
use Rattle.guest_mem.specs.Frames.{HasAllFrames, TakesFrames}
use Rattle.rv_machine.specs.Guest.{GuestState}
use Rattle.rv_machine.proofs.Frames.{has_for_store, stores_at}
use Rattle.rv_machine.proofs.guest.Guest.store.Goals as goal

pub store-requires-clause-frames : goal.store-requires-clause-frames
store-requires-clause-frames c =
    subst (λ (g : GuestState). all_permitted Write g.machine.space.areas c.address-at.result c.mem_size.result ≡ true → HasAllFrames g.frames (range c.address-at.result c.mem_size.result ∷ []))
    (sym c.self.view_is)
    (has_for_store c.args.self.now c.args.i.now c.address-at.result c.mem_size.result c.address-at.ensures c.mem_size.ensures c.requires.frames)

pub returns-in-Ok : goal.returns-in-Ok
returns-in-Ok c =
    let s = c.store.new.self.space in
    stores_at c.args.self.now c.move_to.new.self c.args.i.now c.address-at.result c.mem_size.result c.rs2-value.result s
    c.address-at.ensures c.mem_size.ensures c.rs2-value.ensures
    (subst (λ (g : GuestState). write_number g.machine.space c.address-at.result c.mem_size.result c.rs2-value.result ≡ Some s) c.self.view_is c.in-Ok.ensures.space)
    (rw c.following.ensures at c.move_to.ensures.machine
    ∙ ap (λ (g : GuestState). let m : Machine = record g.machine { pc = following g.machine; space = s; fresh = ends_block c.args.i.now.op } in m) c.self.view_is)
    (rw c.move_to.ensures.frames
    (subst (λ (g : GuestState). TakesFrames g.frames c.store.new.self.frames (range c.address-at.result c.mem_size.result ∷ [])) c.self.view_is c.in-Ok.ensures.frames))
    (c.move_to.ensures.origin ∙ c.store.ensures.origin ∙ ap (λ (g : GuestState). g.origin) c.self.view_is)
