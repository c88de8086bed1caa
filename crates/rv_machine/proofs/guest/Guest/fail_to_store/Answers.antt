use Rattle.std.proofs.Common.{ap, sym, ◌∙◌}
use Rattle.guest_model.specs.Areas.{is_range_permitted}
use Rattle.guest_model.specs.declared.Access.TheVariants.{Write}
use Rattle.rv_machine.specs.Guest.{GuestState}
use Rattle.rv_machine.proofs.Frames.{denied_at, fails_at, word_permitted}
use Rattle.guest_model.specs.Effect.{rs2_value}
use Rattle.rv_machine.proofs.guest.Guest.fail_to_store.Goals as goal

pub returns-then-not-writable : goal.returns-then-not-writable
returns-then-not-writable c =
    denied_at c.args.self.now c.args.i.now c.args.at (rs2_value c.args.self.now.machine c.args.i.now)
    (sym (word_permitted c.args.self.now.machine c.args.i.now c.args.at c.requires.at c.requires.aligned)
    ∙ sym (ap (λ (g : GuestState). is_range_permitted Write g.machine.space.areas c.args.at 4) c.self.view_is) ∙ sym c.writable.ensures ∙ c.if-not-writable.true)

pub returns : goal.returns
returns c =
    fails_at c.args.self.now c.write_reserving.new.self c.args.i.now c.args.at (rs2_value c.args.self.now.machine c.args.i.now)
    (sym (word_permitted c.args.self.now.machine c.args.i.now c.args.at c.requires.at c.requires.aligned)
    ∙ sym (ap (λ (g : GuestState). is_range_permitted Write g.machine.space.areas c.args.at 4) c.self.view_is) ∙ sym c.writable.ensures ∙ c.if-not-writable.false)
    c.write_reserving.ensures.machine c.write_reserving.ensures.frames c.write_reserving.ensures.origin
