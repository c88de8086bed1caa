use Rattle.std.proofs.Common.{ap, ◌∙◌}
use Rattle.guest_model.specs.Bytes.{number_of}
use Rattle.guest_mem.proofs.Mapped.{byte_of_space, in_page}
use Rattle.guest_mem.proofs.Numbers.{number_of_zeros, bytes_in_page}
use Rattle.guest_mem.proofs.space.Space.number_in_page.Goals as goal

pub returns-in-None-clause-number : goal.returns-in-None-clause-number
returns-in-None-clause-number c =
    let holds = byte_of_space c.args.self.now.space _ _ _ _ (ap (λ m. m.space) c.self.view_is) c.self.invariant.sound.rest_zero in
    number_of_zeros c.args.self.now.space.bytes _ c.args.at c.args.size c.requires.size holds c.ranges.at.fits c.requires.within (rw (in_page c.args.at) at c.in-None.ensures)

pub returns-in-Some-clause-number : goal.returns-in-Some-clause-number
returns-in-Some-clause-number c =
    let holds = byte_of_space c.args.self.now.space _ _ _ _ (ap (λ m. m.space) c.self.view_is) c.self.invariant.sound.rest_zero in
    c.number_of.ensures.number ∙ ap number_of (bytes_in_page c.args.self.now.space.bytes _ c.args.at c.args.size _ holds c.ranges.at.fits c.requires.within c.in-Some.ensures.0 (rw (in_page c.args.at) at c.in-Some.ensures.1))
