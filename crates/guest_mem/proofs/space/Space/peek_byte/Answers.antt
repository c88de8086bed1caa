use Rattle.std.proofs.Common.{◌∙◌, sym, ap, get_or}
use Rattle.guest_model.specs.Bytes.{byte_at}
use Rattle.guest_mem.proofs.Mapped.{byte_at-of_areas, in_page}
use Rattle.guest_mem.proofs.space.Space.peek_byte.Goals as goal

pub returns : goal.returns
returns c = c.read.ensures ∙ ap (λ a. get_or c.self.inside.pages.flat_bytes a 0) (in_page c.args.at) ∙ sym (byte_at-of_areas c.self.inside.areas.items _ c.self.invariant.sound.rest_zero c.args.at) ∙ ap (λ m. byte_at m.space.bytes c.args.at) c.self.view_is
