use Rattle.std.proofs.Common.{◌+◌, ◌*◌, ◌<◌, ◌^◌, ◌∙◌, ap, get_or, sym, arith}
use Rattle.std.specs.Arc.{arc_value}
use Rattle.cow_pages.specs.Laid.{byte_in}
use Rattle.cow_pages.proofs.Flat.{get_or-flat}
use Rattle.cow_pages.proofs.pages.Pages.page.Goals as goal

pub returns-in-Some : goal.returns-in-Some
returns-in-Some c = (
  c.in-Some.ensures.0,
  λ i lt.
      let at : 4096 * c.args.page + i < 2 ^ 32 = omega (arith, c.requires) in
      c.in-Some.ensures.1 i lt
      ∙ ap (λ t. byte_in c.self.inside.slots c.self.inside.pool.bytes t (4096 * c.args.page + i)) c.deref.ensures
      ∙ sym (get_or-flat (byte_in c.self.inside.slots c.self.inside.pool.bytes (arc_value c.self.inside.base)) (4096 * c.args.page + i) at)
      ∙ ap (λ v. get_or v.flat_bytes (4096 * c.args.page + i) 0) c.self.view_is,
)

pub returns-in-None : goal.returns-in-None
returns-in-None c = λ i lt.
    let at : 4096 * c.args.page + i < 2 ^ 32 = omega (arith, c.requires) in
    sym (ap (λ v. get_or v.flat_bytes (4096 * c.args.page + i) 0) c.self.view_is)
    ∙ get_or-flat (byte_in c.self.inside.slots c.self.inside.pool.bytes (arc_value c.self.inside.base)) (4096 * c.args.page + i) at
    ∙ sym (ap (λ t. byte_in c.self.inside.slots c.self.inside.pool.bytes t (4096 * c.args.page + i)) c.deref.ensures)
    ∙ c.in-None.ensures i lt
