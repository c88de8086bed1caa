use Rattle.std.proofs.Common.{◌/◌, ◌∙◌, ap, get_or, sym, false, refl}
use Rattle.std.specs.Arc.{arc_value}
use Rattle.cow_pages.specs.Laid.{byte_in, table_byte}
use Rattle.cow_pages.proofs.Agree.{same-everywhere, same-at}
use Rattle.cow_pages.proofs.pages.Pages.same_as.Goals as goal

pub returns-then-same_listed : goal.returns-then-same_listed
returns-then-same_listed c =
    let slots = c.self.inside.slots in (
      λ h. same-everywhere c.self.inside.slots c.self.inside.pool.bytes (arc_value c.self.inside.base) (arc_value c.self.inside.origin) (arc_value c.end.inside.table) c.end.inside.changed.items
          c.args.self.now.flat_bytes c.args.end.now.bytes c.args.base.now.bytes
          (ap (λ v. v.flat_bytes) c.self.view_is) (ap (λ v. v.bytes) c.end.view_is) (ap (λ v. v.origin) c.self.view_is ∙ c.requires.base)
          c.self.invariant.since
          (λ q no. c.requires.end q (sym (ap (λ v. get_or v.changed (q / 4096) false) c.end.view_is) ∙ no))
          (λ a lt is none. sym (ap (λ t. byte_in c.self.inside.slots c.self.inside.pool.bytes t a) c.deref.ensures) ∙ c.if-same_listed.ensures.0 refl a lt is none ∙ ap (λ t. table_byte t a) c.deref-2.ensures)
          (λ a lt is. sym (ap (λ t. byte_in c.self.inside.slots c.self.inside.pool.bytes t a) c.deref-then-same_listed.ensures) ∙ c.same_changed.ensures.0 h a lt is ∙ ap (λ t. table_byte t a) c.deref-then-same_listed-2.ensures),
      λ h. c.same_changed.ensures.1 (λ a lt _.
          ap (λ t. byte_in c.self.inside.slots c.self.inside.pool.bytes t a) c.deref-then-same_listed.ensures
          ∙ same-at (byte_in c.self.inside.slots c.self.inside.pool.bytes (arc_value c.self.inside.base)) (table_byte (arc_value c.end.inside.table)) c.args.self.now.flat_bytes c.args.end.now.bytes (ap (λ v. v.flat_bytes) c.self.view_is) (ap (λ v. v.bytes) c.end.view_is) h a lt
          ∙ sym (ap (λ t. table_byte t a) c.deref-then-same_listed-2.ensures)),
    )
