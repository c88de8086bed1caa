use Rattle.std.proofs.Common.{◌≡◌, ◌*◌, ◌/◌, get_or, ◌∙◌, sym, ap, arith}
use Rattle.guest_model.specs.Areas.{is_permitted}
use Rattle.guest_mem.specs.Sound.{allows, no_rights}
use Rattle.guest_mem.proofs.Permitted.{permitted_by_table, permitted_below}
use Rattle.guest_mem.proofs.space.Space.allows_page.Goals as goal

pub returns-clause-permitted : goal.returns-clause-permitted
returns-clause-permitted c = λ q e.
    let areas = ap (λ m. m.space.areas) c.self.view_is in
    c.allows.ensures
    ∙ ap (λ p. allows c.args.access (get_or c.self.inside.rights p no_rights)) (sym e)
    ∙ permitted_by_table c.args.access _ _ q c.self.invariant.sound.whole c.self.invariant.sound.table (omega arith)
    ∙ ap (λ xs. is_permitted c.args.access xs q) areas

pub returns-clause-below : goal.returns-clause-below
returns-clause-below c = λ h.
    let page : 4096 * c.args.page / 4096 ≡ c.args.page = omega arith in
    let permitted = sym (permitted_by_table c.args.access c.self.inside.areas.items c.self.inside.rights (4096 * c.args.page) c.self.invariant.sound.whole c.self.invariant.sound.table (omega arith))
    ∙ ap (λ p. allows c.args.access (get_or c.self.inside.rights p no_rights)) page ∙ sym c.allows.ensures ∙ h in
    omega (arith, permitted_below c.args.access c.self.inside.areas.items (4096 * c.args.page) c.self.invariant.sound.whole permitted)
