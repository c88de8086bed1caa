use Rattle.std.proofs.Common.{◌≡◌, ◌∙◌, ap, map, subst, sym}
use Rattle.std.specs.Prelude.{filter}
use Rattle.elf_load.specs.Image.{ImageFields, IsImage, is_executable}
use Rattle.ins_views.specs.Views.{ViewFields, IsViews, code_view, views_of}
use Rattle.ins_views.proofs.Shapes.{are_views}
use Rattle.ins_views.proofs.views.Views.new.Goals as goal

abbrev parts : ImageFields → ViewFields
parts image = record { code = map code_view (filter is_executable image.segments); routines = image.functions }

pub invariant_of-result : goal.invariant_of-result
unfolding views_of
invariant_of-result c =
    let made : ViewFields = record { code = c.in_ok-code.code.items; routines = c.in_ok-routines.routines.items } in
    let code = c.in_ok-code.ensures ∙ ap (λ segments. map code_view (filter is_executable segments)) c.deref.ensures.value in
    let routines = c.in_ok-routines.ensures ∙ c.deref-2.ensures.value in
    let same : made ≡ views_of c.args.image.now = ap (λ items. record made { code = items }) code ∙ ap (λ items. record { code = map code_view (filter is_executable c.image.inside.segments.items); routines = items }) routines ∙ ap parts c.image.view_is in
    subst IsViews (sym same) (are_views c.args.image.now (subst IsImage c.image.view_is c.image.invariant))

pub returns : goal.returns
unfolding views_of
returns c =
    let made : ViewFields = record { code = c.in_ok-code.code.items; routines = c.in_ok-routines.routines.items } in
    let code = c.in_ok-code.ensures ∙ ap (λ segments. map code_view (filter is_executable segments)) c.deref.ensures.value in
    let routines = c.in_ok-routines.ensures ∙ c.deref-2.ensures.value in
    ap (λ items. record made { code = items }) code ∙ ap (λ items. record { code = map code_view (filter is_executable c.image.inside.segments.items); routines = items }) routines ∙ ap parts c.image.view_is
