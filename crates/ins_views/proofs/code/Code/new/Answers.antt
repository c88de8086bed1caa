use Rattle.std.proofs.Common.{◌≡◌, ◌∙◌, ap, subst, sym}
use Rattle.elf_load.specs.Image.{SegmentFields}
use Rattle.ins_views.specs.Views.{CodeFields, IsCode, code_view, words_of}
use Rattle.ins_views.proofs.Shapes.{is_code}
use Rattle.ins_views.proofs.code.Code.new.Goals as goal

pub invariant_of-result : goal.invariant_of-result
invariant_of-result c =
    let s = c.segment.inside in
    let made : CodeFields = record { start = s.start; size = s.size; words = c.in_ok-words.words.items } in
    let same : made ≡ code_view c.args.segment.now = ap (λ words. record made { words = words }) c.in_ok-words.ensures ∙ ap (λ (v : SegmentFields). record { start = v.start; size = v.size; words = words_of c.args.segment.now }) c.segment.view_is in
    subst IsCode (sym same) (is_code c.args.segment.now c.requires)

pub returns : goal.returns
returns c =
    let s = c.segment.inside in
    let made : CodeFields = record { start = s.start; size = s.size; words = c.in_ok-words.words.items } in
    ap (λ words. record made { words = words }) c.in_ok-words.ensures ∙ ap (λ (v : SegmentFields). record { start = v.start; size = v.size; words = words_of c.args.segment.now }) c.segment.view_is
