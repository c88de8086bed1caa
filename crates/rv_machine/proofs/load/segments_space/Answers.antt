use Rattle.std.proofs.Common.{◌+◌, List, length, get_or, ap, subst, ◌∙◌, arith}
use Rattle.elf_load.specs.Image.{IsImage, ImageFields, SegmentFields}
use Rattle.rv_machine.specs.Load.{first_break}
use Rattle.guest_mem.proofs.Begun.{none_written}
use Rattle.rv_machine.proofs.Segments.{IsPlaced, break_is_page, break_at_least, break_at_most, placed, space_whole}
use Rattle.rv_machine.proofs.load.segments_space.Goals as goal

pub empty-requires-clause-page : goal.empty-requires-clause-page
empty-requires-clause-page c = omega (arith, c.first_break.ensures, break_is_page c.deref.result.now)

pub empty-requires-clause-low : goal.empty-requires-clause-low
empty-requires-clause-low c =
    let known = c.image.invariant in
    omega (arith, c.first_break.ensures, ap first_break c.deref.ensures.value, break_at_least c.image.inside.segments.items c.image.inside.entry (c.image.inside.entry + 4) known.segments known.entry)

pub empty-requires-clause-high : goal.empty-requires-clause-high
empty-requires-clause-high c =
    let known = c.image.invariant in
    omega (arith, c.first_break.ensures, ap first_break c.deref.ensures.value, break_at_most c.image.inside.segments.items known.segments)

is_placed : (c : goal.After-deref-in-loop-segment) → IsPlaced c.area_of.result c.loop-segment.memory.space
is_placed c =
    let same = c.deref-segment-items.ensures.value ∙ ap (λ (image : ImageFields). image.segments) c.image.view_is in
    placed c.args.image.now c.loop-segment.segment-index c.segment-item.result c.area_of.result c.loop-segment.memory.space (subst IsImage c.image.view_is c.image.invariant)
    (omega (arith, c.loop-segment-test.true, ap (length {A = SegmentFields}) same))
    (c.segment-item.is ∙ ap (λ (xs : List SegmentFields). get_or xs c.loop-segment.segment-index c.segment-item.result) same)
    c.area_of.ensures c.loop-segment.invariant.space_is

pub add_area-requires-clause-apart : goal.add_area-requires-clause-apart
add_area-requires-clause-apart c = let known = is_placed c in known.apart

pub add_area-requires-clause-place : goal.add_area-requires-clause-place
add_area-requires-clause-place c = let known = is_placed c in known.place

pub add_area-requires-clause-areas : goal.add_area-requires-clause-areas
add_area-requires-clause-areas c = let known = is_placed c in known.areas

pub add_area-requires-clause-pages : goal.add_area-requires-clause-pages
add_area-requires-clause-pages c = let known = is_placed c in known.pages

pub returns-clause-space : goal.returns-clause-space
returns-clause-space c =
    let same = c.deref-segment-items.ensures.value ∙ ap (λ (image : ImageFields). image.segments) c.image.view_is in
    c.loop-segment.invariant.space_is ∙ space_whole c.args.image.now.segments c.loop-segment.segment-index (omega (arith, c.loop-segment-test.false, ap (length {A = SegmentFields}) same))

pub add_area-requires-clause-unwritten : goal.add_area-requires-clause-unwritten
add_area-requires-clause-unwritten c = none_written c.loop-segment.memory.frames c.args.frames c.loop-segment.invariant.free
