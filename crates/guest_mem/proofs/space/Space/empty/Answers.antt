use Rattle.std.proofs.Common.{ap}
use Rattle.cow_pages.specs.Contents.{Contents}
use Rattle.guest_mem.proofs.Freezing.{origin_begun}
use Rattle.guest_mem.proofs.Kept.{none_kept}
use Rattle.guest_mem.proofs.Begun.{sound_empty, empty_over}
use Rattle.guest_mem.proofs.space.Space.empty.Goals as goal

pub invariant_of-result : goal.invariant_of-result
invariant_of-result c =
    rw (c.push.ensures.items, c.new-areas.ensures, c.in_ok-none.ensures)
    (record { sound = sound_empty c.args.heap _ _ c.requires.page c.requires.high c.in_ok-rights.ensures c.args.frames c.in_ok-pages.ensures.pages c.in_ok-pages.ensures.adds_up; code = none_kept _ _ })

pub returns-clause-space : goal.returns-clause-space
returns-clause-space c = rw (c.push.ensures.items, c.new-areas.ensures) (empty_over c.args.heap c.in_ok-pages.pages.flat_bytes)

pub returns-clause-frames : goal.returns-clause-frames
returns-clause-frames c = ap (λ (p : Contents). p.frames) c.in_ok-pages.ensures.pages

pub returns-clause-origin : goal.returns-clause-origin
returns-clause-origin c = origin_begun _ c.in_ok-pages.pages c.args.heap 0x40000000 c.args.frames c.in_ok-pages.ensures.pages

pub returns-clause-changed : goal.returns-clause-changed
returns-clause-changed c = ap (λ (p : Contents). p.changed) c.in_ok-pages.ensures.pages
