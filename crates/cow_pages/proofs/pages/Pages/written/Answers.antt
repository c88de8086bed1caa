use Rattle.std.proofs.Common.{ap, refl, arith}
use Rattle.slot_table.specs.Slots.{is_framed, is_written}
use Rattle.cow_pages.proofs.SlotMarks.{count-wider, framed_is_written}
use Rattle.cow_pages.proofs.pages.Pages.written.Goals as goal

pub returns-clause-enough : goal.returns-clause-enough
returns-clause-enough c =
    let wider = count-wider is_framed is_written c.self.inside.slots refl refl framed_is_written in
    let free = ap (λ v. v.frames.free) c.self.view_is in
    let count = ap (λ v. v.frames.count) c.self.view_is in
    omega (arith, c.self.invariant.laid.adds_up, c.self.invariant.written_is)
