use Rattle.std.proofs.Common.{◌+◌, ◌*◌, ◌∙◌, ap, false, get_or, refl, sym, arith}
use Rattle.std.specs.Arc.{arc_value}
use Rattle.slot_table.specs.Slots.{is_framed, slot_at}
use Rattle.cow_pages.specs.Laid.{byte_in}
use Rattle.cow_pages.proofs.Laid.{written-bytes}
use Rattle.cow_pages.proofs.Rules.{flat-put}
use Rattle.cow_pages.proofs.SlotMarks.{framed_is, get_or-marks_by}
use Rattle.cow_pages.proofs.pages.Pages.write.Goals as goal

pub write-requires-clause-framed : goal.write-requires-clause-framed
write-requires-clause-framed c = sym (get_or-marks_by is_framed c.self.inside.slots c.args.page refl) ∙ ap (λ v. get_or v.frames.framed c.args.page false) c.self.view_is ∙ c.claim.ensures.framed

pub returns-clause-bytes : goal.returns-clause-bytes
returns-clause-bytes c =
    let there = framed_is (slot_at c.self.inside.slots c.args.page) (sym (get_or-marks_by is_framed c.self.inside.slots c.args.page refl) ∙ ap (λ v. get_or v.frames.framed c.args.page false) c.self.view_is ∙ c.claim.ensures.framed) in
    flat-put (byte_in c.self.inside.slots c.self.inside.pool.bytes (arc_value c.self.inside.base)) (byte_in c.self.inside.slots c.write.new.pool.bytes (arc_value c.self.inside.base)) c.args.self.now.flat_bytes c.args.bytes.now (4096 * c.args.page + c.args.at)
    (ap (λ v. v.flat_bytes) c.self.view_is ∙ c.claim.ensures.bytes) (omega (arith, c.requires.page, c.requires.range))
    (written-bytes c.self.inside.slots c.self.inside.pool.bytes c.write.new.pool.bytes c.args.bytes.now (arc_value c.self.inside.base) c.self.inside.pool c.args.page c.args.at there.0 c.self.invariant.laid there.1 c.requires.range (c.write.ensures.bytes there.0 there.1))
