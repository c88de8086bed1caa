use Rattle.std.proofs.Common.{◌≡◌, ℕ, ◌+◌, ◌/◌, ◌<◌, ◌∙◌, Bool, ap, cond, false, true, get_or, length, refl, sym, arith}
use Rattle.std.proofs.Math.ListN.{set}
use Rattle.std.specs.Arc.{arc_value}
use Rattle.slot_table.specs.Slots.{is_changed, is_framed, is_written, slot_at}
use Rattle.cow_pages.specs.Laid.{byte_in}
use Rattle.cow_pages.specs.Marks.{count_marked}
use Rattle.cow_pages.proofs.Laid.{emptied-bytes}
use Rattle.cow_pages.proofs.Rules.{flat-cleared}
use Rattle.cow_pages.proofs.SlotMarks.{get_or-marks_by, marks-set, marks-stay, unchanged_before}
use Rattle.cow_pages.proofs.pages.Pages.drop_page.Goals as goal

pub invariant_of-self : goal.invariant_of-self
invariant_of-self c =
    let in_slots : c.args.page < length c.self.inside.slots = omega (arith, c.requires, c.self.invariant.laid.len) in
    record {
      laid = c.empty_page.ensures.laid;
      since = λ a lt none. c.self.invariant.since a lt (unchanged_before c.self.inside.slots c.args.page _ (a / 4096) in_slots refl (ap (λ s. is_changed (slot_at s (a / 4096))) (sym c.empty_page.ensures.slots) ∙ none));
      written_is = c.self.invariant.written_is ∙ sym (ap count_marked (marks-stay is_written c.self.inside.slots c.empty_page.new.slots c.args.page _ refl c.empty_page.ensures.slots refl));
    }

pub returns-clause-bytes : goal.returns-clause-bytes
returns-clause-bytes c =
    let in_slots : c.args.page < length c.self.inside.slots = omega (arith, c.requires, c.self.invariant.laid.len) in
    flat-cleared (byte_in c.self.inside.slots c.self.inside.pool.bytes (arc_value c.self.inside.base)) (byte_in c.empty_page.new.slots c.empty_page.new.pool.bytes (arc_value c.self.inside.base)) c.args.self.now.flat_bytes c.args.page (ap (λ v. v.flat_bytes) c.self.view_is)
    (λ q. ap (λ l. byte_in c.empty_page.new.slots l (arc_value c.self.inside.base) q) c.empty_page.ensures.bytes
    ∙ emptied-bytes c.self.inside.slots c.empty_page.new.slots c.self.inside.pool.bytes (arc_value c.self.inside.base) c.args.page _ in_slots c.empty_page.ensures.slots q)

pub returns-clause-changed : goal.returns-clause-changed
returns-clause-changed c = marks-set is_changed c.self.inside.slots c.empty_page.new.slots c.args.page _ true c.empty_page.ensures.slots refl ∙ ap (λ v. set v.changed c.args.page true) c.self.view_is

pub returns-clause-frames : goal.returns-clause-frames
returns-clause-frames c =
    let mark : is_framed (slot_at c.self.inside.slots c.args.page) ≡ get_or c.args.self.now.frames.framed c.args.page false = sym (get_or-marks_by is_framed c.self.inside.slots c.args.page refl) ∙ ap (λ v. get_or v.frames.framed c.args.page false) c.self.view_is in
    record {
      framed = marks-set is_framed c.self.inside.slots c.empty_page.new.slots c.args.page _ false c.empty_page.ensures.slots refl ∙ ap (λ v. set v.frames.framed c.args.page false) c.self.view_is;
      written = marks-stay is_written c.self.inside.slots c.empty_page.new.slots c.args.page _ refl c.empty_page.ensures.slots refl ∙ ap (λ v. v.frames.written) c.self.view_is;
      free = c.empty_page.ensures.free ∙ ap (λ v. v.frames.free + cond (is_framed (slot_at c.self.inside.slots c.args.page)) 1 0) c.self.view_is ∙ ap (λ (b : Bool). c.args.self.now.frames.free + cond {A = ℕ} b 1 0) mark;
      count = c.empty_page.ensures.count ∙ ap (λ v. v.frames.count) c.self.view_is;
    }
