use Rattle.std.proofs.Common.{◌≡◌, ℕ, ◌/◌, ◌<◌, ◌∙◌, Bool, ap, cond, false, true, get_or, length, refl, sym, arith}
use Rattle.std.proofs.Math.ListN.{set}
use Rattle.slot_table.specs.Slots.{is_changed, is_framed, is_written, marks_by, slot_at}
use Rattle.cow_pages.proofs.MarkLists.{count_marked-le}
use Rattle.cow_pages.proofs.SlotMarks.{count-marking, framed_is_changed, framed_is_written, get_or-marks_by, length-marks_by, has-mark, marks-set, unchanged_before}
use Rattle.cow_pages.proofs.pages.Pages.claim.Goals as goal

pub overflow_add-self : goal.overflow_add-self
overflow_add-self c =
    let count = count-marking is_written c.self.inside.slots c.lay_frame.new.slots c.args.page _ refl c.lay_frame.ensures.slots (omega (arith, c.requires.page, c.self.invariant.laid.len)) (framed_is_written _ c.lay_frame.ensures.framed) in
    let le = count_marked-le (marks_by is_written c.lay_frame.new.slots) in
    let len = length-marks_by is_written c.lay_frame.new.slots in
    omega (arith, c.self.invariant.written_is, c.lay_frame.ensures.more, c.lay_frame.ensures.laid.len)

pub invariant_of-self : goal.invariant_of-self
invariant_of-self c =
    let in_slots : c.args.page < length c.self.inside.slots = omega (arith, c.requires.page, c.self.invariant.laid.len) in
    let count = count-marking is_written c.self.inside.slots c.lay_frame.new.slots c.args.page _ refl c.lay_frame.ensures.slots in_slots (framed_is_written _ c.lay_frame.ensures.framed) in
    record {
      laid = c.lay_frame.ensures.laid;
      since = λ a lt none. c.self.invariant.since a lt (unchanged_before c.self.inside.slots c.args.page _ (a / 4096) in_slots (framed_is_changed _ c.lay_frame.ensures.framed) (ap (λ s. is_changed (slot_at s (a / 4096))) (sym c.lay_frame.ensures.slots) ∙ none));
      written_is = omega (arith, c.self.invariant.written_is, c.lay_frame.ensures.more);
    }

pub returns-then-not-has_frame-clause-changed : goal.returns-then-not-has_frame-clause-changed
returns-then-not-has_frame-clause-changed c = marks-set is_changed c.self.inside.slots c.lay_frame.new.slots c.args.page _ true c.lay_frame.ensures.slots (framed_is_changed _ c.lay_frame.ensures.framed) ∙ ap (λ v. set v.changed c.args.page true) c.self.view_is

pub returns-then-not-has_frame-clause-frames : goal.returns-then-not-has_frame-clause-frames
returns-then-not-has_frame-clause-frames c =
    let none : get_or c.args.self.now.frames.framed c.args.page false ≡ false = ap (λ v. get_or v.frames.framed c.args.page false) (sym c.self.view_is) ∙ get_or-marks_by is_framed c.self.inside.slots c.args.page refl ∙ sym c.if-not-has_frame.ensures in
    let one : cond {A = ℕ} (get_or c.args.self.now.frames.framed c.args.page false) 0 1 ≡ 1 = ap (λ (b : Bool). cond {A = ℕ} b 0 1) none in
    let free = ap (λ v. v.frames.free) c.self.view_is in
    record {
      framed = marks-set is_framed c.self.inside.slots c.lay_frame.new.slots c.args.page _ true c.lay_frame.ensures.slots c.lay_frame.ensures.framed ∙ ap (λ v. set v.frames.framed c.args.page true) c.self.view_is;
      written = marks-set is_written c.self.inside.slots c.lay_frame.new.slots c.args.page _ true c.lay_frame.ensures.slots (framed_is_written _ c.lay_frame.ensures.framed) ∙ ap (λ v. set v.frames.written c.args.page true) c.self.view_is;
      free = omega (arith, one, free, c.lay_frame.ensures.free);
      count = c.lay_frame.ensures.count ∙ ap (λ v. v.frames.count) c.self.view_is;
    }

pub returns-else-not-has_frame-clause-changed : goal.returns-else-not-has_frame-clause-changed
returns-else-not-has_frame-clause-changed c = has-mark is_changed c.self.inside.slots c.args.self.now.changed c.args.page refl (ap (λ v. v.changed) c.self.view_is) (framed_is_changed _ (sym c.if-not-has_frame.ensures))

pub returns-else-not-has_frame-clause-frames : goal.returns-else-not-has_frame-clause-frames
returns-else-not-has_frame-clause-frames c =
    let framed : is_framed (slot_at c.self.inside.slots c.args.page) ≡ true = sym c.if-not-has_frame.ensures in
    let mark : get_or c.args.self.now.frames.framed c.args.page false ≡ true = ap (λ v. get_or v.frames.framed c.args.page false) (sym c.self.view_is) ∙ get_or-marks_by is_framed c.self.inside.slots c.args.page refl ∙ framed in
    let zero : cond {A = ℕ} (get_or c.args.self.now.frames.framed c.args.page false) 0 1 ≡ 0 = ap (λ (b : Bool). cond {A = ℕ} b 0 1) mark in
    record {
      framed = has-mark is_framed c.self.inside.slots c.args.self.now.frames.framed c.args.page refl (ap (λ v. v.frames.framed) c.self.view_is) framed;
      written = has-mark is_written c.self.inside.slots c.args.self.now.frames.written c.args.page refl (ap (λ v. v.frames.written) c.self.view_is) (framed_is_written _ framed);
      free = omega (arith, zero);
      count = refl;
    }

pub returns-then-not-has_frame-clause-framed : goal.returns-then-not-has_frame-clause-framed
returns-then-not-has_frame-clause-framed c = get_or-marks_by is_framed c.lay_frame.new.slots c.args.page refl ∙ c.lay_frame.ensures.framed

pub returns-else-not-has_frame-clause-framed : goal.returns-else-not-has_frame-clause-framed
returns-else-not-has_frame-clause-framed c = ap (λ v. get_or v.frames.framed c.args.page false) (sym c.self.view_is) ∙ get_or-marks_by is_framed c.self.inside.slots c.args.page refl ∙ sym c.if-not-has_frame.ensures
