use Rattle.std.proofs.Common.{◌≡◌, ◌-◌, ◌/◌, ◌<◌, ◌^◌, ◌∙◌, ap, cond, get_or, length, refl, sym, arith}
use Rattle.std.specs.Arc.{arc_value}
use Rattle.frame_pool.specs.Bytes.{is_among}
use Rattle.slot_table.specs.declared.slot.Slot.TheVariants.{Placed}
use Rattle.slot_table.specs.Slots.{is_framed, is_written, slot_at}
use Rattle.cow_pages.specs.Contents.{page_count}
use Rattle.cow_pages.specs.Laid.{byte_in, table_byte}
use Rattle.cow_pages.specs.Marks.{count_marked}
use Rattle.cow_pages.proofs.Flat.{get_or-flat}
use Rattle.cow_pages.proofs.Placed.{PlacedTo, among_tells, page-inside}
use Rattle.cow_pages.proofs.Put.{Put, unwritten-slots, put-laid, put-marks, put-changed, put-since, put-bytes, placed-other}
use Rattle.cow_pages.proofs.Rules.{flat-put}
use Rattle.cow_pages.proofs.SlotMarks.{unwritten_is_unframed}
use Rattle.cow_pages.proofs.pages.Pages.place_from.Goals as goal

put : (c : goal.After-mark_placed) → Put c.self.inside.slots c.mark_placed.new.slots (c.args.from / 4096) (page_count c.args.from (length c.args.bytes.now))
put c = record {
  len = c.mark_placed.ensures.len ∙ sym c.self.invariant.laid.len;
  unwritten = unwritten-slots c.self.inside.slots (ap (λ v. count_marked v.frames.written) c.self.view_is ∙ c.requires.unwritten);
  new_is = λ q.
      let n : c.end_page.result - c.args.from / 4096 ≡ page_count c.args.from (length c.args.bytes.now) = omega (arith, c.end_page.ensures.page) in
      c.mark_placed.ensures.slots q ∙ ap (λ k. cond (is_among (c.args.from / 4096) k q) Placed (slot_at c.self.inside.slots q)) n;
}

placed : (c : goal.After-mark_placed) → PlacedTo (arc_value c.self.inside.base) (arc_value c.in_ok-self-inside.field-0) c.args.bytes.now c.args.from (length c.args.bytes.now)
placed c a =
    ap (λ t. table_byte t a) c.in_ok-self-inside.ensures.ok ∙ c.in_ok-table.ensures a
    ∙ ap (λ t. cond (is_among c.args.from (length c.args.bytes.now) a) (get_or c.args.bytes.now (a - c.args.from) 0) (cond (is_among (c.args.from / 4096) (page_count c.args.from (length c.args.bytes.now)) (a / 4096)) 0 (table_byte t a))) c.deref.ensures

pub invariant_of-self : goal.invariant_of-self
invariant_of-self c = record {
  laid = put-laid c.self.inside.slots c.mark_placed.new.slots c.self.inside.pool _ _ c.self.invariant.laid (put c);
  since = λ a lt none.
      let s = put-since c.self.inside.slots c.mark_placed.new.slots _ _ (a / 4096) (put c) none in
      placed-other _ _ c.args.bytes.now c.args.from a (placed c) (page-inside c.args.from (length c.args.bytes.now) a) s.0 ∙ c.self.invariant.since a lt s.1;
  written_is = c.self.invariant.written_is ∙ sym (ap count_marked (put-marks is_written c.self.inside.slots c.mark_placed.new.slots _ _ refl refl (λ s h. h) (put c)));
}

pub returns-clause-bytes : goal.returns-clause-bytes
returns-clause-bytes c =
    flat-put (byte_in c.self.inside.slots c.self.inside.pool.bytes (arc_value c.self.inside.base)) (byte_in c.mark_placed.new.slots c.self.inside.pool.bytes (arc_value c.in_ok-self-inside.field-0)) c.args.self.now.flat_bytes c.args.bytes.now c.args.from
    (ap (λ v. v.flat_bytes) c.self.view_is) c.requires.end
    (λ q. put-bytes c.self.inside.slots c.mark_placed.new.slots c.self.inside.pool.bytes (arc_value c.self.inside.base) (arc_value c.in_ok-self-inside.field-0) c.args.bytes.now c.args.from q
    (put c) (placed c) (page-inside c.args.from (length c.args.bytes.now) q)
    (λ h.
    let there = among_tells (c.args.from / 4096) (page_count c.args.from (length c.args.bytes.now)) (q / 4096) h in
    let lt : q < 2 ^ 32 = omega (arith, there.1, c.end_page.ensures.page, c.end_page.ensures.below) in
    sym (get_or-flat (byte_in c.self.inside.slots c.self.inside.pool.bytes (arc_value c.self.inside.base)) q lt) ∙ ap (λ v. get_or v.flat_bytes q 0) c.self.view_is ∙ c.requires.zeros q h))

pub returns-clause-changed : goal.returns-clause-changed
returns-clause-changed c = λ p. put-changed c.self.inside.slots c.mark_placed.new.slots c.args.self.now.changed _ _ p (ap (λ v. v.changed) c.self.view_is) (put c)

pub returns-clause-frames : goal.returns-clause-frames
returns-clause-frames c =
    let framed_is = put-marks is_framed c.self.inside.slots c.mark_placed.new.slots _ _ refl refl unwritten_is_unframed (put c) in
    let written_is = put-marks is_written c.self.inside.slots c.mark_placed.new.slots _ _ refl refl (λ s h. h) (put c) in
    let was = ap (λ v. v.frames) c.self.view_is in
    cc
