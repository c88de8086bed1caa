use Rattle.std.proofs.Common.{◌≡◌, ◌<◌, ◌≤◌, ◌∙◌, ap, length, arith}
use Rattle.std.specs.List.{insert, position_or_len}
use Rattle.guest_model.specs.Added.{comes_before, mapped_pages}
use Rattle.guest_model.specs.declared.platform.TheConstants.{MAPS_START}
use Rattle.cow_pages.proofs.MarkLists.{none_marked}
use Rattle.cow_pages.specs.Marks.{count_marked}
use Rattle.guest_mem.proofs.Added.{IsAdded, IsWithin, sound_added, space_added, zeros_before}
use Rattle.guest_mem.proofs.Kept.{kept_with}
use Rattle.guest_mem.proofs.Mapped.{in_page}
use Rattle.guest_mem.proofs.Placed.{IsNew, added_new}
use Rattle.guest_mem.proofs.space.Space.add_area.Goals as goal

added : (c : goal.After-fill) → IsAdded c.args.area c.self.inside.areas.items (insert c.self.inside.areas.items c.place_of-place.result c.args.area) c.self.inside.heap_break c.self.inside.next_map c.self.inside.heap_break c.self.inside.next_map
added c =
    let new : IsNew c.args.area c.self.inside.areas.items c.self.inside.heap_break = record {
      whole = record { start = c.requires.start; end = c.requires.end; order = c.requires.order; fits = omega arith };
      apart = rw (ap (λ m. m.space.areas) c.self.view_is) c.requires.apart;
      place = rw (ap (λ m. m.space.heap_break) c.self.view_is) c.requires.place;
      few = omega (arith, c.requires.pages, ap (λ m. mapped_pages m.space.areas) c.self.view_is);
    } in
    let before : c.args.area.end ≤ MAPS_START → c.place_of-place.result < c.behind_heap-behind.result = λ le. grind (arith, c.else-area-le-MAPS_START.either) in
    added_new c.args.area c.self.inside.areas.items c.self.inside.rights c.self.inside.pages _ _ c.place_of-place.result c.behind_heap-behind.result c.self.invariant.sound new
    (rw c.deref-2.ensures.0 at c.behind_heap-behind.ensures.last) (omega (arith, c.behind_heap-behind.ensures.within, ap length c.deref-2.ensures.0)) before

pub place-requires-clause-unwritten : goal.place-requires-clause-unwritten
place-requires-clause-unwritten c = ap (λ m. count_marked m.frames.written) c.self.view_is ∙ c.requires.unwritten

pub place-requires-clause-zeros : goal.place-requires-clause-zeros
place-requires-clause-zeros c =
    zeros_before c.args.area c.self.inside.areas.items c.self.inside.pages.flat_bytes c.args.at (length c.args.bytes.now)
    (record { start = c.requires.start; end = c.requires.end; order = c.requires.order; fits = omega arith })
    (rw (ap (λ m. m.space.areas) c.self.view_is) c.requires.apart) (record { from = c.requires.from; within = c.requires.within }) c.self.invariant.sound.rest_zero

pub invariant_of-self-2 : goal.invariant_of-self-2
invariant_of-self-2 c =
    let unwritten = ap (λ m. count_marked m.frames.written) c.self.view_is ∙ c.requires.unwritten in
    let inside : IsWithin c.args.area c.args.at (length c.args.bytes.now) = record { from = c.requires.from; within = c.requires.within } in
    rw (c.insert.ensures.items, c.in_ok-code.ensures) (record {
      sound =
          sound_added c.args.area c.self.inside.areas.items _ c.self.inside.rights _ c.self.inside.pages _ _ _ _ _ c.args.at c.args.bytes.now c.of.result
          c.self.invariant.sound (added c) inside (λ page _. none_marked c.self.inside.pages.frames.written unwritten page)
          (rw (in_page c.args.at) at c.in_ok-place.ensures.bytes) c.in_ok-place.ensures.len c.place.ensures.frames c.of.ensures c.fill.ensures;
      code =
          kept_with c.args.area c.self.inside.areas.items _ c.self.inside.pages.flat_bytes _ _ _ _ _ c.args.at c.args.bytes.now c.self.inside.code
          (added c) inside (rw (in_page c.args.at) at c.in_ok-place.ensures.bytes) c.self.invariant.code;
    })

pub returns-clause-space : goal.returns-clause-space
returns-clause-space c =
    let place : c.place_of-place.result ≡ position_or_len (comes_before c.args.area) c.self.inside.areas.items = c.place_of-place.ensures.place ∙ ap (position_or_len (comes_before c.args.area)) c.deref.ensures.0 in
    rw c.insert.ensures.items
    (space_added c.args.self.now.space c.args.area c.self.inside.areas.items c.self.inside.pages.flat_bytes _ _ _ _ _ c.place_of-place.result c.args.at c.args.bytes.now
    (ap (λ m. m.space) c.self.view_is) place c.self.invariant.sound.rest_zero (added c) (record { from = c.requires.from; within = c.requires.within }) (rw (in_page c.args.at) at c.in_ok-place.ensures.bytes))
