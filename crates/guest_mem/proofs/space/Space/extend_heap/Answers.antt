use Rattle.std.proofs.Common.{◌+◌, ◌-◌, ◌/◌, ◌≤◌, ap, [], false, get_or, refl, sym, arith}
use Rattle.std.specs.List.{IsAfterLastMatch}
use Rattle.guest_model.specs.Added.{mapped_pages}
use Rattle.guest_model.specs.Areas.{rounded_up}
use Rattle.guest_model.specs.Maps.{ends_low}
use Rattle.guest_model.specs.declared.Area.{Area}
use Rattle.guest_mem.proofs.Added.{sound_added}
use Rattle.guest_mem.proofs.Growing.{gained, heap_seen, grown_added, gained_unwritten, space_grown, some_low, rounded_order}
use Rattle.guest_mem.proofs.Kept.{all_stay, stays_added}
use Rattle.guest_mem.proofs.Mapping.{none_given}
use Rattle.guest_mem.proofs.space.Space.extend_heap.Goals as goal

abbrev no_area : Area
no_area = record { start = 0; end = 0; read = false; write = false; execute = false }

pub overflow_sub-place : goal.overflow_sub-place
overflow_sub-place c =
    let last : IsAfterLastMatch ends_low c.self.inside.areas.items c.behind_heap-place.result = rw c.deref.ensures.0 at c.behind_heap-place.ensures.last in
    some_low c.self.inside.areas.items _ c.self.inside.pages _ _ c.behind_heap-place.result c.self.invariant.sound last

pub fill-requires-clause-order : goal.fill-requires-clause-order
fill-requires-clause-order c =
    let heap = heap_seen c.self.inside.areas.items _ _ c.self.inside.pages _ _ c.behind_heap-place.result no_area c.self.invariant.sound c.deref.ensures.0 c.behind_heap-place.ensures.last c.behind_heap-place.ensures.within in
    let ends = heap.ends in
    let to : c.self.inside.heap_break ≤ c.args.to = omega (arith, c.requires.order, ap (λ m. m.space.heap_break) c.self.view_is) in
    rw (c.deref-2.ensures.0, c.rounded_up.ensures) (omega (arith, ends, to))

pub invariant_of-self : goal.invariant_of-self
invariant_of-self c =
    let heap = heap_seen c.self.inside.areas.items _ _ c.self.inside.pages _ _ c.behind_heap-place.result no_area c.self.invariant.sound c.deref.ensures.0 c.behind_heap-place.ensures.last c.behind_heap-place.ensures.within in
    let order : c.self.inside.heap_break ≤ c.args.to = omega (arith, c.requires.order, ap (λ m. m.space.heap_break) c.self.view_is) in
    let few : mapped_pages c.self.inside.areas.items + (rounded_up c.args.to - rounded_up c.self.inside.heap_break) / 4096 ≤ 16384 =
    rw (sym (ap (λ m. m.space.areas) c.self.view_is), sym (ap (λ m. m.space.heap_break) c.self.view_is)) at c.requires.pages in
    let x = get_or c.self.inside.areas.items (c.behind_heap-place.result - 1) no_area in
    let ends = heap.ends in
    let added = grown_added c.self.inside.areas.items _ c.self.inside.pages _ _ c.args.to c.behind_heap-place.result no_area c.self.invariant.sound heap order c.requires.high few in
    let within : x.end ≤ (gained x (rounded_up c.args.to)).end = let le = rounded_order c.self.inside.heap_break c.args.to order in omega arith in
    let none = none_given x.end c.self.inside.pages.flat_bytes in
    rw (c.end_at.ensures no_area, c.rounded_up.ensures) (record {
      sound =
          sound_added (gained x (rounded_up c.args.to)) c.self.inside.areas.items _ c.self.inside.rights _ c.self.inside.pages c.self.inside.pages _ _ _ _ x.end [] c.of.result
          c.self.invariant.sound added (record { from = omega arith; within = omega (arith, within) })
          (gained_unwritten x c.self.inside.areas.items _ c.self.inside.pages _ _ c.args.to c.self.invariant.sound ends c.requires.high)
          none c.self.invariant.sound.pages_len refl
          (rw (c.deref-2.ensures.0, c.rounded_up.ensures) at c.of.ensures) (rw (c.deref-2.ensures.0, c.rounded_up.ensures) at c.fill.ensures);
      code =
          all_stay c.self.inside.areas.items _ c.self.inside.pages.flat_bytes _ _
          (stays_added (gained x (rounded_up c.args.to)) c.self.inside.areas.items _ c.self.inside.pages.flat_bytes c.self.inside.pages.flat_bytes _ _ _ _ x.end []
          added (record { from = omega arith; within = omega (arith, within) }) none)
          c.self.invariant.code;
    })

pub returns-clause-space : goal.returns-clause-space
returns-clause-space c =
    let heap = heap_seen c.self.inside.areas.items _ _ c.self.inside.pages _ _ c.behind_heap-place.result no_area c.self.invariant.sound c.deref.ensures.0 c.behind_heap-place.ensures.last c.behind_heap-place.ensures.within in
    let order : c.self.inside.heap_break ≤ c.args.to = omega (arith, c.requires.order, ap (λ m. m.space.heap_break) c.self.view_is) in
    let few : mapped_pages c.self.inside.areas.items + (rounded_up c.args.to - rounded_up c.self.inside.heap_break) / 4096 ≤ 16384 =
    rw (sym (ap (λ m. m.space.areas) c.self.view_is), sym (ap (λ m. m.space.heap_break) c.self.view_is)) at c.requires.pages in
    rw (c.end_at.ensures no_area, c.rounded_up.ensures)
    (space_grown c.args.self.now.space c.self.inside.areas.items c.self.inside.pages.flat_bytes _ _ c.args.to c.behind_heap-place.result no_area (ap (λ m. m.space) c.self.view_is) c.self.invariant.sound.rest_zero heap
    (grown_added c.self.inside.areas.items _ c.self.inside.pages _ _ c.args.to c.behind_heap-place.result no_area c.self.invariant.sound heap order c.requires.high few))
