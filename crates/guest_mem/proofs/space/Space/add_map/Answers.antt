use Rattle.std.proofs.Common.{◌≡◌, ◌∙◌, ◌+◌, ◌-◌, ◌/◌, ap, [], refl, arith}
use Rattle.std.specs.List.{position_or_len}
use Rattle.guest_model.specs.Added.{comes_before, mapped_pages}
use Rattle.guest_model.specs.Maps.{map_area}
use Rattle.guest_mem.proofs.Added.{sound_added}
use Rattle.guest_mem.proofs.Kept.{all_stay, stays_added}
use Rattle.guest_mem.proofs.Mapping.{IsNewMap, map_added, map_unwritten, space_mapped, none_given}
use Rattle.guest_mem.proofs.space.Space.add_map.Goals as goal

is_new : (c : goal.After-self-1) → IsNewMap (map_area c.self.inside.next_map c.args.size c.args.prot) c.self.inside.areas.items c.self.inside.next_map
is_new c =
    let next = ap (λ m. m.space.next_map) c.self.view_is in
    let page = c.self.invariant.sound.next.page in
    record {
      start = refl;
      some = omega arith;
      page = omega arith;
      within = omega arith;
      few = let size : c.self.inside.next_map + c.args.size - c.self.inside.next_map ≡ c.args.size = omega arith in omega (arith, ap (λ k. k / 4096) size, c.requires.pages, ap (λ m. mapped_pages m.space.areas) c.self.view_is);
    }

pub invariant_of-self : goal.invariant_of-self
invariant_of-self c =
    let area = map_area c.self.inside.next_map c.args.size c.args.prot in
    let added = map_added area c.self.inside.areas.items _ c.self.inside.pages _ _ c.place_of-place.result c.self.invariant.sound (is_new c) in
    let none = none_given c.self.inside.next_map c.self.inside.pages.flat_bytes in
    rw c.insert.ensures.items (record {
      sound =
          sound_added area c.self.inside.areas.items _ c.self.inside.rights _ c.self.inside.pages c.self.inside.pages _ _ _ _ c.self.inside.next_map [] c.of.result
          c.self.invariant.sound added (record { from = omega arith; within = omega arith })
          (map_unwritten area c.self.inside.areas.items _ c.self.inside.pages _ _ c.self.invariant.sound (is_new c))
          none c.self.invariant.sound.pages_len refl c.of.ensures c.fill.ensures;
      code =
          all_stay c.self.inside.areas.items _ c.self.inside.pages.flat_bytes _ _
          (stays_added area c.self.inside.areas.items _ c.self.inside.pages.flat_bytes c.self.inside.pages.flat_bytes _ _ _ _ c.self.inside.next_map [] added (record { from = omega arith; within = omega arith }) none)
          c.self.invariant.code;
    })

pub returns-clause-space : goal.returns-clause-space
returns-clause-space c =
    let area = map_area c.self.inside.next_map c.args.size c.args.prot in
    let place : c.place_of-place.result ≡ position_or_len (comes_before area) c.self.inside.areas.items = c.place_of-place.ensures.place ∙ ap (position_or_len (comes_before area)) c.deref.ensures.0 in
    rw c.insert.ensures.items
    (space_mapped c.args.self.now.space c.self.inside.areas.items c.self.inside.pages.flat_bytes c.self.inside.heap_break _ c.place_of-place.result c.args.size c.args.prot
    (ap (λ m. m.space) c.self.view_is) place c.self.invariant.sound.rest_zero (map_added area c.self.inside.areas.items _ c.self.inside.pages _ _ c.place_of-place.result c.self.invariant.sound (is_new c)) c.requires.some)
