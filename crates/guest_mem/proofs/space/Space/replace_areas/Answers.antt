use Rattle.std.proofs.Common.{◌≡◌, ◌∙◌, ap, sym}
use Rattle.guest_model.specs.Maps.{cut_areas}
use Rattle.guest_mem.proofs.Kept.{all_stay, stays_cut}
use Rattle.guest_mem.proofs.Unmapped.{IsMapRange, sound_cut, space_cut, framed_cut}
use Rattle.guest_mem.proofs.space.Space.replace_areas.Goals as goal

-- what is left, by the areas as they stood
left : (c : goal.After-left-1) → c.args.left.items ≡ cut_areas c.args.from c.args.to c.self.inside.areas.items
left c = c.requires.left ∙ ap (λ m. cut_areas c.args.from c.args.to m.space.areas) (sym c.self.view_is)

pub invariant_of-self : goal.invariant_of-self
invariant_of-self c =
    let range : IsMapRange c.args.from c.args.to = record { from_page = c.requires.from; to_page = c.requires.to; low = c.requires.low; order = c.requires.order; high = c.requires.high } in
    record {
      sound =
          rw (left c)
          (sound_cut c.self.inside.areas.items c.self.inside.rights _ c.self.inside.pages _ _ _ c.args.from c.args.to c.self.invariant.sound range
          (rw c.deref.ensures.0 at c.clear_range.ensures.bytes) c.clear_range.ensures.bytes_len
          (rw c.deref.ensures.0 at c.clear_range.ensures.framed) c.clear_range.ensures.framed_len c.clear_range.ensures.written c.clear_range.ensures.adds_up
          (rw c.deref.ensures.0 at c.clear_range.ensures.rights));
      code =
          rw (left c)
          (all_stay c.self.inside.areas.items _ c.self.inside.pages.flat_bytes _ _
          (stays_cut c.self.inside.areas.items c.self.inside.pages.flat_bytes _ c.args.from c.args.to range (rw c.deref.ensures.0 at c.clear_range.ensures.bytes))
          c.self.invariant.code);
    }

pub returns-clause-space : goal.returns-clause-space
returns-clause-space c =
    rw (left c)
    (space_cut c.args.self.now.space c.self.inside.areas.items c.self.inside.pages.flat_bytes _ _ _ c.args.from c.args.to (ap (λ m. m.space) c.self.view_is) c.requires.order
    (rw c.deref.ensures.0 at c.clear_range.ensures.bytes))

pub returns-clause-frames : goal.returns-clause-frames
returns-clause-frames c =
    rw (left c, ← c.self.view_is)
    (record {
      framed =
          framed_cut c.self.inside.areas.items c.self.inside.rights c.self.inside.pages c.clear_range.new.pages _ _ c.args.from c.args.to c.self.invariant.sound c.requires.order
          (rw c.deref.ensures.0 at c.clear_range.ensures.framed) c.clear_range.ensures.framed_len;
      written = c.clear_range.ensures.written;
      free = c.clear_range.ensures.adds_up c.self.invariant.sound.adds_up;
      count = c.clear_range.ensures.count;
    })
