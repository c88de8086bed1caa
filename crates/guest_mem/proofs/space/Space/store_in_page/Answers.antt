use Rattle.std.proofs.Common.{◌≡◌, true, ◌∙◌, ap, length, arith}
use Rattle.guest_model.specs.Areas.{is_permitted}
use Rattle.guest_model.specs.declared.Access.TheVariants.{Write}
use Rattle.guest_mem.proofs.Enough.{enough_frames}
use Rattle.guest_mem.proofs.Kept.{all_stay, stays_written}
use Rattle.guest_mem.proofs.Mapped.{in_page, space_put}
use Rattle.guest_mem.proofs.Permitted.{mapped_if_permitted}
use Rattle.guest_mem.proofs.Ranges.{takes_one}
use Rattle.guest_mem.proofs.Written.{frame_there, free_after, marked_in_page, mapped_among, mapped_along, permitted_among, sound_written}
use Rattle.guest_mem.proofs.space.Space.store_in_page.Goals as goal

writable : (c : goal.After-write) → is_permitted Write c.self.inside.areas.items c.args.at ≡ true
writable c = ap (λ m. is_permitted Write m.space.areas c.args.at) c.self.view_is ∙ c.requires.writable

pub write-requires-clause-frame : goal.write-requires-clause-frame
write-requires-clause-frame c =
    let writable : is_permitted Write c.self.inside.areas.items c.args.at ≡ true = ap (λ m. is_permitted Write m.space.areas c.args.at) c.self.view_is ∙ c.requires.writable in
    let mapped = mapped_if_permitted Write c.self.inside.areas.items c.args.at writable in
    let enough = enough_frames _ _ c.self.inside.pages _ _ c.args.self.now.frames c.args.at (length c.args.bytes.now) c.self.invariant.sound (ap (λ m. m.frames) c.self.view_is)
    (mapped_along c.self.inside.areas.items c.args.at (length c.args.bytes.now) c.self.invariant.sound.whole c.ranges.at.fits mapped c.requires.within) c.requires.frames in
    frame_there c.self.inside.pages.frames.framed c.args.at (length c.args.bytes.now) c.self.inside.pages.frames.free c.self.invariant.sound.framed_len c.ranges.at.fits c.requires.some c.requires.within enough

pub invariant_of-self : goal.invariant_of-self
invariant_of-self c =
    let mapped = mapped_if_permitted Write c.self.inside.areas.items c.args.at (writable c) in
    record {
      sound =
          sound_written _ _ c.self.inside.pages _ _ _ c.args.at c.args.bytes.now c.self.invariant.sound c.ranges.at.fits c.requires.within mapped
          (rw (in_page c.args.at) at c.write.ensures.bytes) c.write.ensures.len c.write.ensures.frames c.write.ensures.adds_up;
      code =
          all_stay c.self.inside.areas.items c.self.inside.areas.items c.self.inside.pages.flat_bytes _ _
          (stays_written c.self.inside.areas.items c.self.inside.pages.flat_bytes _ c.args.at c.args.bytes.now
          (permitted_among Write c.self.inside.areas.items c.args.at (length c.args.bytes.now) c.self.invariant.sound.whole (writable c) c.requires.within)
          (rw (in_page c.args.at) at c.write.ensures.bytes))
          c.self.invariant.code;
    }

pub returns-clause-space : goal.returns-clause-space
returns-clause-space c =
    let mapped = mapped_if_permitted Write c.self.inside.areas.items c.args.at (writable c) in
    space_put c.args.self.now.space _ c.self.inside.pages.flat_bytes _ _ _ c.args.at c.args.bytes.now (ap (λ m. m.space) c.self.view_is) (omega arith)
    (mapped_among c.self.inside.areas.items c.args.at (length c.args.bytes.now) c.self.invariant.sound.whole mapped c.requires.within) (rw (in_page c.args.at) at c.write.ensures.bytes)

pub returns-clause-frames : goal.returns-clause-frames
returns-clause-frames c =
    let after = free_after c.self.inside.pages.frames.framed c.args.at (length c.args.bytes.now) _ c.self.inside.pages.frames.free c.self.invariant.sound.framed_len c.ranges.at.fits c.requires.some c.requires.within c.write.ensures.frames.free in
    rw (← c.self.view_is)
    (takes_one _ _ c.args.at (length c.args.bytes.now)
    (c.write.ensures.frames.framed ∙ marked_in_page c.self.inside.pages.frames.framed c.args.at (length c.args.bytes.now) c.ranges.at.fits c.requires.some c.requires.within)
    (c.write.ensures.frames.written ∙ marked_in_page c.self.inside.pages.frames.written c.args.at (length c.args.bytes.now) c.ranges.at.fits c.requires.some c.requires.within)
    after c.write.ensures.frames.count)
