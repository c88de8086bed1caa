use Rattle.std.proofs.Common.{◌/◌, ◌∙◌, false, get_or, refl, sym, ap}
use Rattle.guest_mem.specs.Memory.{all_bytes}
use Rattle.guest_mem.proofs.Freezing.{all_bytes_are, same_space}
use Rattle.guest_mem.proofs.space.Space.same_as.Goals as goal

pub same_as-requires-clause-base : goal.same_as-requires-clause-base
same_as-requires-clause-base c =
    let sound = c.base.invariant.sound in
    ap (λ m. m.origin) c.self.view_is ∙ c.requires.base
    ∙ all_bytes_are c.args.base.now.space c.base.inside.areas.items c.base.inside.pages.bytes _ _ (ap (λ m. m.space) c.base.view_is) sound.pages_len sound.rest_zero

pub same_as-requires-clause-end : goal.same_as-requires-clause-end
same_as-requires-clause-end c = λ a none.
    let sound = c.end.invariant.sound in
    let old = c.base.invariant.sound in
    ap (λ l. get_or l a 0) (sym (all_bytes_are c.args.end.now.space c.end.inside.areas.items c.end.inside.pages.bytes _ _ (ap (λ m. m.space) c.end.view_is) sound.pages_len sound.rest_zero))
    ∙ c.requires.end a (sym (ap (λ m. get_or m.changed (a / 4096) false) c.end.view_is) ∙ none)
    ∙ ap (λ l. get_or l a 0) (all_bytes_are c.args.base.now.space c.base.inside.areas.items c.base.inside.pages.bytes _ _ (ap (λ m. m.space) c.base.view_is) old.pages_len old.rest_zero)

pub returns-then-has_layout_of : goal.returns-then-has_layout_of
returns-then-has_layout_of c =
    let mine = ap (λ m. m.space) c.self.view_is in
    let theirs = ap (λ m. m.space) c.end.view_is in
    let sound = c.end.invariant.sound in (
      λ h. same_space c.args.self.now.space c.args.end.now.space _ _ _ _ _ _ _ _ mine theirs (c.if-has_layout_of.ensures.0 refl) (c.same_as.ensures.0 h),
      λ same. c.same_as.ensures.1 (
          sym (all_bytes_are c.args.self.now.space c.self.inside.areas.items c.self.inside.pages.flat_bytes _ _ mine c.self.invariant.sound.pages_len c.self.invariant.sound.rest_zero)
          ∙ ap all_bytes same
          ∙ all_bytes_are c.args.end.now.space c.end.inside.areas.items c.end.inside.pages.bytes _ _ theirs sound.pages_len sound.rest_zero
          ),
    )
