use Rattle.std.proofs.Common.{◌∙◌, length, get_or, refl, sym, ap, arith}
use Rattle.std.specs.Arc.{arc_value}
use Rattle.cow_pages.specs.Contents.{pages_over}
use Rattle.guest_mem.specs.Sound.{IsSound}
use Rattle.guest_mem.proofs.Freezing.{all_bytes_are, sound_fresh, sound_frozen}
use Rattle.guest_mem.proofs.space.Space.freeze.Goals as goal

sound : (c : goal.After-copied) → IsSound c.copied.result.items (arc_value c.in_ok-rights.rights).items (pages_over c.in_ok-pages.pages.bytes 0) c.self.inside.heap_break c.self.inside.next_map
sound c =
    sound_frozen c.self.inside.areas.items _ c.self.inside.rights _ c.self.inside.pages _ _ _ c.self.invariant.sound
    (c.copied.ensures ∙ c.deref.ensures.0) c.in_ok-rights.ensures.shared (ap (λ s. s.bytes) c.in_ok-pages.ensures.shared)

pub invariant_of-result : goal.invariant_of-result
invariant_of-result c = record {
  sound = sound c;
  code =
      rw (c.in_ok-code.ensures, c.copied.ensures ∙ c.deref.ensures.0, ap (λ s. s.bytes) c.in_ok-pages.ensures.shared) c.self.invariant.code;
  few_rights = let few = c.in_ok-rights.ensures.few in omega (arith, few, ap length c.in_ok-rights.ensures.shared);
}

pub invariant_of-self-2 : goal.invariant_of-self-2
invariant_of-self-2 c =
    rw (c.in_ok-rights.ensures.same, c.in_ok-pages.ensures.pages) (record {
      sound = sound_fresh c.self.inside.areas.items c.self.inside.rights c.self.inside.pages _ _ _ c.self.invariant.sound;
      code = c.self.invariant.code;
    })

pub returns-clause-changed : goal.returns-clause-changed
returns-clause-changed c = λ a none.
    ap (λ l. get_or l a 0) (all_bytes_are _ c.copied.result.items c.in_ok-pages.pages.bytes c.self.inside.heap_break c.self.inside.next_map refl (sound c).pages_len (sound c).rest_zero)
    ∙ c.in_ok-pages.ensures.agree a none
    ∙ ap (λ m. get_or m.origin a 0) c.self.view_is

pub returns-clause-origin : goal.returns-clause-origin
returns-clause-origin c =
    ap (λ p. p.origin) c.in_ok-pages.ensures.pages
    ∙ sym (all_bytes_are c.args.self.now.space c.self.inside.areas.items c.self.inside.pages.flat_bytes _ _ (ap (λ m. m.space) c.self.view_is) c.self.invariant.sound.pages_len c.self.invariant.sound.rest_zero)

pub returns-clause-named : goal.returns-clause-named
returns-clause-named c = ap (λ s. s.changed) c.in_ok-pages.ensures.shared ∙ ap (λ m. m.changed) c.self.view_is

pub returns-clause-none_named : goal.returns-clause-none_named
returns-clause-none_named c = ap (λ p. p.changed) c.in_ok-pages.ensures.pages
