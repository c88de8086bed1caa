use Rattle.std.proofs.Common.{◌≤◌, length, ap, refl, subst}
use Rattle.guest_model.specs.declared.platform.TheConstants.{MOST_AREAS}
use Rattle.guest_model.specs.Valid.{IsSpace}
use Rattle.guest_mem.proofs.Mapped.{keys}
use Rattle.guest_mem.proofs.space.Space.areas.Goals as goal

pub returns-clause-valid : goal.returns-clause-valid
returns-clause-valid c =
    let sound = c.self.invariant.sound in
    subst IsSpace (ap (λ m. m.space) c.self.view_is) (record {
      bytes = keys _ _ _ c.self.inside.heap_break c.self.inside.next_map refl;
      whole = sound.whole;
      few_areas = subst (λ xs. length xs ≤ MOST_AREAS) c.deref.ensures.0 c.deref.ensures.1;
      few_pages = sound.few_pages;
      heap_bound = sound.heap_bound;
      next = sound.next;
    })
