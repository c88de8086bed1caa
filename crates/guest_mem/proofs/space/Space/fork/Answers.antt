use Rattle.std.proofs.Common.{◌∙◌, sym, ap}
use Rattle.guest_mem.proofs.Freezing.{all_bytes_are}
use Rattle.guest_mem.proofs.space.Space.fork.Goals as goal

pub returns-clause-origin : goal.returns-clause-origin
returns-clause-origin c =
    let sound = c.from.invariant.sound in
    ap (λ p. p.origin) c.in_ok-pages.ensures.pages
    ∙ sym (all_bytes_are c.args.from.now.space c.from.inside.areas.items c.from.inside.pages.bytes _ _ (ap (λ m. m.space) c.from.view_is) sound.pages_len sound.rest_zero)

pub returns-clause-none_named : goal.returns-clause-none_named
returns-clause-none_named c = ap (λ p. p.changed) c.in_ok-pages.ensures.pages
