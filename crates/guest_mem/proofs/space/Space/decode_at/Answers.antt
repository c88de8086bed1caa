use Rattle.std.proofs.Common.{ap}
use Rattle.guest_mem.proofs.Kept.{entry_kept}
use Rattle.guest_mem.proofs.space.Space.decode_at.Goals as goal

pub returns-in-Some : goal.returns-in-Some
returns-in-Some c =
    entry_kept c.args.self.now.space c.self.inside.areas.items c.self.inside.pages.flat_bytes _ _ c.args.at c.self.inside.code c.in-Some.i.now
    (ap (λ m. m.space) c.self.view_is) c.self.invariant.sound.rest_zero c.self.invariant.code c.in-Some.ensures c.ranges.at.fits
