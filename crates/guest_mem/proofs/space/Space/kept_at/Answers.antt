use Rattle.std.proofs.Common.{ap}
use Rattle.guest_mem.proofs.Kept.{entry_kept}
use Rattle.guest_mem.proofs.space.Space.kept_at.Goals as goal

pub returns : goal.returns
returns c =
    entry_kept c.args.self.now.space c.self.inside.areas.items c.self.inside.pages.flat_bytes _ _ c.args.at c.self.inside.code c.in_ok-i.i.now
    (ap (λ m. m.space) c.self.view_is) c.self.invariant.sound.rest_zero c.self.invariant.code c.in_ok-i.ensures c.ranges.at.fits
