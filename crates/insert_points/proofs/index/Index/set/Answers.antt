use Rattle.std.proofs.Common.{◌≡◌, ◌+◌, ◌-◌, ◌*◌, ◌∙◌, ap, arith, get_or}
use Rattle.std.specs.Prelude.{slice_index, slice_set}
use Rattle.insert_points.specs.Plan.{part_of, part_size, place_of, site_at}
use Rattle.insert_points.proofs.Sites.{read_some, set_site}
use Rattle.insert_points.proofs.index.Index.set.Goals as goal

pub returns-clause-sites : goal.returns-clause-sites
returns-clause-sites c =
    λ a fits.
    let table = c.args.self.now.table.items in
    let sites = c.args.self.now.sites.items in
    let number : c.index.result.now ≡ slice_index table (part_of c.args.at) = read_some table (part_of c.args.at) c.index.result.now c.requires.room (c.index.ensures ∙ ap (λ p. get_or table p c.index.result.now) c.part_of.ensures.value) in
    let place : part_size * (c.index.result.now - 1) + c.place_of.result ≡ part_size * (slice_index table (part_of c.args.at) - 1) + place_of c.args.at = omega (arith, number, c.place_of.ensures.value) in
    ap (λ i. site_at table (slice_set sites i c.args.site) a) place
    ∙ set_site table sites c.args.at c.args.site c.requires.index c.requires.room (omega (arith, c.ranges.at)) a fits
