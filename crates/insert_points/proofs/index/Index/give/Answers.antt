use Rattle.std.proofs.Common.{◌≡◌, ◌+◌, ◌-◌, ◌/◌, ◌∙◌, ◌++◌, ap, arith, length, replicate}
use Rattle.std.specs.Prelude.{List, slice_set}
use Rattle.std.proofs.lemmas.List.{take_all}
use Rattle.insert_points.specs.Plan.{no_site, part_size, site_at}
use Rattle.insert_points.specs.declared.index.Site.{Site}
use Rattle.insert_points.proofs.Sites.{give_same}
use Rattle.insert_points.proofs.index.Index.give.Goals as goal

pub returns-clause-same : goal.returns-clause-same
returns-clause-same c =
    λ a.
    let sites = c.args.self.now.sites.items in
    let table = c.args.self.now.table.items in
    let len : c.len-len.result ≡ length sites = omega (arith, c.len-len.ensures, c.args.self.now.sites.ok.0) in
    let more = c.len-len.result + part_size - c.args.self.now.sites.len in
    let filled = c.in_ok-resize.ensures.items ∙ ap (λ (xs : List Site). xs ++ replicate more no_site) (take_all (c.len-len.result + part_size) sites (omega (arith, len))) in
    ap (λ (xs : List Site). site_at (slice_set table c.args.part (c.len-len.result / part_size + 1)) xs a) filled
    ∙ give_same table sites c.args.part (c.len-len.result / part_size + 1) more c.requires.index c.requires.within c.requires.none (omega (arith, len)) a
