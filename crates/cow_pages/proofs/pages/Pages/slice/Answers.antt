use Rattle.std.proofs.Common.{◌+◌, ◌*◌, ◌∙◌, ap, get_or, add_assoc, arith}
use Rattle.cow_pages.proofs.pages.Pages.slice.Goals as goal

pub returns-in-None : goal.returns-in-None
returns-in-None c = λ i lt.
    ap (λ k. get_or c.args.self.now.flat_bytes k 0) (add_assoc (4096 * c.args.page) c.args.at i) ∙ c.in-None.ensures (c.args.at + i) (omega (arith, c.requires.range))
