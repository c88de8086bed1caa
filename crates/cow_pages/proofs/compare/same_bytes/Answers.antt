use Rattle.std.proofs.Common.{ap, get_or}
use Rattle.std.proofs.lemmas.Bool.Decides.{Decides-eqb}
use Rattle.std.proofs.lemmas.Grind.{same_number_lists}
use Rattle.std.proofs.lemmas.Slice.Eq.{slice_eq-Decides}
use Rattle.cow_pages.proofs.compare.same_bytes.Goals as goal

pub returns : goal.returns
returns c =
    let says = slice_eq-Decides Decides-eqb c.args.one.now c.args.other.now _ c.eq.ensures in (
      λ h i lt. ap (λ l. get_or l i 0) (says.0 h),
      λ h. says.1 (same_number_lists c.args.one.now c.args.other.now c.requires h),
    )
