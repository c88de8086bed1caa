use Rattle.std.proofs.Common.{◌∙◌, ap, get_or}
use Rattle.cow_pages.proofs.Flat.{get_or-zeros}
use Rattle.tests_pages.proofs.forks.placed_bytes_take_no_frame.Goals as goal

pub place-requires-clause-zeros : goal.place-requires-clause-zeros
place-requires-clause-zeros g c = λ a _. ap (λ v. get_or v.flat_bytes a 0) c.in_ok-pages.ensures.pages ∙ get_or-zeros a
