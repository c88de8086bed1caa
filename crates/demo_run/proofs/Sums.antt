-- Sums over lines.
use Rattle.std.proofs.Common.{◌≡◌, ℕ, ◌+◌, List, map, sym}
use Rattle.std.specs.List.{sum_by}
use Rattle.std.proofs.lemmas.List.Folds.{fold-map}
use Rattle.guest_model.specs.Tests.{HitCounts}
use Rattle.ordered_merge.specs.declared.merger.SliceLine.{SliceLine}
use Rattle.slice_runner.specs.Piece.{counts_of}
use Rattle.sliced_run.specs.Sliced.{line_by}
use Rattle.demo_run.specs.Demo.{sum_of_hits}

pub hits_of_lines : (count : HitCounts → ℕ) (lines : List SliceLine) → sum_by (λ line. count (counts_of line.hits)) lines ≡ sum_of_hits count (map line_by lines)
hits_of_lines count lines = sym (fold-map (λ a x. a + count x.hits) line_by 0 lines)
