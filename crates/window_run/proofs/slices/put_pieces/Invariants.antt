use Rattle.std.proofs.Common.{◌≡◌, ℕ, ◌+◌, ◌≤◌, ◌^◌, false, List, ◌++◌, length}
use Rattle.std.specs.List.{AllZip}
use Rattle.std.specs.Vec.Iter.{into_iter_items}
use Rattle.boundary_verify.specs.Job.{JobFields}
use Rattle.ordered_merge.specs.Merged.{AreNumberedFrom}
use Rattle.window_run.specs.Jobs.{AreJobs, HasMerged, IsResultOf}
use Rattle.window_run.proofs.Merging.{IsHalfway}
use Rattle.window_run.proofs.slices.put_pieces.Given as goal

abbrev pub invariant-loop-result : goal.invariant-loop-result
invariant-loop-result g l =
    let stands = g.T.Tool.is_local l.tool in
    let is_value = g.T.Tool.is_value l.tool in
    let first = l.initial.merger in record {
      can : (goal.iterator-loop-result g).can_next l.result-iterator;
      ends : (goal.iterator-loop-result g).is_finite l.result-iterator;
      sound : l.merger.refused ≡ false;
      next : AreNumberedFrom (length l.merger.lines.items) (into_iter_items l.result-iterator);
      count : length l.merger.lines.items + length (into_iter_items l.result-iterator) ≡ length first.lines.items + length l.fn.results.items;
      halfway : (done jobs : List JobFields) (e f : ℕ) → f ≤ 2 ^ 40 → HasMerged stands is_value l.plan done e first.shared first.lines.items → AreJobs (length first.lines.items) e jobs f
          → AllZip (IsResultOf stands l.plan) jobs l.fn.results.items → IsHalfway stands is_value l.plan (done ++ jobs) f l.merger.shared l.merger.lines.items (into_iter_items l.result-iterator);
    }
