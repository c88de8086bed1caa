use Rattle.std.proofs.Common.{◌≡◌, ◌<◌, ◌^◌, false, List, ◌++◌, length}
use Rattle.std.specs.List.{AllZip, flat_map}
use Rattle.std.specs.Vec.Iter.{into_iter_items}
use Rattle.insert_points.specs.declared.call.Event.{Event}
use Rattle.ordered_merge.specs.Merged.{AreNumberedFrom, IsPieceOf, joined, lines_of}
use Rattle.ordered_merge.proofs.Halfway.{IsHalfway}
use Rattle.ordered_merge.proofs.merger.put_all.Given as goal

abbrev pub invariant-loop-result : goal.invariant-loop-result
invariant-loop-result g l =
    let stands = g.T.Tool.is_local l.tool in
    let is_value = g.T.Tool.is_value l.tool in record {
      can : (goal.iterator-loop-result g).can_next l.result-iterator;
      ends : (goal.iterator-loop-result g).is_finite l.result-iterator;
      sound : l.merger.refused ≡ false;
      next : AreNumberedFrom (length l.merger.lines.items) (into_iter_items l.result-iterator);
      lines : l.merger.lines.items ++ flat_map lines_of (into_iter_items l.result-iterator) ≡ l.initial.merger.lines.items ++ flat_map lines_of l.fn.results.items;
      value : (xs : List Event) (xss : List (List Event)) → length (xs ++ joined xss) < 2 ^ 50 → is_value xs l.initial.merger.shared → AllZip (IsPieceOf stands) xss l.fn.results.items
          → IsHalfway (IsPieceOf stands) stands is_value (xs ++ joined xss) l.merger.shared (into_iter_items l.result-iterator);
    }
