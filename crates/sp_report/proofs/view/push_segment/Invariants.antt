use Rattle.std.proofs.Common.{◌≡◌, ◌+◌, ◌*◌, ◌++◌}
use Rattle.std.specs.List.{flat_map, range_with_len}
use Rattle.sp_report.specs.View.{first_shown, lines_at}
use Rattle.sp_report.proofs.view.push_segment.Given as goal

abbrev pub invariant-loop-k : goal.invariant-loop-k
invariant-loop-k l =
    l.text.items ≡ l.fn.text.items ++ flat_map (λ k. lines_at l.image l.segment (first_shown l.image l.segment + 4 * k)) (range_with_len 0 l.k)
