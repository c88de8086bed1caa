use Rattle.std.proofs.Common.{◌≡◌, ◌++◌, drop}
use Rattle.std.specs.List.{enumerate_from, flat_map}
use Rattle.sp_report.specs.Slices.{lines_text, slice_text}
use Rattle.sp_report.proofs.slices.slice_lines.Given as goal

abbrev pub invariant-loop-number : goal.invariant-loop-number
invariant-loop-number l = l.text.items ++ flat_map slice_text (enumerate_from l.number (drop l.number l.lines)) ≡ lines_text l.lines
