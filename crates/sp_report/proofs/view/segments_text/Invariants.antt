use Rattle.std.proofs.Common.{◌≡◌, take}
use Rattle.std.specs.Prelude.{filter}
use Rattle.std.specs.List.{flat_map}
use Rattle.elf_load.specs.Image.{is_executable}
use Rattle.sp_report.specs.View.{segment_text}
use Rattle.sp_report.proofs.view.segments_text.Given as goal

abbrev pub invariant-loop-segment : goal.invariant-loop-segment
invariant-loop-segment l = l.text.items ≡ flat_map (segment_text l.image) (filter is_executable (take l.segment-index l.segments))
