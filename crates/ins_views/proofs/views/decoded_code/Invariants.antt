use Rattle.std.proofs.Common.{◌≡◌, map, take}
use Rattle.std.specs.Prelude.{filter}
use Rattle.elf_load.specs.Image.{is_executable}
use Rattle.ins_views.specs.Views.{code_view}
use Rattle.ins_views.proofs.views.decoded_code.Given as goal

abbrev pub invariant-loop-segment : goal.invariant-loop-segment
invariant-loop-segment l = l.code.items ≡ map code_view (filter is_executable (take l.segment-index l.segments))
