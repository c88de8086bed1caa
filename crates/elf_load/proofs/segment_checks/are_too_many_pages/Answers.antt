use Rattle.std.proofs.Common.{arith}
use Rattle.elf_load.proofs.Found.{no_header, pages_more}
use Rattle.elf_load.proofs.segment_checks.are_too_many_pages.Goals as goal
use Rattle.elf_load.proofs.segment_checks.are_too_many_pages.Goals.{then-is_segment, else-is_segment}

pub loop-header-preserved : goal.loop-header-preserved
loop-header-preserved c =
    let more = pages_more c.args.headers.now c.loop-header.header-index no_header (omega arith) in
    elim c.if-is_segment.branch [ then-is_segment w ↦ grind arith | else-is_segment w ↦ grind arith ]
