use Rattle.std.proofs.Common.{arith, ◌≡◌, true, get_or}
use Rattle.elf_load.specs.Tests.{is_sharing}
use Rattle.elf_load.proofs.Found.{no_header, sharing_found, sharing_none}
use Rattle.elf_load.proofs.segment_checks.first_sharing.Goals as goal

pub returns-then-shares_page-clause-first : goal.returns-then-shares_page-clause-first
returns-then-shares_page-clause-first c =
    let here : is_sharing c.args.headers.now (c.loop-k.k, get_or c.args.headers.now c.loop-k.k no_header) ≡ true = grind (arith, c.is_segment.ensures, c.shares_page.ensures) in
    sharing_found c.args.headers.now c.loop-k.k no_header (omega arith) c.loop-k.invariant here

pub returns-clause-first : goal.returns-clause-first
returns-clause-first c = sharing_none c.args.headers.now c.loop-k.k no_header (omega arith) c.loop-k.invariant
