use Rattle.std.proofs.Common.{◌≡◌, false, ℕ, ◌<◌, get_or}
use Rattle.elf_load.specs.declared.fields.ProgramHeader.{ProgramHeader}
use Rattle.elf_load.specs.Tests.{is_sharing}
use Rattle.elf_load.proofs.segment_checks.first_sharing.Given as goal

-- no segment before this one shares a page
abbrev pub invariant-loop-k : goal.invariant-loop-k
invariant-loop-k l = (j : ℕ) (d : ProgramHeader) → j < l.k → is_sharing l.headers (j, get_or l.headers j d) ≡ false
