use Rattle.std.proofs.Common.{◌≡◌, ◌<◌, ℕ, false, get_or}
use Rattle.elf_load.specs.declared.fields.ProgramHeader.{ProgramHeader}
use Rattle.elf_load.specs.Elf.{holds_table}
use Rattle.elf_load.proofs.segments.table_address.Given as goal

-- no segment so far holds the table
abbrev pub invariant-loop-segment : goal.invariant-loop-segment
invariant-loop-segment l = (j : ℕ) (d : ProgramHeader) → j < l.segment-index → holds_table l.header (get_or l.headers j d) ≡ false
