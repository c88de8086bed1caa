use Rattle.std.proofs.Common.{◌≡◌, map}
use Rattle.std.specs.List.{range_with_len}
use Rattle.elf_load.specs.Header.{nth_program_header}
use Rattle.elf_load.proofs.tables.program_headers.Given as goal

-- the headers so far
abbrev pub invariant-loop-k : goal.invariant-loop-k
invariant-loop-k l = l.headers.items ≡ map (nth_program_header l.file) (range_with_len 0 l.k)
