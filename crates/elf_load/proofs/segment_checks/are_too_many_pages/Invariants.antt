use Rattle.std.proofs.Common.{◌≡◌, ◌≤◌, ◌*◌, take}
use Rattle.std.specs.Prelude.{sum_by, filter}
use Rattle.elf_load.specs.Tests.{is_segment, page_count}
use Rattle.elf_load.proofs.segment_checks.are_too_many_pages.Given as goal

-- the pages of the segments so far, each in at most 2^21 pages
abbrev pub invariant-loop-header : goal.invariant-loop-header
invariant-loop-header l = record {
  counted : l.pages ≡ sum_by page_count (filter is_segment (take l.header-index l.headers));
  few : l.pages ≤ 2097152 * l.header-index;
}
