use Rattle.std.proofs.Common.{◌≡◌, ◌≤◌, length}
use Rattle.elf_load.proofs.Order.{segments_from}
use Rattle.elf_load.proofs.segments.by_address.Given as goal

-- the segments of the headers from here on
abbrev pub invariant-loop-k : goal.invariant-loop-k
invariant-loop-k l = record {
  within : l.k ≤ length l.headers;
  same : l.segments.entries ≡ segments_from l.headers l.k;
}

abbrev pub decreases-loop-k : goal.decreases-loop-k
decreases-loop-k l = l.k
