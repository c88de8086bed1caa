use Rattle.std.proofs.Common.{◌≡◌, ◌+◌, ◌*◌, map}
use Rattle.std.specs.List.{range_with_len}
use Rattle.rv_isa.specs.Decoded.{decoded}
use Rattle.guest_mem.specs.Code.{entry_of, word_in}
use Rattle.guest_mem.proofs.code.Code.of.Given as goal

abbrev pub invariant-loop-k : goal.invariant-loop-k
invariant-loop-k l = l.entries.items ≡ map (λ k. entry_of (decoded (word_in l.bytes (l.skipped + 4 * k)))) (range_with_len 0 l.k)
