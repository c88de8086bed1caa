use Rattle.std.proofs.Common.{◌≡◌, ◌+◌, ◌*◌, map}
use Rattle.std.specs.List.{range_with_len}
use Rattle.rv_isa.specs.Decoded.{decoded}
use Rattle.ins_views.specs.Memory.{memory_word}
use Rattle.ins_views.specs.Views.{first_word}
use Rattle.ins_views.proofs.code.words_of.Given as goal

abbrev pub invariant-loop-k : goal.invariant-loop-k
invariant-loop-k l = l.words.items ≡ map (λ k. decoded (memory_word l.segment (first_word l.segment.start + 4 * k))) (range_with_len 0 l.k)
