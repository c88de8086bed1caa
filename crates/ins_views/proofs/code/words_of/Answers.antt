use Rattle.std.proofs.Common.{◌∙◌, ◌+◌, ◌*◌, ap, refl, arith}
use Rattle.std.proofs.lemmas.List.FromFn.{map-range_with_len_more}
use Rattle.rv_isa.specs.Decoded.{decoded}
use Rattle.ins_views.specs.Memory.{memory_word}
use Rattle.ins_views.specs.Views.{first_word}
use Rattle.ins_views.proofs.code.words_of.Goals as goal

pub loop-k-preserved : goal.loop-k-preserved
loop-k-preserved c =
    let s = c.args.segment.now in
    let more = map-range_with_len_more (λ k. decoded (memory_word s (first_word s.start + 4 * k))) 0 c.loop-k.k c.loop-k.k (omega arith) in
    let here = c.of.ensures ∙ ap decoded (c.memory_word.ensures ∙ ap (λ first. memory_word s (first + 4 * c.loop-k.k)) c.first_of-first.ensures) in
    rw (c.in_ok-push.ensures.items, c.loop-k.invariant, more, here) refl
