use Rattle.std.proofs.Common.{◌∙◌, ◌+◌, ◌-◌, ◌*◌, ap, refl, arith}
use Rattle.std.proofs.lemmas.List.FromFn.{map-range_with_len_more}
use Rattle.rv_isa.specs.Decoded.{decoded}
use Rattle.guest_mem.specs.Code.{entry_of, first_word, word_in}
use Rattle.guest_mem.proofs.code.Code.of.Goals as goal

pub loop-k-preserved : goal.loop-k-preserved
loop-k-preserved c =
    let skipped = first_word c.args.at - c.args.at in
    let more = map-range_with_len_more (λ k. entry_of (decoded (word_in c.args.bytes.now (skipped + 4 * k)))) 0 c.loop-k.k c.loop-k.k (omega arith) in
    let here = c.entry_of.ensures ∙ ap (λ w. entry_of (decoded w)) c.word_in.ensures in
    rw (c.in_ok-push.ensures.items, c.loop-k.invariant, more, here) refl
