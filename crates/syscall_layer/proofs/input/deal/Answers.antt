use Rattle.std.proofs.lemmas.List.{take_rest}
use Rattle.std.proofs.Common.{◌∙◌, refl, ap, List, ℕ, take, length, inl, inr, arith}
use Rattle.syscall_layer.proofs.Dealt.{deals_next, all_dealt}
use Rattle.syscall_layer.proofs.input.deal.Goals as goal
use Rattle.syscall_layer.proofs.input.deal.Goals.{then-loop-used-test+else-done-bytes, else-loop-used-test}

pub loop-used-init : goal.loop-used-init
loop-used-init c = record { within = omega arith; taken = omega arith; size = refl; rest = refl; room = c.requires; so_far = refl }

pub loop-used-preserved : goal.loop-used-preserved
loop-used-preserved c =
    deals_next c.args.writes.now.items c.loop-used.writes.items c.args.bytes.now c.loop-used.used c.loop-used.done c.deal_one-done.result c.index_mut.result.now c.deal_one-done.new.write
    c.loop-used.invariant (omega arith) c.if-done-bytes.true c.index_mut.ensures.value
    (c.deal_one-done.ensures.write ∙ ap (λ (xs : List ℕ). record { at = c.index_mut.result.now.at; bytes = take (length c.index_mut.result.now.bytes) xs }) (take_rest c.args.bytes.now c.loop-used.done))
    (c.deal_one-done.ensures.count ∙ ap (λ (xs : List ℕ). length (take (length c.index_mut.result.now.bytes) xs)) (take_rest c.args.bytes.now c.loop-used.done))

pub returns : goal.returns
returns c =
    c.truncate.ensures.items
    ∙ all_dealt c.args.writes.now.items c.loop-used.writes.items c.args.bytes.now c.loop-used.used c.loop-used.done c.loop-used.invariant
    (elim c.loop-used-test.branch [ then-loop-used-test+else-done-bytes w ↦ inr w.if-done-bytes.false | else-loop-used-test w ↦ inl (omega (arith, w.loop-used-test.false, c.len.ensures)) ])
