use Rattle.std.proofs.Common.{◌≡◌, ℕ, ◌∙◌, sym, ap, length, arith}
use Rattle.guest_model.specs.Bytes.{bytes_at}
use Rattle.slice_signature.proofs.Windows.{length_window, window_more}
use Rattle.slice_signature.proofs.signature.stack_of.Goals as goal

pub push-requires : goal.push-requires
push-requires c = (omega arith, omega (arith, ap length c.loop-i.invariant, length_window c.args.at.now.machine.space.bytes c.reg-start.result c.loop-i.i, c.loop-i-test.true))

pub loop-i-preserved : goal.loop-i-preserved
loop-i-preserved c = rw (c.push.ensures.items, c.loop-i.invariant, c.peek_byte.ensures) (sym (window_more c.args.at.now.machine.space.bytes c.reg-start.result c.loop-i.i))

pub returns : goal.returns
returns c =
    let all : c.loop-i.i ≡ 256 = omega (arith, c.loop-i-test.false, c.loop-i.auto.i-end) in
    (rw all at c.loop-i.invariant) ∙ ap (λ (a : ℕ). bytes_at c.args.at.now.machine.space.bytes a 256) c.reg-start.ensures
