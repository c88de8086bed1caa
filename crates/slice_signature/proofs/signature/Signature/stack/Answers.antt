use Rattle.std.proofs.Common.{◌≡◌, ◌+◌, ℕ, List, [], ◌∷◌, ◌++◌, refl, sym, ap, ◌∙◌, length, get_or, arith}
use Rattle.guest_model.specs.Bytes.{bytes_at, byte_at}
use Rattle.guest_model.specs.Areas.{wrap}
use Rattle.guest_mem.specs.Memory.{Memory}
use Rattle.slice_signature.proofs.Windows.{window_at, window_more}
use Rattle.std.proofs.lemmas.List.{take_all, take_more}
use Rattle.slice_signature.proofs.signature.Signature.stack.Goals as goal

pub returns-then-peek_byte-deref : goal.returns-then-peek_byte-deref
returns-then-peek_byte-deref c = (
  λ no. absurd (cc (no)),
  λ is.
      let stack : c.self.inside.stack.items ≡ c.args.self.now.stack = ap (λ s. s.stack) c.self.view_is in
      let bytes = c.args.guest.now.machine.space.bytes in
      let i = c.loop-i.i in
      let same : bytes_at bytes c.reg-start.result 256 ≡ c.args.self.now.stack = ap (λ (a : ℕ). bytes_at bytes a 256) c.reg-start.ensures ∙ is in
      let byte : get_or c.args.self.now.stack i 0 ≡ byte_at bytes (wrap (c.reg-start.result + i)) = window_at bytes c.reg-start.result 256 i c.args.self.now.stack same c.loop-i-test.true in
      absurd (c.if-peek_byte-deref.true
      (c.peek_byte.ensures ∙ ap (λ (m : Memory). byte_at m.space.bytes (wrap (c.reg-start.result + i))) c.space.ensures
      ∙ sym byte ∙ ap (λ (xs : List ℕ). get_or xs i 0) (sym (c.deref.ensures.0 ∙ stack)))),
)

pub loop-i-preserved : goal.loop-i-preserved
loop-i-preserved c =
    let stack : c.self.inside.stack.items ≡ c.args.self.now.stack = ap (λ s. s.stack) c.self.view_is in
    let bytes = c.args.guest.now.machine.space.bytes in
    let i = c.loop-i.i in
    let here : byte_at bytes (wrap (c.reg-start.result + i)) ≡ get_or c.args.self.now.stack i 0 =
    sym (c.peek_byte.ensures ∙ ap (λ (m : Memory). byte_at m.space.bytes (wrap (c.reg-start.result + i))) c.space.ensures)
    ∙ c.if-peek_byte-deref.false ∙ ap (λ (xs : List ℕ). get_or xs i 0) (c.deref.ensures.0 ∙ stack) in
    window_more bytes c.reg-start.result i
    ∙ ap (λ (b : ℕ). bytes_at bytes c.reg-start.result i ++ b ∷ []) here
    ∙ ap (λ (xs : List ℕ). xs ++ get_or c.args.self.now.stack i 0 ∷ []) c.loop-i.invariant
    ∙ sym (take_more c.args.self.now.stack i 0 (omega (arith, c.loop-i-test.true, c.self.invariant, ap length stack)))

pub returns : goal.returns
returns c =
    let stack : c.self.inside.stack.items ≡ c.args.self.now.stack = ap (λ s. s.stack) c.self.view_is in
    let all : c.loop-i.i ≡ 256 = omega (arith, c.loop-i-test.false, c.loop-i.auto.i-end) in (
      λ yes. sym (ap (λ (a : ℕ). bytes_at c.args.guest.now.machine.space.bytes a 256) c.reg-start.ensures)
          ∙ (rw all at c.loop-i.invariant)
          ∙ take_all 256 c.args.self.now.stack (omega (arith, c.self.invariant, ap length stack)),
      λ is. refl,
    )
