use Rattle.std.proofs.Common.{◌≡◌, sym, ◌∙◌, map, arith, refl, subst, Bool, IsTrue}
use Rattle.rv_machine.specs.Slots.{file_of}
use Rattle.rv_machine.proofs.Slots.{same_more, apart, all_same}
use Rattle.rv_machine.proofs.descriptors.Descriptors.same.Goals as goal

pub returns-then-not-same : goal.returns-then-not-same
returns-then-not-same c = (
  λ no. absurd (cc (no)),
  λ is.
      let files : map file_of c.self.inside.slots.items ≡ map file_of c.other.inside.slots.items = c.self.view_is ∙ is ∙ sym c.other.view_is in
      subst (λ (b : Bool). IsTrue b) c.if-not-same.true (c.same.ensures.1 (apart c.self.inside.slots.items c.other.inside.slots.items c.loop-k.k c.index-self-k.result c.index-other-k.result
      (omega (arith, c.loop-k-test.true, c.self.invariant)) (omega (arith, c.loop-k-test.true, c.other.invariant)) files)),
)

pub loop-k-preserved : goal.loop-k-preserved
loop-k-preserved c =
    same_more c.self.inside.slots.items c.other.inside.slots.items c.loop-k.k c.index-self-k.result c.index-other-k.result
    (omega (arith, c.loop-k-test.true, c.self.invariant)) (omega (arith, c.loop-k-test.true, c.other.invariant)) c.loop-k.invariant
    (c.same.ensures.0 (subst (λ (b : Bool). IsTrue b) (sym c.if-not-same.false) refl))

pub returns : goal.returns
returns c = (
  λ yes. sym c.self.view_is ∙ all_same c.self.inside.slots.items c.other.inside.slots.items c.loop-k.k (omega (arith, c.loop-k-test.false, c.self.invariant)) (omega (arith, c.loop-k-test.false, c.other.invariant)) c.loop-k.invariant ∙ c.other.view_is,
  λ is. refl,
)
