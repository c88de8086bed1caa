use Rattle.std.proofs.Common.{◌≡◌, ◌+◌, ap, sym, ◌∙◌, arith}
use Rattle.std.proofs.lemmas.List.{length-take}
use Rattle.guest_model.specs.Areas.{is_permitted}
use Rattle.guest_model.specs.declared.Access.TheVariants.{Write}
use Rattle.guest_mem.proofs.Permitted.{below_permitted}
use Rattle.guest_mem.proofs.space.Space.store.Goals as goal

pub store_bytes-requires-clause-end : goal.store_bytes-requires-clause-end
store_bytes-requires-clause-end c = omega (arith, c.allows.ensures.below c.if-not-allows.false, length-take c.args.size c.low_bytes-bytes.result)

pub store_bytes-requires-clause-writable : goal.store_bytes-requires-clause-writable
store_bytes-requires-clause-writable c = λ i lt.
    below_permitted Write c.args.self.now.space.areas c.args.at c.args.size i (sym c.allows.ensures.permitted ∙ c.if-not-allows.false) (c.allows.ensures.below c.if-not-allows.false) (omega (arith, lt, length-take c.args.size c.low_bytes-bytes.result))

pub store_in_page-requires-clause-writable : goal.store_in_page-requires-clause-writable
store_in_page-requires-clause-writable c =
    let same : c.args.at ≡ c.args.at + 0 = omega arith in
    ap (is_permitted Write c.args.self.now.space.areas) same
    ∙ below_permitted Write c.args.self.now.space.areas c.args.at c.args.size 0 (sym c.allows.ensures.permitted ∙ c.if-not-allows.false) (c.allows.ensures.below c.if-not-allows.false) (omega arith)
