-- The row's name is the word's, and so are the fields.
use Rattle.std.proofs.Common.{◌≡◌, ap, Some, None, sym, ◌∙◌, rules}
use Rattle.rv_isa.proofs.Unique.{one_instr}
use Rattle.rv_isa.proofs.Decoded.{decoded_is, decoded_none}
use Rattle.rv_isa.proofs.decoder.decode.Goals as goal

pub returns-clause-only : goal.returns-clause-only
returns-clause-only c = λ i h.
    let same : c.fields.result.op ≡ i.op = cc (c.op_of.ensures.only c.fields.result.op c.fields.ensures.fixed, c.op_of.ensures.only i.op h.fixed) in
    ap Some (one_instr c.args.word c.fields.result i same c.fields.ensures h)

pub returns-clause-value : goal.returns-clause-value
returns-clause-value c = sym (decoded_is c.args.word c.fields.result c.fields.ensures)

pub returns-in_err-op-clause-value : goal.returns-in_err-op-clause-value
returns-in_err-op-clause-value c =
    let none : c.from_residual.result ≡ None = search rules in
    none ∙ sym (decoded_none c.args.word (λ op h. cc (c.in_err-op.ensures.only op h)))
