use Rattle.std.proofs.Common.{◌≡◌, ◌+◌, ◌≤◌, ◌∙◌, ap, arith, get_or, length, slice_set}
use Rattle.std.proofs.Math.ListN.{length-set}
use Rattle.std.proofs.lemmas.List.{get_or-take, length-take-le}
use Rattle.std.proofs.lemmas.List.Edits.{fill_by_more}
use Rattle.guest_model.specs.Areas.{wrap}
use Rattle.guest_model.specs.Bytes.{byte_at, number_of}
use Rattle.guest_mem.proofs.Numbers.{bytes_read}
use Rattle.guest_mem.proofs.space.Space.number_across.Goals as goal

pub loop-i-preserved : goal.loop-i-preserved
loop-i-preserved c = record {
  len = length-set c.loop-i.bytes c.loop-i.i c.peek_byte.result ∙ c.loop-i.invariant.len;
  read = λ k lt.
      ap (λ x. get_or (slice_set c.loop-i.bytes c.loop-i.i x) k 0) c.peek_byte.ensures
      ∙ fill_by_more (λ i. byte_at c.args.self.now.space.bytes (wrap (c.args.at + i))) c.loop-i.bytes c.loop-i.i 0 (omega arith) c.loop-i.invariant.read k lt;
}

pub returns-clause-number : goal.returns-clause-number
returns-clause-number c =
    let done : c.loop-i.i ≡ c.args.size = omega arith in
    let size : c.args.size ≤ length c.loop-i.bytes = omega arith in
    c.number_of.ensures.number
    ∙ ap number_of (bytes_read c.args.self.now.space.bytes c.args.at c.args.size _ (length-take-le c.args.size c.loop-i.bytes size) (λ i lt. get_or-take c.args.size c.loop-i.bytes i 0 lt ∙ c.loop-i.invariant.read i (omega arith)))
