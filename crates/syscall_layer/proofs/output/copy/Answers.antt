use Rattle.std.proofs.Common.{◌≡◌, ◌+◌, ◌∙◌, ap, arith, get_or, length, slice_set}
use Rattle.std.proofs.Math.ListN.{length-set}
use Rattle.std.proofs.lemmas.List.Edits.{fill_by_more}
use Rattle.guest_model.specs.Areas.{wrap}
use Rattle.guest_model.specs.Bytes.{byte_at}
use Rattle.guest_mem.proofs.Numbers.{bytes_read}
use Rattle.syscall_layer.proofs.output.copy.Goals as goal

pub loop-i-preserved : goal.loop-i-preserved
loop-i-preserved c =
    let here : c.args.at + c.loop-i.i ≡ wrap (c.args.at + c.loop-i.i) = omega arith in
    record {
      len = length-set c.loop-i.buffer c.loop-i.i c.peek_byte.result ∙ c.loop-i.invariant.len;
      copied = λ k lt.
          ap (λ x. get_or (slice_set c.loop-i.buffer c.loop-i.i x) k 0) (c.peek_byte.ensures ∙ ap (byte_at c.args.space.now.space.bytes) here)
          ∙ fill_by_more (λ i. byte_at c.args.space.now.space.bytes (wrap (c.args.at + i))) c.loop-i.buffer c.loop-i.i 0 (omega arith) c.loop-i.invariant.copied k lt;
    }

pub returns : goal.returns
returns c =
    let all : c.loop-i.i ≡ length c.args.buffer.now = omega arith in
    bytes_read c.args.space.now.space.bytes c.args.at (length c.args.buffer.now) c.loop-i.buffer c.loop-i.invariant.len (λ i lt. c.loop-i.invariant.copied i (omega arith))
