use Rattle.std.proofs.Common.{◌≡◌, ◌≤◌, ◌∙◌, List, ℕ, length, take, ap, sym, arith}
use Rattle.std.proofs.lemmas.List.{length-take-le}
use Rattle.guest_model.specs.Call.{filled}
use Rattle.guest_model.specs.Range.{Range, total_size}
use Rattle.syscall_layer.proofs.Received.{all_have_bytes, filled_kept, filled_whole}
use Rattle.syscall_layer.proofs.input.take_input.Goals as goal

pub deal-requires : goal.deal-requires
deal-requires g c = all_have_bytes c.in_ok-writes.writes.items c.args.ranges.now c.in_ok-writes.ensures

pub returns-clause-fills : goal.returns-clause-fills
returns-clause-fills g c =
    let total : length c.fill.new.buffer ≡ total_size c.args.ranges.now = omega (arith, c.in-Ok.ensures.size, c.deref_mut.ensures.len, c.in_ok-bytes.ensures.len, c.size_of.ensures) in
    let whole = filled_whole c.fill.new.buffer c.in_ok-bytes.bytes.items c.deref.result.now c.in_ok-bytes.bytes.len c.deref.ensures.value (omega (arith, c.in-Ok.ensures.size, c.deref_mut.ensures.len)) in
    let within : c.in-Ok.count ≤ length c.deref.result.now = omega (arith, c.in-Ok.ensures.bound, ap (λ (xs : List ℕ). length xs) whole) in
    record {
      bytes = take c.in-Ok.count c.deref.result.now;
      counted = sym (length-take-le c.in-Ok.count c.deref.result.now within);
      few = omega (arith, within, length-take-le c.in-Ok.count c.deref.result.now within, c.in-Ok.ensures.bound, total);
      fills = c.deal.ensures ∙ ap (λ (ps : List Range). filled ps (take c.in-Ok.count c.deref.result.now)) c.in_ok-writes.ensures ∙ filled_kept c.args.ranges.now (take c.in-Ok.count c.deref.result.now);
      taken = λ left is.
          ap (λ (xs : List ℕ). take c.in-Ok.count xs) whole ∙ (c.in-Ok.ensures.bytes left is).bytes ∙ ap (λ (k : ℕ). take k left) total;
    }
