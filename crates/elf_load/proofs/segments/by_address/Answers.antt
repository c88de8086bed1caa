use Rattle.std.proofs.Common.{◌≡◌, ◌<◌, ◌+◌, ◌-◌, length, sym, ap, ◌∙◌, arith}
use Rattle.std.specs.Map.{values_of}
use Rattle.elf_load.specs.Elf.{in_order}
use Rattle.elf_load.proofs.Found.{no_header}
use Rattle.elf_load.proofs.Order.{segments_from, segment_kept, none_behind}
use Rattle.elf_load.proofs.segments.by_address.Goals as goal

pub loop-k-init : goal.loop-k-init
loop-k-init c = record {
  within = omega arith;
  same = c.new-segments.ensures.empty ∙ sym (none_behind c.args.headers.now);
}

pub loop-k-preserved-in_ok-insert : goal.loop-k-preserved-in_ok-insert
loop-k-preserved-in_ok-insert c =
    let k = c.loop-k.k in
    let back : k ≡ k - 1 + 1 = omega arith in
    let lt : k - 1 < length c.args.headers.now = omega (arith, c.loop-k.invariant.within) in
    record {
      within = omega arith;
      same =
          segment_kept c.args.headers.now (k - 1) no_header lt c.loop-k.segments.entries
          (c.loop-k.invariant.same ∙ ap (segments_from c.args.headers.now) back)
          _ (sym c.is_segment.ensures ∙ c.if-is_segment.true) c.in_ok-insert.ensures.entries;
    }

pub returns : goal.returns
unfolding in_order
returns c =
    let none : c.loop-k.k ≡ 0 = omega arith in
    ap values_of (c.loop-k.invariant.same ∙ ap (segments_from c.args.headers.now) none)
