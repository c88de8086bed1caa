use Rattle.std.proofs.Common.{◌<◌, ◌+◌, ◌*◌, ◌∙◌, ◌&&◌, Bool, List, ap, sym, arith}
use Rattle.std.specs.List.{list_all}
use Rattle.guest_model.specs.Areas.{is_range_permitted}
use Rattle.guest_model.specs.Range.{Range}
use Rattle.guest_model.specs.Calls.{argument, can_read, range_at}
use Rattle.guest_model.specs.declared.Access.TheVariants.{Read}
use Rattle.guest_mem.specs.Memory.{Memory}
use Rattle.syscall_layer.proofs.Arrays.{all_more, not_all, take_ranges}
use Rattle.syscall_layer.proofs.ranges.are_readable.Goals as goal

pub returns-then-not-readable : goal.returns-then-not-readable
returns-then-not-readable c =
    let m = c.args.guest.now.machine in
    let among : c.loop-k.k < argument m 2 = omega (arith, c.reg-k-end.ensures) in
    let tested =
    c.readable.ensures
    ∙ ap (λ (s : Memory). is_range_permitted Read s.space.areas c.range.inside.at c.range.inside.size) c.space.ensures
    ∙ ap (λ (p : Range). can_read m p.at p.size) (c.range.view_is ∙ c.range_at-range.ensures) in
    sym (not_all m (λ p. can_read m p.at p.size) c.loop-k.k among (sym tested ∙ c.if-not-readable.true))

pub loop-k-preserved : goal.loop-k-preserved
loop-k-preserved c =
    let m = c.args.guest.now.machine in
    let among : c.loop-k.k < argument m 2 = omega (arith, c.reg-k-end.ensures) in
    let tested =
    c.readable.ensures
    ∙ ap (λ (s : Memory). is_range_permitted Read s.space.areas c.range.inside.at c.range.inside.size) c.space.ensures
    ∙ ap (λ (p : Range). can_read m p.at p.size) (c.range.view_is ∙ c.range_at-range.ensures) in
    all_more m (λ p. can_read m p.at p.size) c.loop-k.k among
    ∙ (ap (λ (b : Bool). b && can_read m (range_at m (argument m 1 + 8 * c.loop-k.k)).at (range_at m (argument m 1 + 8 * c.loop-k.k)).size) c.loop-k.invariant ∙ (sym tested ∙ c.if-not-readable.false))

pub returns : goal.returns
returns c =
    let m = c.args.guest.now.machine in
    sym (ap (λ (ps : List Range). list_all (λ p. can_read m p.at p.size) ps) (sym (take_ranges m c.loop-k.k (omega (arith, c.reg-k-end.ensures)))) ∙ c.loop-k.invariant)
