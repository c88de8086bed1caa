use Rattle.std.proofs.Common.{◌≡◌, ◌<◌, ◌≤◌, ◌*◌, ◌∙◌, ℕ, List, ap, sym, subst, arith}
use Rattle.std.specs.List.{list_all}
use Rattle.guest_model.specs.Areas.{is_range_permitted}
use Rattle.guest_model.specs.Calls.{Deed, Takes, argument, array_of, can_write, readv_row, storable, used_ranges}
use Rattle.guest_model.specs.Range.{Range, total_size}
use Rattle.guest_model.specs.declared.Access.TheVariants.{Read, Write}
use Rattle.guest_model.specs.declared.platform.TheConstants.{EBADF, EFAULT, EINVAL, MOST_RANGES}
use Rattle.guest_model.proofs.Used.{small_used}
use Rattle.guest_mem.specs.Frames.{HasAllFrames}
use Rattle.guest_mem.specs.Memory.{Memory}
use Rattle.syscall_layer.proofs.Deeds.{failed, served_as}
use Rattle.syscall_layer.proofs.Rows.{readv_denied, readv_long, readv_other, readv_takes, readv_unwritable, tested}
use Rattle.syscall_layer.proofs.input.readv_call.Goals as goal

pub returns-then-reg-ne0 : goal.returns-then-reg-ne0
returns-then-reg-ne0 g c =
    failed (readv_row c.args.guest.now.machine) EBADF c.failure.result _ _ c.args.guest.now c.finish.new.guest c.finish.result
    (readv_other c.args.guest.now.machine (λ e. c.if-reg-ne0.true (c.reg.ensures ∙ e)))
    c.failure.ensures c.finish.ensures.served c.finish.ensures.machine c.finish.ensures.frames c.finish.ensures.origin

pub returns-then-count-gt-MOST_RANGES : goal.returns-then-count-gt-MOST_RANGES
returns-then-count-gt-MOST_RANGES g c =
    let old = c.args.guest.now in
    let input : argument old.machine 0 ≡ 0 = sym c.reg.ensures ∙ c.if-reg-ne0.false in
    let long : MOST_RANGES < argument old.machine 2 = omega (arith, c.if-count-gt-MOST_RANGES.true, c.reg-count.ensures) in
    failed (readv_row c.args.guest.now.machine) EINVAL c.failure-then-count-gt-MOST_RANGES.result _ _ c.args.guest.now c.finish-then-count-gt-MOST_RANGES.new.guest c.finish-then-count-gt-MOST_RANGES.result
    (readv_long old.machine input long)
    c.failure-then-count-gt-MOST_RANGES.ensures c.finish-then-count-gt-MOST_RANGES.ensures.served c.finish-then-count-gt-MOST_RANGES.ensures.machine c.finish-then-count-gt-MOST_RANGES.ensures.frames c.finish-then-count-gt-MOST_RANGES.ensures.origin

pub returns-then-not-readable : goal.returns-then-not-readable
returns-then-not-readable g c =
    let old = c.args.guest.now in
    let input : argument old.machine 0 ≡ 0 = sym c.reg.ensures ∙ c.if-reg-ne0.false in
    let short : argument old.machine 2 ≤ MOST_RANGES = omega (arith, c.if-count-gt-MOST_RANGES.false, c.reg-count.ensures) in
    let array = tested Read old c.space.result.now c.reg-array.result (8 * c.reg-count.result) (argument old.machine 1) (8 * argument old.machine 2) c.readable.result c.readable.ensures c.space.ensures c.reg-array.ensures (ap (λ (n : ℕ). 8 * n) c.reg-count.ensures) in
    failed (readv_row c.args.guest.now.machine) EFAULT c.failure-then-not-readable.result _ _ c.args.guest.now c.finish-then-not-readable.new.guest c.finish-then-not-readable.result
    (readv_denied old.machine input short (sym array ∙ c.if-not-readable.true))
    c.failure-then-not-readable.ensures c.finish-then-not-readable.ensures.served c.finish-then-not-readable.ensures.machine c.finish-then-not-readable.ensures.frames c.finish-then-not-readable.ensures.origin

pub returns-then-not-are_writable : goal.returns-then-not-are_writable
returns-then-not-are_writable g c =
    let old = c.args.guest.now in
    let input : argument old.machine 0 ≡ 0 = sym c.reg.ensures ∙ c.if-reg-ne0.false in
    let short : argument old.machine 2 ≤ MOST_RANGES = omega (arith, c.if-count-gt-MOST_RANGES.false, c.reg-count.ensures) in
    let array = tested Read old c.space.result.now c.reg-array.result (8 * c.reg-count.result) (argument old.machine 1) (8 * argument old.machine 2) c.readable.result c.readable.ensures c.space.ensures c.reg-array.ensures (ap (λ (n : ℕ). 8 * n) c.reg-count.ensures) in
    let ranges = c.deref.ensures.0 ∙ c.used_ranges-ranges.ensures in
    let writable =
    c.are_writable.ensures
    ∙ ap (λ (m : Memory). list_all (λ r. is_range_permitted Write m.space.areas r.at r.size) c.deref.result.now) c.space-2.ensures
    ∙ ap (λ (rs : List Range). list_all (λ r. can_write old.machine r.at r.size) rs) ranges in
    failed (readv_row c.args.guest.now.machine) EFAULT c.failure-then-not-are_writable.result _ _ c.args.guest.now c.finish-then-not-are_writable.new.guest c.finish-then-not-are_writable.result
    (readv_unwritable old.machine input short (sym array ∙ c.if-not-readable.false) (sym writable ∙ c.if-not-are_writable.true))
    c.failure-then-not-are_writable.ensures c.finish-then-not-are_writable.ensures.served c.finish-then-not-are_writable.ensures.machine c.finish-then-not-are_writable.ensures.frames c.finish-then-not-are_writable.ensures.origin

pub take_into-requires-clause-few : goal.take_into-requires-clause-few
take_into-requires-clause-few g c =
    omega (arith, small_used (array_of c.args.guest.now.machine), ap (λ (rs : List Range). total_size rs) (c.deref-2.ensures.0 ∙ c.used_ranges-ranges.ensures))

pub take_into-requires-clause-frames : goal.take_into-requires-clause-frames
take_into-requires-clause-frames g c =
    let old = c.args.guest.now in
    let input : argument old.machine 0 ≡ 0 = sym c.reg.ensures ∙ c.if-reg-ne0.false in
    let short : argument old.machine 2 ≤ MOST_RANGES = omega (arith, c.if-count-gt-MOST_RANGES.false, c.reg-count.ensures) in
    let array = tested Read old c.space.result.now c.reg-array.result (8 * c.reg-count.result) (argument old.machine 1) (8 * argument old.machine 2) c.readable.result c.readable.ensures c.space.ensures c.reg-array.ensures (ap (λ (n : ℕ). 8 * n) c.reg-count.ensures) in
    let ranges = c.deref.ensures.0 ∙ c.used_ranges-ranges.ensures in
    let writable =
    c.are_writable.ensures
    ∙ ap (λ (m : Memory). list_all (λ r. is_range_permitted Write m.space.areas r.at r.size) c.deref.result.now) c.space-2.ensures
    ∙ ap (λ (rs : List Range). list_all (λ r. can_write old.machine r.at r.size) rs) ranges in
    let takes = readv_takes old.machine input short (sym array ∙ c.if-not-readable.false) (sym writable ∙ c.if-not-are_writable.false) in
    let all : HasAllFrames old.frames (used_ranges (array_of old.machine)) = subst (λ (d : Deed). HasAllFrames old.frames (storable d)) takes c.requires in
    subst (λ (rs : List Range). HasAllFrames old.frames rs) (sym (c.deref-2.ensures.0 ∙ c.used_ranges-ranges.ensures)) all

pub returns : goal.returns
returns g c =
    let old = c.args.guest.now in
    let input : argument old.machine 0 ≡ 0 = sym c.reg.ensures ∙ c.if-reg-ne0.false in
    let short : argument old.machine 2 ≤ MOST_RANGES = omega (arith, c.if-count-gt-MOST_RANGES.false, c.reg-count.ensures) in
    let array = tested Read old c.space.result.now c.reg-array.result (8 * c.reg-count.result) (argument old.machine 1) (8 * argument old.machine 2) c.readable.result c.readable.ensures c.space.ensures c.reg-array.ensures (ap (λ (n : ℕ). 8 * n) c.reg-count.ensures) in
    let ranges = c.deref.ensures.0 ∙ c.used_ranges-ranges.ensures in
    let writable =
    c.are_writable.ensures
    ∙ ap (λ (m : Memory). list_all (λ r. is_range_permitted Write m.space.areas r.at r.size) c.deref.result.now) c.space-2.ensures
    ∙ ap (λ (rs : List Range). list_all (λ r. can_write old.machine r.at r.size) rs) ranges in
    let takes = readv_takes old.machine input short (sym array ∙ c.if-not-readable.false) (sym writable ∙ c.if-not-are_writable.false) in
    served_as (Takes c.deref-2.result.now) (readv_row old.machine) _ _ _ _ c.take_into.result old c.take_into.new.guest
    (takes ∙ ap (λ (rs : List Range). Takes rs) (sym (c.deref-2.ensures.0 ∙ c.used_ranges-ranges.ensures)))
    c.take_into.ensures
