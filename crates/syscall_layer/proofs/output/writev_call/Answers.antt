use Rattle.std.proofs.Common.{◌≡◌, ◌<◌, ◌≤◌, ◌*◌, ◌∙◌, ap, sym, true, ℕ, arith}
use Rattle.std.specs.List.{flat_map}
use Rattle.guest_model.specs.Calls.{Sends, argument, array_of, is_output, range_bytes, writev_row}
use Rattle.guest_model.specs.Range.{total_size}
use Rattle.guest_model.specs.declared.Access.TheVariants.{Read}
use Rattle.guest_model.specs.declared.platform.TheConstants.{EBADF, EFAULT, EINVAL, MOST_RANGES, MOST_SENT}
use Rattle.syscall_layer.proofs.Deeds.{failed, output_port, sent_all}
use Rattle.syscall_layer.proofs.Rows.{tested, writev_denied, writev_large, writev_long, writev_other, writev_sends, writev_unreadable}
use Rattle.syscall_layer.proofs.output.writev_call.Goals as goal

pub returns-in_default : goal.returns-in_default
returns-in_default g c =
    failed (writev_row c.args.guest.now.machine) EBADF c.failure.result _ _ c.args.guest.now c.finish.new.guest c.finish.result
    (writev_other c.args.guest.now.machine (ap is_output (sym c.reg.ensures) ∙ c.in_default.ensures))
    c.failure.ensures c.finish.ensures.served c.finish.ensures.machine c.finish.ensures.frames c.finish.ensures.origin

pub returns-then-count-gt-MOST_RANGES : goal.returns-then-count-gt-MOST_RANGES
returns-then-count-gt-MOST_RANGES g c =
    let old = c.args.guest.now in
    let output : is_output (argument old.machine 0) ≡ true = ap is_output (sym c.reg.ensures) ∙ c.in-Some.ensures.0 in
    let long : MOST_RANGES < argument old.machine 2 = omega (arith, c.if-count-gt-MOST_RANGES.true, c.reg-count.ensures) in
    failed (writev_row c.args.guest.now.machine) EINVAL c.failure-then-count-gt-MOST_RANGES.result _ _ c.args.guest.now c.finish-then-count-gt-MOST_RANGES.new.guest c.finish-then-count-gt-MOST_RANGES.result
    (writev_long old.machine output long)
    c.failure-then-count-gt-MOST_RANGES.ensures c.finish-then-count-gt-MOST_RANGES.ensures.served c.finish-then-count-gt-MOST_RANGES.ensures.machine c.finish-then-count-gt-MOST_RANGES.ensures.frames c.finish-then-count-gt-MOST_RANGES.ensures.origin

pub returns-then-not-readable : goal.returns-then-not-readable
returns-then-not-readable g c =
    let old = c.args.guest.now in
    let output : is_output (argument old.machine 0) ≡ true = ap is_output (sym c.reg.ensures) ∙ c.in-Some.ensures.0 in
    let short : argument old.machine 2 ≤ MOST_RANGES = omega (arith, c.if-count-gt-MOST_RANGES.false, c.reg-count.ensures) in
    let array = tested Read old c.space.result.now c.reg-array.result (8 * c.reg-count.result) (argument old.machine 1) (8 * argument old.machine 2) c.readable.result c.readable.ensures c.space.ensures c.reg-array.ensures (ap (λ (n : ℕ). 8 * n) c.reg-count.ensures) in
    failed (writev_row c.args.guest.now.machine) EFAULT c.failure-then-not-readable.result _ _ c.args.guest.now c.finish-then-not-readable.new.guest c.finish-then-not-readable.result
    (writev_denied old.machine output short (sym array ∙ c.if-not-readable.true))
    c.failure-then-not-readable.ensures c.finish-then-not-readable.ensures.served c.finish-then-not-readable.ensures.machine c.finish-then-not-readable.ensures.frames c.finish-then-not-readable.ensures.origin

pub returns-then-total : goal.returns-then-total
returns-then-total g c =
    let old = c.args.guest.now in
    let output : is_output (argument old.machine 0) ≡ true = ap is_output (sym c.reg.ensures) ∙ c.in-Some.ensures.0 in
    let short : argument old.machine 2 ≤ MOST_RANGES = omega (arith, c.if-count-gt-MOST_RANGES.false, c.reg-count.ensures) in
    let array = tested Read old c.space.result.now c.reg-array.result (8 * c.reg-count.result) (argument old.machine 1) (8 * argument old.machine 2) c.readable.result c.readable.ensures c.space.ensures c.reg-array.ensures (ap (λ (n : ℕ). 8 * n) c.reg-count.ensures) in
    let large : MOST_SENT < total_size (array_of old.machine) = omega (arith, c.if-total.true, c.total_size-total.ensures) in
    failed (writev_row c.args.guest.now.machine) EINVAL c.failure-then-total.result _ _ c.args.guest.now c.finish-then-total.new.guest c.finish-then-total.result
    (writev_large old.machine output short (sym array ∙ c.if-not-readable.false) large)
    c.failure-then-total.ensures c.finish-then-total.ensures.served c.finish-then-total.ensures.machine c.finish-then-total.ensures.frames c.finish-then-total.ensures.origin

pub returns-then-not-are_readable : goal.returns-then-not-are_readable
returns-then-not-are_readable g c =
    let old = c.args.guest.now in
    let output : is_output (argument old.machine 0) ≡ true = ap is_output (sym c.reg.ensures) ∙ c.in-Some.ensures.0 in
    let short : argument old.machine 2 ≤ MOST_RANGES = omega (arith, c.if-count-gt-MOST_RANGES.false, c.reg-count.ensures) in
    let array = tested Read old c.space.result.now c.reg-array.result (8 * c.reg-count.result) (argument old.machine 1) (8 * argument old.machine 2) c.readable.result c.readable.ensures c.space.ensures c.reg-array.ensures (ap (λ (n : ℕ). 8 * n) c.reg-count.ensures) in
    let small : total_size (array_of old.machine) ≤ MOST_SENT = omega (arith, c.if-total.false, c.total_size-total.ensures) in
    failed (writev_row c.args.guest.now.machine) EFAULT c.failure-then-not-are_readable.result _ _ c.args.guest.now c.finish-then-not-are_readable.new.guest c.finish-then-not-are_readable.result
    (writev_unreadable old.machine output short (sym array ∙ c.if-not-readable.false) small (sym c.are_readable.ensures ∙ c.if-not-are_readable.true))
    c.failure-then-not-are_readable.ensures c.finish-then-not-are_readable.ensures.served c.finish-then-not-are_readable.ensures.machine c.finish-then-not-are_readable.ensures.frames c.finish-then-not-are_readable.ensures.origin

pub returns-in-Ok : goal.returns-in-Ok
returns-in-Ok g c =
    let old = c.args.guest.now in
    let output : is_output (argument old.machine 0) ≡ true = ap is_output (sym c.reg.ensures) ∙ c.in-Some.ensures.0 in
    let short : argument old.machine 2 ≤ MOST_RANGES = omega (arith, c.if-count-gt-MOST_RANGES.false, c.reg-count.ensures) in
    let array = tested Read old c.space.result.now c.reg-array.result (8 * c.reg-count.result) (argument old.machine 1) (8 * argument old.machine 2) c.readable.result c.readable.ensures c.space.ensures c.reg-array.ensures (ap (λ (n : ℕ). 8 * n) c.reg-count.ensures) in
    let small : total_size (array_of old.machine) ≤ MOST_SENT = omega (arith, c.if-total.false, c.total_size-total.ensures) in
    let names = c.in-Some.ensures.1 ∙ c.reg.ensures in
    let bytes = flat_map (range_bytes old.machine) (array_of old.machine) in
    sent_all (writev_row old.machine) c.in-Some.port (argument old.machine 0) c.total_size-total.result bytes (g.H.Host.told c.args.host.now) (g.H.Host.told c.send_array.new.host) _ _ old c.finish-in-Ok.new.guest c.finish-in-Ok.result
    (writev_sends old.machine output short (sym array ∙ c.if-not-readable.false) small (sym c.are_readable.ensures ∙ c.if-not-are_readable.false) ∙ ap (λ (n : ℕ). Sends (argument old.machine 0) bytes n) (sym c.total_size-total.ensures))
    names (output_port c.in-Some.port (argument old.machine 0) names output)
    c.finish-in-Ok.ensures.served c.finish-in-Ok.ensures.machine c.finish-in-Ok.ensures.frames c.finish-in-Ok.ensures.origin
    c.in-Ok.ensures.told c.in-Ok.ensures.faults
