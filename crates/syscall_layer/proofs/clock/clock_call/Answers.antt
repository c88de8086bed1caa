use Rattle.std.proofs.Common.{◌≡◌, ◌∙◌, ◌<◌, ◌≤◌, ℕ, true, List, [], ◌∷◌, map, ap, sym, subst, refl, arith}
use Rattle.std.proofs.lemmas.Bool.{and_from}
use Rattle.call_record.specs.Record.{Stored}
use Rattle.guest_model.specs.Areas.{is_range_permitted}
use Rattle.guest_model.specs.Call.{stored_at, time_bytes}
use Rattle.guest_model.specs.Calls.{Deed, Tells, argument, clock_row, storable}
use Rattle.guest_model.specs.Range.{range}
use Rattle.guest_model.specs.declared.Access.TheVariants.{Write}
use Rattle.guest_model.specs.declared.platform.TheConstants.{EFAULT, EINVAL, TIMESPEC_SIZE}
use Rattle.guest_mem.specs.Frames.{HasAllFrames}
use Rattle.syscall_layer.specs.Serve.{range_of}
use Rattle.syscall_layer.proofs.Permitted.{filled_writable}
use Rattle.syscall_layer.proofs.Received.{filled_has}
use Rattle.syscall_layer.proofs.Deeds.{failed, told_time, time_fills}
use Rattle.syscall_layer.proofs.Rows.{clock_denied, clock_no_clock, clock_tells, tested}
use Rattle.syscall_layer.proofs.clock.clock_call.Goals as goal

pub returns-then-reg-gt1 : goal.returns-then-reg-gt1
returns-then-reg-gt1 g c =
    let high : 1 < argument c.args.guest.now.machine 0 = omega (arith, c.if-reg-gt1.true, c.reg.ensures) in
    failed (clock_row c.args.guest.now.machine) EINVAL c.failure.result _ _ c.args.guest.now c.finish.new.guest c.finish.result
    (clock_no_clock c.args.guest.now.machine high)
    c.failure.ensures c.finish.ensures.served c.finish.ensures.machine c.finish.ensures.frames c.finish.ensures.origin

pub returns-then-not-writable : goal.returns-then-not-writable
returns-then-not-writable g c =
    let old = c.args.guest.now in
    let known : argument old.machine 0 ≤ 1 = omega (arith, c.if-reg-gt1.false, c.reg.ensures) in
    let test = tested Write old c.space.result.now c.reg-at.result TIMESPEC_SIZE (argument old.machine 1) TIMESPEC_SIZE c.writable.result c.writable.ensures c.space.ensures c.reg-at.ensures refl in
    failed (clock_row c.args.guest.now.machine) EFAULT c.failure-then-not-writable.result _ _ c.args.guest.now c.finish-then-not-writable.new.guest c.finish-then-not-writable.result
    (clock_denied old.machine known (sym test ∙ c.if-not-writable.true))
    c.failure-then-not-writable.ensures c.finish-then-not-writable.ensures.served c.finish-then-not-writable.ensures.machine c.finish-then-not-writable.ensures.frames c.finish-then-not-writable.ensures.origin

pub finish_storing-requires-clause-writable : goal.finish_storing-requires-clause-writable
finish_storing-requires-clause-writable g c =
    let old = c.args.guest.now in
    let at = c.reg-at.result in
    let test = tested Write old c.space.result.now at TIMESPEC_SIZE at TIMESPEC_SIZE c.writable.result c.writable.ensures c.space.ensures refl refl in
    let allowed : is_range_permitted Write old.machine.space.areas at TIMESPEC_SIZE ≡ true = sym test ∙ c.if-not-writable.false in
    filled_writable old.machine.space.areas (range at TIMESPEC_SIZE ∷ []) c.written.result.items (time_bytes c.now.result) (and_from (is_range_permitted Write old.machine.space.areas at TIMESPEC_SIZE) true allowed refl)
    (c.written.ensures ∙ (ap (stored_at at) c.timespec-time.ensures ∙ time_fills at c.now.result))

pub finish_storing-requires-clause-frames : goal.finish_storing-requires-clause-frames
finish_storing-requires-clause-frames g c =
    let old = c.args.guest.now in
    let at = c.reg-at.result in
    let known : argument old.machine 0 ≤ 1 = omega (arith, c.if-reg-gt1.false, c.reg.ensures) in
    let test = tested Write old c.space.result.now at TIMESPEC_SIZE (argument old.machine 1) TIMESPEC_SIZE c.writable.result c.writable.ensures c.space.ensures c.reg-at.ensures refl in
    let tells = clock_tells old.machine known (sym test ∙ c.if-not-writable.false) ∙ ap (λ (n : ℕ). Tells n) (sym c.reg-at.ensures) in
    let has : HasAllFrames old.frames (range at TIMESPEC_SIZE ∷ []) = subst (λ (d : Deed). HasAllFrames old.frames (storable d)) tells c.requires in
    let is = c.written.ensures ∙ (ap (stored_at at) c.timespec-time.ensures ∙ time_fills at c.now.result) in
    subst (λ (ws : List Stored). HasAllFrames old.frames (map range_of ws)) (sym is) (filled_has old.frames (range at TIMESPEC_SIZE ∷ []) (time_bytes c.now.result) has)

pub returns : goal.returns
returns g c =
    let old = c.args.guest.now in
    let known : argument old.machine 0 ≤ 1 = omega (arith, c.if-reg-gt1.false, c.reg.ensures) in
    let test = tested Write old c.space.result.now c.reg-at.result TIMESPEC_SIZE (argument old.machine 1) TIMESPEC_SIZE c.writable.result c.writable.ensures c.space.ensures c.reg-at.ensures refl in
    told_time (clock_row old.machine) c.reg-at.result c.now.result c.written.result.items (g.H.Host.told c.args.host.now) (g.H.Host.told c.now.new.self) _ _ old c.finish_storing.new.guest c.finish_storing.result
    (clock_tells old.machine known (sym test ∙ c.if-not-writable.false) ∙ ap (λ (n : ℕ). Tells n) (sym c.reg-at.ensures))
    (c.written.ensures ∙ ap (stored_at c.reg-at.result) c.timespec-time.ensures)
    c.now.ensures.value c.now.ensures.told c.now.ensures.faults c.finish_storing.ensures.served c.finish_storing.ensures.machine c.finish_storing.ensures.frames c.finish_storing.ensures.origin
