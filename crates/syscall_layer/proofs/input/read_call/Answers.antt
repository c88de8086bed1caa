use Rattle.std.proofs.Common.{◌≡◌, ◌∙◌, ℕ, ap, sym, [], ◌∷◌}
use Rattle.std.specs.Prelude.{min}
use Rattle.guest_model.specs.Calls.{Takes, argument, read_row}
use Rattle.guest_model.specs.Range.{range}
use Rattle.guest_model.specs.declared.Access.TheVariants.{Write}
use Rattle.guest_model.specs.declared.platform.TheConstants.{EBADF, EFAULT, MOST_READ}
use Rattle.syscall_layer.proofs.Deeds.{failed, served_as}
use Rattle.syscall_layer.proofs.Rows.{read_denied, read_other, read_takes, tested}
use Rattle.syscall_layer.proofs.input.read_call.Goals as goal

pub returns-then-reg-ne0 : goal.returns-then-reg-ne0
returns-then-reg-ne0 g c =
    failed (read_row c.args.guest.now.machine) EBADF c.failure.result _ _ c.args.guest.now c.finish.new.guest c.finish.result
    (read_other c.args.guest.now.machine (λ e. c.if-reg-ne0.true (c.reg.ensures ∙ e)))
    c.failure.ensures c.finish.ensures.served c.finish.ensures.machine c.finish.ensures.frames c.finish.ensures.origin

pub returns-then-not-writable : goal.returns-then-not-writable
returns-then-not-writable g c =
    let old = c.args.guest.now in
    let size = c.min-size.ensures ∙ ap (λ (n : ℕ). min n MOST_READ) c.reg-2.ensures in
    let test = tested Write old c.space.result.now c.reg-at.result c.min-size.result (argument old.machine 1) (min (argument old.machine 2) MOST_READ) c.writable.result c.writable.ensures c.space.ensures c.reg-at.ensures size in
    let input : argument old.machine 0 ≡ 0 = sym c.reg.ensures ∙ c.if-reg-ne0.false in
    failed (read_row c.args.guest.now.machine) EFAULT c.failure-then-not-writable.result _ _ c.args.guest.now c.finish-then-not-writable.new.guest c.finish-then-not-writable.result
    (read_denied old.machine input (sym test ∙ c.if-not-writable.true))
    c.failure-then-not-writable.ensures c.finish-then-not-writable.ensures.served c.finish-then-not-writable.ensures.machine c.finish-then-not-writable.ensures.frames c.finish-then-not-writable.ensures.origin

pub returns : goal.returns
returns g c =
    let old = c.args.guest.now in
    let size = c.min-size.ensures ∙ ap (λ (n : ℕ). min n MOST_READ) c.reg-2.ensures in
    let test = tested Write old c.space.result.now c.reg-at.result c.min-size.result (argument old.machine 1) (min (argument old.machine 2) MOST_READ) c.writable.result c.writable.ensures c.space.ensures c.reg-at.ensures size in
    let input : argument old.machine 0 ≡ 0 = sym c.reg.ensures ∙ c.if-reg-ne0.false in
    served_as (Takes (range c.reg-at.result c.min-size.result ∷ [])) (read_row old.machine) _ _ _ _ c.take_into.result old c.take_into.new.guest
    (read_takes old.machine input (sym test ∙ c.if-not-writable.false)
    ∙ ap (λ (a : ℕ). Takes (range a (min (argument old.machine 2) MOST_READ) ∷ [])) (sym c.reg-at.ensures)
    ∙ ap (λ (n : ℕ). Takes (range c.reg-at.result n ∷ [])) (sym size))
    c.take_into.ensures
