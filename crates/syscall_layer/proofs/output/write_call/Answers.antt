use Rattle.std.proofs.Common.{◌≡◌, ◌∙◌, ap, sym, true, List, ℕ}
use Rattle.sp_host.specs.Told.{sent}
use Rattle.guest_model.specs.Bytes.{bytes_at}
use Rattle.guest_model.specs.Calls.{Sends, argument, is_output, write_row}
use Rattle.guest_model.specs.declared.Access.TheVariants.{Read}
use Rattle.guest_model.specs.declared.platform.TheConstants.{EBADF, EFAULT}
use Rattle.guest_mem.specs.Memory.{Memory}
use Rattle.syscall_layer.proofs.Deeds.{failed, output_port, sent_all}
use Rattle.syscall_layer.proofs.Rows.{tested, write_denied, write_other, write_sends}
use Rattle.syscall_layer.proofs.output.write_call.Goals as goal

pub returns-in_default : goal.returns-in_default
returns-in_default g c =
    failed (write_row c.args.guest.now.machine) EBADF c.failure.result _ _ c.args.guest.now c.finish.new.guest c.finish.result
    (write_other c.args.guest.now.machine (ap is_output (sym c.reg.ensures) ∙ c.in_default.ensures))
    c.failure.ensures c.finish.ensures.served c.finish.ensures.machine c.finish.ensures.frames c.finish.ensures.origin

pub returns-then-not-readable : goal.returns-then-not-readable
returns-then-not-readable g c =
    let old = c.args.guest.now in
    let output : is_output (argument old.machine 0) ≡ true = ap is_output (sym c.reg.ensures) ∙ c.in-Some.ensures.0 in
    let denied = sym (tested Read old c.space.result.now c.reg-at.result c.reg-len.result (argument old.machine 1) (argument old.machine 2) c.readable.result c.readable.ensures c.space.ensures c.reg-at.ensures c.reg-len.ensures) ∙ c.if-not-readable.true in
    failed (write_row c.args.guest.now.machine) EFAULT c.failure-then-not-readable.result _ _ c.args.guest.now c.finish-then-not-readable.new.guest c.finish-then-not-readable.result
    (write_denied old.machine output denied)
    c.failure-then-not-readable.ensures c.finish-then-not-readable.ensures.served c.finish-then-not-readable.ensures.machine c.finish-then-not-readable.ensures.frames c.finish-then-not-readable.ensures.origin

pub returns-in-Ok : goal.returns-in-Ok
returns-in-Ok g c =
    let old = c.args.guest.now in
    let at = argument old.machine 1 in
    let len = argument old.machine 2 in
    let output : is_output (argument old.machine 0) ≡ true = ap is_output (sym c.reg.ensures) ∙ c.in-Some.ensures.0 in
    let allowed = sym (tested Read old c.space.result.now c.reg-at.result c.reg-len.result at len c.readable.result c.readable.ensures c.space.ensures c.reg-at.ensures c.reg-len.ensures) ∙ c.if-not-readable.false in
    let names = c.in-Some.ensures.1 ∙ c.reg.ensures in
    let bytes =
    ap (λ (m : Memory). bytes_at m.space.bytes c.reg-at.result c.reg-len.result) c.space-2.ensures
    ∙ ap (λ (a : ℕ). bytes_at old.machine.space.bytes a c.reg-len.result) c.reg-at.ensures
    ∙ ap (bytes_at old.machine.space.bytes at) c.reg-len.ensures in
    sent_all (write_row old.machine) c.in-Some.port (argument old.machine 0) c.reg-len.result (bytes_at old.machine.space.bytes at len) (g.H.Host.told c.args.host.now) (g.H.Host.told c.send.new.host) _ _ old c.finish-in-Ok.new.guest c.finish-in-Ok.result
    (write_sends old.machine output allowed ∙ ap (λ (n : ℕ). Sends (argument old.machine 0) (bytes_at old.machine.space.bytes at len) n) (sym c.reg-len.ensures))
    names (output_port c.in-Some.port (argument old.machine 0) names output)
    c.finish-in-Ok.ensures.served c.finish-in-Ok.ensures.machine c.finish-in-Ok.ensures.frames c.finish-in-Ok.ensures.origin
    (c.in-Ok.ensures.told ∙ ap (λ (xs : List ℕ). sent c.in-Some.port xs (g.H.Host.told c.args.host.now)) bytes)
    c.in-Ok.ensures.faults
