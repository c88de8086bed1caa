use Rattle.std.proofs.Common.{◌≡◌, ◌⊎◌, ◌∙◌, ap, sym, ℕ, inl, inr}
use Rattle.guest_model.specs.Calls.{Answers, row_of}
use Rattle.guest_model.specs.declared.system_call.SystemCall.{SystemCall}
use Rattle.guest_model.specs.Machine.{Machine}
use Rattle.guest_model.specs.declared.platform.TheConstants.{PROCESS}
use Rattle.guest_model.specs.declared.system_call.SystemCall.TheVariants.{SetTidAddress, Getpid, Gettid}
use Rattle.syscall_layer.proofs.Deeds.{answered}
use Rattle.syscall_layer.proofs.server.serve_row.Goals as goal

pub returns-in-Ioctl : goal.returns-in-Ioctl
returns-in-Ioctl g c =
    let m = c.args.guest.now.machine in
    answered (row_of c.args.call m) c.ioctl_answer-answer.result _ _ c.args.guest.now c.finish.new.guest c.finish.result
    (ap (λ (k : SystemCall). row_of k m) c.in-Ioctl.is ∙ ap (λ (n : ℕ). Answers n) (sym c.ioctl_answer-answer.ensures))
    c.finish.ensures.served c.finish.ensures.machine c.finish.ensures.frames c.finish.ensures.origin

of_process : (m : Machine) (call : SystemCall) → (call ≡ SetTidAddress) ⊎ ((call ≡ Getpid) ⊎ (call ≡ Gettid)) → row_of call m ≡ Answers PROCESS
of_process m call (inl is) = ap (λ (k : SystemCall). row_of k m) is
of_process m call (inr (inl is)) = ap (λ (k : SystemCall). row_of k m) is
of_process m call (inr (inr is)) = ap (λ (k : SystemCall). row_of k m) is

pub returns-in-SetTidAddress : goal.returns-in-SetTidAddress
returns-in-SetTidAddress g c =
    let m = c.args.guest.now.machine in
    answered (row_of c.args.call m) PROCESS _ _ c.args.guest.now c.finish-in-SetTidAddress.new.guest c.finish-in-SetTidAddress.result
    (of_process m c.args.call c.in-SetTidAddress.is)
    c.finish-in-SetTidAddress.ensures.served c.finish-in-SetTidAddress.ensures.machine c.finish-in-SetTidAddress.ensures.frames c.finish-in-SetTidAddress.ensures.origin
