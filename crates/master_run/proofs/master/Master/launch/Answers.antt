use Rattle.std.proofs.Common.{ℕ, List, [], subst, sym}
use Rattle.guest_model.specs.Serial.{Position}
use Rattle.syscall_layer.specs.Serve.{told_after}
use Rattle.master_run.specs.Master.{HasRunTo, Ready}
use Rattle.master_run.proofs.Begins.{begins}
use Rattle.master_run.proofs.master.Master.launch.Goals as goal

pub returns-clause-told : goal.returns-clause-told
returns-clause-told c t w first =
    let m = c.args.guest.machine in
    let p : Position = record { machine = m; world = w; calls = 0 } in
    subst (λ (cuts : List ℕ). HasRunTo t p first (record { machine = c.snapshot.new.self.machine; position = 0; calls = 0; cuts = cuts; limits = c.args.limits.now; standing = Ready }) (told_after t w []) first) (sym c.new-2.ensures.items)
    (begins t w first m c.snapshot.new.self.machine c.args.limits.now c.in_ok-start.ensures.machine c.args.limits.now.poll_range.0)
