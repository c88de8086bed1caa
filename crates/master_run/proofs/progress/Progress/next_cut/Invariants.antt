use Rattle.std.proofs.Common.{◌≡◌, ◌-◌, ◌/◌, ℕ, Bool}
use Rattle.sp_host.specs.Told.{Told}
use Rattle.guest_model.specs.Serial.{Position}
use Rattle.master_run.specs.Answers.{HasAnswered, PacerState}
use Rattle.master_run.specs.Progress.{Advances, IsBelow, IsOpen, RunsTo}
use Rattle.master_run.proofs.Walks.{Walking}
use Rattle.master_run.proofs.progress.Progress.next_cut.Given as goal

abbrev pub invariant-run : goal.invariant-run
invariant-run g l =
    let told = g.H.Host.told in
    let shown = g.P.Pacer.period_shown in
    let tally = g.P.Pacer.tally in
    let told_answers = g.P.Pacer.answers in
    record {
      going : IsOpen l.limits l.self;
      below : IsBelow l.limits l.self;
      goes : Advances l.fn.self l.self;
      same_faults : g.H.Host.faults l.host ≡ g.H.Host.faults l.fn.host;
      same_period : shown l.pacer ≡ shown l.fn.pacer;
      walking : (t : Told) (p : Position) (first : PacerState) (answers : ℕ → Bool) → RunsTo t p l.fn.self.position l.fn.self (told l.fn.host)
          → HasAnswered answers (l.fn.self.position / l.limits.poll) first (record { period = shown l.fn.pacer; tally = tally l.fn.pacer; answers = told_answers l.fn.pacer })
          → Walking l.limits t p l.fn.self.position first answers l.self (told l.host) (record { period = shown l.pacer; tally = tally l.pacer; answers = told_answers l.pacer });
    }

abbrev pub decreases-run : goal.decreases-run
decreases-run g l = l.limits.budget - l.self.position
