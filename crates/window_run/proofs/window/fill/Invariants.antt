use Rattle.std.proofs.Common.{◌≡◌, length}
use Rattle.std.specs.Prelude.{None}
use Rattle.sliced_run.specs.Sliced.{shows}
use Rattle.window_run.proofs.Filling.{Fills}
use Rattle.window_run.proofs.window.fill.Given as goal

abbrev pub invariant-loop-turn : goal.invariant-loop-turn
invariant-loop-turn g l =
    let told = g.H.Host.told in
    let faults = g.H.Host.faults in
    let period = g.P.Pacer.period_shown in
    let tally = g.P.Pacer.tally in
    let answers = g.P.Pacer.answers in record {
      fills : Fills l.fn.master (told l.fn.host) (shows (period l.fn.pacer) (tally l.fn.pacer) (answers l.fn.pacer)) l.jobs.items None l.master (told l.host) (shows (period l.pacer) (tally l.pacer) (answers l.pacer));
      count : length l.jobs.items ≡ l.turn;
      same_faults : faults l.host ≡ faults l.fn.host;
      same_period : period l.pacer ≡ period l.fn.pacer;
    }
