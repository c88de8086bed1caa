use Rattle.master_run.specs.Answers.{PacerState}
use Rattle.sp_host.specs.Told.{Told}
use Rattle.sliced_run.specs.Sliced.{shows}
use Rattle.sliced_run.proofs.Turns.{stays_ready, stops_within}
use Rattle.sliced_run.proofs.turn.next_turn.Goals as goal

pub returns-clause-ready : goal.returns-clause-ready
returns-clause-ready g c = stays_ready c.next_job.result c.args.master.now c.next_job.new.self c.next_job.ensures.turn

pub returns-clause-told : goal.returns-clause-told
returns-clause-told g c t p first h =
    let hands = c.next_job.ensures.told t p first c.requires h in
    (hands, stops_within t p first c.args.master.now c.next_job.result c.next_job.new.self (g.H.Host.told c.next_job.new.host) (shows (g.P.Pacer.period_shown c.next_job.new.pacer) (g.P.Pacer.tally c.next_job.new.pacer) (g.P.Pacer.answers c.next_job.new.pacer)) hands)
