use Rattle.std.proofs.Common.{◌≡◌, ◌+◌, length, refl, ap, ◌∙◌, arith, length-append}
use Rattle.master_run.specs.Answers.{PacerState}
use Rattle.sliced_run.specs.Sliced.{shows}
use Rattle.window_run.proofs.Filling.{fill_fails, fill_lacks, fills_more, fills_none}
use Rattle.window_run.proofs.window.fill.Goals as goal

pub loop-turn-init : goal.loop-turn-init
loop-turn-init g c =
    let pacer = c.args.pacer.now in
    let now : PacerState = shows (g.P.Pacer.period_shown pacer) (g.P.Pacer.tally pacer) (g.P.Pacer.answers pacer) in
    record { fills = fills_none c.args.master.now (g.H.Host.told c.args.host.now) now c.new-jobs.result.items c.requires.within c.requires.ready c.new-jobs.ensures.items; count = ap length c.new-jobs.ensures.items; same_faults = refl; same_period = refl }

pub returns-in_default-clause-told : goal.returns-in_default-clause-told
returns-in_default-clause-told g c = fill_lacks (fills_more c.loop-turn.invariant.fills c.in-Ok-Job.field-0-is refl c.in-Ok-Job.ensures.turn c.in-Ok-Job.ensures.ready c.in-Ok-Job.ensures.limits c.in-Ok-Job.ensures.told)

pub returns-in_default-push-clause-told : goal.returns-in_default-push-clause-told
returns-in_default-push-clause-told g c = fill_lacks (fills_more c.loop-turn.invariant.fills c.in-Ok-Last.field-0-is refl c.in-Ok-Last.ensures.turn c.in-Ok-Last.ensures.ready c.in-Ok-Last.ensures.limits c.in-Ok-Last.ensures.told)

pub returns-in-Ok-Last-clause-hands : goal.returns-in-Ok-Last-clause-hands
returns-in-Ok-Last-clause-hands g c = (fills_more c.loop-turn.invariant.fills c.in-Ok-Last.field-0-is c.in-Ok-push.ensures.items c.in-Ok-Last.ensures.turn c.in-Ok-Last.ensures.ready c.in-Ok-Last.ensures.limits c.in-Ok-Last.ensures.told).handed

pub returns-in-Ok-Last-clause-told : goal.returns-in-Ok-Last-clause-told
returns-in-Ok-Last-clause-told g c = record { gives = (fills_more c.loop-turn.invariant.fills c.in-Ok-Last.field-0-is c.in-Ok-push.ensures.items c.in-Ok-Last.ensures.turn c.in-Ok-Last.ensures.ready c.in-Ok-Last.ensures.limits c.in-Ok-Last.ensures.told).run }

pub returns-in-Err-clause-told : goal.returns-in-Err-clause-told
returns-in-Err-clause-told g c = fill_fails c.loop-turn.invariant.fills c.in-Err.ensures.limits c.in-Err.ensures.told

pub returns-then-load-clause-hands : goal.returns-then-load-clause-hands
returns-then-load-clause-hands g c = (fills_more c.loop-turn.invariant.fills c.in-Ok-Job.field-0-is c.in-Ok.ensures.items c.in-Ok-Job.ensures.turn c.in-Ok-Job.ensures.ready c.in-Ok-Job.ensures.limits c.in-Ok-Job.ensures.told).handed

pub returns-then-load-clause-told : goal.returns-then-load-clause-told
returns-then-load-clause-told g c = record { gives = (fills_more c.loop-turn.invariant.fills c.in-Ok-Job.field-0-is c.in-Ok.ensures.items c.in-Ok-Job.ensures.turn c.in-Ok-Job.ensures.ready c.in-Ok-Job.ensures.limits c.in-Ok-Job.ensures.told).run }

pub loop-turn-preserved : goal.loop-turn-preserved
loop-turn-preserved g c =
    let size : length c.push.new.self.items ≡ length c.loop-turn.jobs.items + 1 = ap length c.in-Ok.ensures.items ∙ simp length-append in
    record {
      fills = fills_more c.loop-turn.invariant.fills c.in-Ok-Job.field-0-is c.in-Ok.ensures.items c.in-Ok-Job.ensures.turn c.in-Ok-Job.ensures.ready c.in-Ok-Job.ensures.limits c.in-Ok-Job.ensures.told;
      count = omega (arith, size, c.loop-turn.invariant.count);
      same_faults = c.in-Ok-Job.ensures.faults ∙ c.loop-turn.invariant.same_faults;
      same_period = c.in-Ok-Job.ensures.period ∙ c.loop-turn.invariant.same_period;
    }
