use Rattle.std.proofs.Common.{◌-◌, subst, sym}
use Rattle.std.specs.Prelude.{IfOk}
use Rattle.sp_host.specs.Told.{Told}
use Rattle.master_run.proofs.Begins.{hands_free, met_soon, standing_free}
use Rattle.master_run.specs.Answers.{PacerState}
use Rattle.master_run.specs.Inside.{seen_of}
use Rattle.master_run.specs.Master.{MasterState, HasRunTo, Over}
use Rattle.master_run.specs.Turn.{HandsOutOfRun, IsMetWithin}
use Rattle.master_run.specs.declared.master.Stage.TheVariants as stages
use Rattle.master_run.proofs.master.Master.next_job.Goals as goal

pub returns-in-Ready-clause-told : goal.returns-in-Ready-clause-told
returns-in-Ready-clause-told g c t p first ready h =
    let told : Told = g.H.Host.told c.args.host.now in
    let now : PacerState = record { period = g.P.Pacer.period_shown c.args.pacer.now; tally = g.P.Pacer.tally c.args.pacer.now; answers = g.P.Pacer.answers c.args.pacer.now } in
    let m : MasterState = seen_of c.self.inside.limits c.self.inside.progress c.self.inside.cuts.items c.self.inside.stage in
    let later : MasterState = seen_of c.self.inside.limits c.make_turn-stage.new.progress c.make_turn-stage.new.cuts.items c.make_turn-stage.result.0 in
    let told_now : Told = g.H.Host.told c.make_turn-stage.new.host in
    let shown : PacerState = record { period = g.P.Pacer.period_shown c.make_turn-stage.new.pacer; tally = g.P.Pacer.tally c.make_turn-stage.new.pacer; answers = g.P.Pacer.answers c.make_turn-stage.new.pacer } in
    let stands : HasRunTo t p first m told now = subst (λ (k : MasterState). HasRunTo t p first k told now) (sym c.self.view_is) h in
    let hands = c.make_turn-stage.ensures.told t p first (standing_free t p first m Over told now stands) in
    subst (λ (k : MasterState). HandsOutOfRun t p first k c.make_turn-stage.result.1 later told_now shown) c.self.view_is
    (hands_free t p first m Over c.make_turn-stage.result.1 later told_now shown hands)

pub returns-in-Ready-clause-soon : goal.returns-in-Ready-clause-soon
returns-in-Ready-clause-soon g c =
    let old : MasterState = seen_of c.self.inside.limits c.self.inside.progress c.self.inside.cuts.items stages.Over in
    let later : MasterState = seen_of c.self.inside.limits c.make_turn-stage.new.progress c.make_turn-stage.new.cuts.items c.make_turn-stage.result.0 in
    subst (λ (k : MasterState). IfOk c.make_turn-stage.result.1 (IsMetWithin (later.position - k.position))) c.self.view_is (met_soon old later c.make_turn-stage.result.1 c.make_turn-stage.ensures.turn)
