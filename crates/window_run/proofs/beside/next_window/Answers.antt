use Rattle.std.proofs.Common.{◌≤◌, ◌^◌, ◌++◌, subst, arith, Result}
use Rattle.std.specs.List.{AllZip}
use Rattle.std.proofs.lemmas.Result.{IfOk-at_ok}
use Rattle.sp_host.specs.Told.{Told}
use Rattle.master_run.specs.Answers.{PacerState}
use Rattle.syscall_layer.specs.declared.fault.RunFault.{RunFault}
use Rattle.window_run.specs.Jobs.{FillGives, HandsJobs, IsResultOf}
use Rattle.sliced_run.specs.Sliced.{shows}
use Rattle.window_run.specs.declared.window.Window.{Window}
use Rattle.window_run.proofs.Filling.{lacks}
use Rattle.window_run.proofs.Lists.{numbered}
use Rattle.window_run.proofs.beside.next_window.Goals as goal

pub returns-in_default-clause-told : goal.returns-in_default-clause-told
returns-in_default-clause-told g c = record {
  gives = λ t p first all start.
      let m = c.args.master.now in
      let new = c.fill_beside-filled.new.master in
      let pacer = c.fill_beside-filled.new.pacer in
      let later : Told = g.H.Host.told c.fill_beside-filled.new.host in
      let shown : PacerState = shows (g.P.Pacer.period_shown pacer) (g.P.Pacer.tally pacer) (g.P.Pacer.answers pacer) in
      let fills = subst (λ (r : Result Window RunFault). FillGives t p first all m.limits.budget r new later shown) c.in-Ok.is (c.fill_beside-filled.ensures.told.gives t p first all start) in
      let hands = IfOk-at_ok (λ (w : Window). HandsJobs m w.jobs.items w.end new) c.in-Ok.is c.fill_beside-filled.ensures.hands in
      lacks t p first (all ++ c.in-Ok.window.jobs.items) c.in-Ok.window.end new later shown m.limits.budget fills hands.within;
}

pub returns-in_default-put_pieces-clause-told : goal.returns-in_default-put_pieces-clause-told
returns-in_default-put_pieces-clause-told g c = record {
  gives = λ t p first all start.
      let m = c.args.master.now in
      let new = c.fill_beside-filled.new.master in
      let pacer = c.fill_beside-filled.new.pacer in
      let later : Told = g.H.Host.told c.fill_beside-filled.new.host in
      let shown : PacerState = shows (g.P.Pacer.period_shown pacer) (g.P.Pacer.tally pacer) (g.P.Pacer.answers pacer) in
      let fills = subst (λ (r : Result Window RunFault). FillGives t p first all m.limits.budget r new later shown) c.in-Ok.is (c.fill_beside-filled.ensures.told.gives t p first all start) in
      let hands = IfOk-at_ok (λ (w : Window). HandsJobs m w.jobs.items w.end new) c.in-Ok.is c.fill_beside-filled.ensures.hands in
      lacks t p first (all ++ c.in-Ok.window.jobs.items) c.in-Ok.window.end new later shown m.limits.budget fills hands.within;
}

pub put_pieces-requires-clause-next : goal.put_pieces-requires-clause-next
put_pieces-requires-clause-next g c κs within =
    let stands = g.T.Tool.is_local c.args.work.now.tool.now in
    let plan = c.args.work.now.plan.now in
    let z = IfOk-at_ok (λ results. AllZip (IsResultOf stands plan) c.args.jobs.items results.items) c.in-Ok-results.is c.fill_beside-filled.ensures.results in
    numbered stands plan _ c.requires.jobs.0 c.args.master.now.position c.args.jobs.items c.in-Ok-results.results.items z c.requires.jobs.1

pub returns-clause-merges : goal.returns-clause-merges
returns-clause-merges g c =
    let stands = g.T.Tool.is_local c.args.work.now.tool.now in
    let plan = c.args.work.now.plan.now in
    let z = IfOk-at_ok (λ results. AllZip (IsResultOf stands plan) c.args.jobs.items results.items) c.in-Ok-results.is c.fill_beside-filled.ensures.results in
    let room : c.args.master.now.position ≤ 2 ^ 40 = omega (arith, c.requires.within, c.requires.few) in
    c.in-Ok-put_pieces.ensures.merges c.args.jobs.items c.args.master.now.position room z
