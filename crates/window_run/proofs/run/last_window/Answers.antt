use Rattle.std.proofs.Common.{List, sym, ap, subst}
use Rattle.std.specs.Prelude.{Vec}
use Rattle.ordered_merge.specs.declared.merger.SliceLine.{SliceLine}
use Rattle.window_run.specs.Jobs.{MergesJobs}
use Rattle.window_run.proofs.Lists.{numbered}
use Rattle.window_run.proofs.run.last_window.Goals as goal

pub put_pieces-requires-clause-next : goal.put_pieces-requires-clause-next
put_pieces-requires-clause-next g c κs within =
    let stands = g.T.Tool.is_local c.args.work.now.tool.now in
    let plan = c.args.work.now.plan.now in
    numbered stands plan _ c.requires.jobs.0 c.requires.jobs.1 c.args.jobs.items c.in_ok-results.results.items c.in_ok-results.ensures c.requires.jobs.2

pub returns-clause-merges : goal.returns-clause-merges
returns-clause-merges g c = λ f room.
    let stands = g.T.Tool.is_local c.args.work.now.tool.now in
    let is_value = g.T.Tool.is_value c.args.work.now.tool.now in
    let plan = c.args.work.now.plan.now in
    let put = c.put_pieces.new.merger in
    let jobs = c.args.jobs.items in
    let shared = c.args.merger.shared in
    let lines = c.args.merger.lines.items in
    let merges = c.in_ok-put_pieces.ensures.merges jobs f room c.in_ok-results.ensures in
    subst (λ (ls : List SliceLine). MergesJobs stands is_value plan jobs f shared lines c.finish-shared.result.0 ls) (sym (ap (λ (v : Vec SliceLine _). v.items) c.finish-shared.ensures.lines))
    (subst (λ (s : _). MergesJobs stands is_value plan jobs f shared lines s put.lines.items) (sym c.finish-shared.ensures.value) merges)
