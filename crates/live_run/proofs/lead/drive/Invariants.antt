use Rattle.std.proofs.Common.{◌≡◌, ◌≤◌, false, length, take}
use Rattle.slice_ring.specs.Seats.{IsIdle, IsOf, IsOpen, merged_by, slots_of}
use Rattle.sliced_run.specs.Sliced.{shows}
use Rattle.live_run.specs.Live.{WhereStarted}
use Rattle.live_run.specs.Merged.{HasMergedIf, IsCutSoFar, IsRun}
use Rattle.live_run.specs.Tags.{tags_from}
use Rattle.live_run.proofs.lead.drive.Given as goal

abbrev pub invariant-loop-turn : goal.invariant-loop-turn
invariant-loop-turn g l =
    let told = g.H.Host.told in
    let faults = g.H.Host.faults in
    let period = g.P.Pacer.period_shown in
    let tally = g.P.Pacer.tally in
    let answers = g.P.Pacer.answers in
    let start = l.course.pacer.value in
    let run = l.course.run in record {
      slots : l.slots ≡ slots_of l.course.ring.now;
      seat : IsOf l.course.ring.now l.lead × IsOpen l.lead × IsIdle l.course.ring.now l.mine;
      retired : l.lead.view.retired ≡ l.fn.lead.view.retired;
      cut : IsCutSoFar l.fn.master.limits l.ended l.master;
      tags : l.lead.view.lead.tags ≡ tags_from 0 l.master.cuts l.ended;
      behind : merged_by l.lead ≤ length l.lead.view.lead.tags;
      count : length l.merger.lines.items ≡ merged_by l.lead;
      sound : l.merger.refused ≡ false;
      same_faults : faults l.host ≡ faults l.fn.host;
      same_period : period l.pacer ≡ period l.fn.pacer;
      so_far : WhereStarted run.told run.machine (λ t p. IsRun t p (shows (period start) (tally start) (answers start)) l.ended l.master (told l.host) (shows (period l.pacer) (tally l.pacer) (answers l.pacer)));
      merged : WhereStarted run.told run.machine (λ t p. HasMergedIf (g.T.Tool.is_local l.course.work.now.tool.now) (g.T.Tool.is_value l.course.work.now.tool.now) l.course.work.now.plan.now l.fn.master.limits.budget p (take (merged_by l.lead) l.lead.view.lead.tags) l.merger.shared l.merger.lines.items);
    }
