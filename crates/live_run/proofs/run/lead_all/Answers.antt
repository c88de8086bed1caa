use Rattle.std.proofs.Common.{rules, ◌≡◌, ap, length, sym, ◌∙◌}
use denote.Param.Send.{sendable}
use Rattle.std.proofs.lemmas.Result.{IfOk-weaker}
use Rattle.master_run.specs.Answers.{PacerState}
use Rattle.serial_run.specs.Start.{start_of}
use Rattle.slice_ring.specs.Seats.{IsOf, IsOver, SeatView, merged_by}
use Rattle.sliced_run.specs.Sliced.{shows}
use Rattle.live_run.proofs.Driving.{all_merged}
use Rattle.live_run.proofs.Sent.{job_send}
use Rattle.live_run.proofs.run.lead_all.Goals as goal

pub close-requires-send-J : goal.close-requires-send-J
close-requires-send-J g c κs within = search (sendable, job_send)

pub returns : goal.returns
returns g c =
    let stands = g.T.Tool.is_local c.args.course.now.work.now.tool.now in
    let is_value = g.T.Tool.is_value c.args.course.now.work.now.tool.now in
    let plan = c.args.course.now.work.now.plan.now in
    let start = c.args.course.now.pacer.value in
    let first : PacerState = shows (g.P.Pacer.period_shown start) (g.P.Pacer.tally start) (g.P.Pacer.answers start) in
    let pacer = c.drive-result.new.pacer in
    let now : PacerState = shows (g.P.Pacer.period_shown pacer) (g.P.Pacer.tally pacer) (g.P.Pacer.answers pacer) in
    let driven = c.drive-result.ensures in
    let drained = c.drain.ensures in
    let tags : c.close.new.lead.view.lead.tags ≡ c.drive-result.new.lead.view.lead.tags = ap (λ (s : SeatView _). s.view.lead.tags) c.close.ensures ∙ drained.tags in
    let of : IsOf c.args.course.now.ring.now c.close.new.lead = search (rules, drained.seat.0, c.close.ensures) in
    let over : IsOver c.close.new.lead = (ap (λ (s : SeatView _). s.view.lead.closed) c.close.ensures, ap merged_by c.close.ensures ∙ (drained.all ∙ sym (ap (λ (s : SeatView _). length s.view.lead.tags) c.close.ensures))) in
    record {
      seat = (of, over, drained.seat.2);
      none_retired = ap (λ (s : SeatView _). s.view.retired) c.close.ensures ∙ (drained.retired ∙ driven.retired);
      cut = driven.cut;
      tags = IfOk-weaker c.drive-result.result _ _ (λ end is. tags ∙ is) driven.tags;
      sound = driven.sound;
      faults = driven.faults;
      port = driven.port;
      period = driven.period;
      gives = λ t w same. all_merged stands is_value plan t (start_of c.args.course.now.run.machine w) first c.args.master.now.limits.budget c.drive-result.result c.drive-result.new.master c.drive-result.new.lead.view.lead.tags c.close.new.lead.view.lead.tags
          (merged_by c.drive-result.new.lead) c.drive-result.new.merger.shared c.drive-result.new.merger.lines.items (g.H.Host.told c.drive-result.new.host) now driven.all tags (driven.told t w same);
    }
