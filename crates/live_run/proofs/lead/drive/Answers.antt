use Rattle.std.proofs.Common.{rules, ◌≡◌, ap, length, refl, subst, sym, ◌∙◌, arith}
use Rattle.std.specs.Prelude.{Option, None}
use denote.Param.Send.{sendable}
use Rattle.master_run.specs.Answers.{PacerState}
use Rattle.master_run.specs.Master.{MasterState}
use Rattle.master_run.specs.declared.limits.Limits.{Limits}
use Rattle.rv_machine.specs.declared.step.End.{End}
use Rattle.serial_run.specs.Start.{start_of}
use Rattle.slice_ring.specs.Seats.{merged_by}
use Rattle.sliced_run.specs.Sliced.{shows}
use Rattle.live_run.specs.Live.{WhereStarted}
use Rattle.live_run.specs.Merged.{IsCutSoFar, IsRun}
use Rattle.live_run.specs.Tags.{tags_from}
use Rattle.live_run.proofs.Driving.{cut_none, lacks_here, longer_by_one, merged_on, none_merged, still_merged}
use Rattle.live_run.proofs.Sent.{job_send}
use Rattle.live_run.proofs.lead.drive.Goals as goal

pub slots-slots-requires-send-J : goal.slots-slots-requires-send-J
slots-slots-requires-send-J g c κs within = search (sendable, job_send)

pub outstanding-requires-send-J : goal.outstanding-requires-send-J
outstanding-requires-send-J g c κs within = search (sendable, job_send)

pub outstanding-requires-else-is_none-send-J : goal.outstanding-requires-else-is_none-send-J
outstanding-requires-else-is_none-send-J g c κs within = search (sendable, job_send)

pub loop-turn-init : goal.loop-turn-init
loop-turn-init g c =
    let stands = g.T.Tool.is_local c.args.course.now.work.now.tool.now in
    let is_value = g.T.Tool.is_value c.args.course.now.work.now.tool.now in
    let plan = c.args.course.now.work.now.plan.now in
    let run = c.args.course.now.run in
    let lead = c.args.lead.now in
    let can = c.requires.can in
    let fresh = can.seat.1 in
    let merger = c.args.merger.now in
    record {
      slots = c.slots-slots.ensures.count;
      seat = (can.seat.0, fresh.2, can.seat.2);
      retired = refl;
      cut = cut_none c.args.master.now run.machine can.start;
      tags = fresh.0 ∙ sym (ap (λ (m : MasterState). tags_from 0 m.cuts None) can.start);
      behind = omega (arith, fresh.1);
      count = ap length can.merger.0 ∙ sym fresh.1;
      sound = can.merger.1;
      same_faults = refl;
      same_period = refl;
      so_far = can.begun;
      merged = λ t w same. none_merged stands is_value plan c.args.master.now.limits.budget (start_of run.machine w) lead.view.lead.tags (merged_by lead) merger.shared merger.lines.items fresh.1 can.merger.2 can.merger.0;
    }

pub publish_next-requires-clause-told : goal.publish_next-requires-clause-told
publish_next-requires-clause-told g c κs within =
    let start = c.args.course.now.pacer.value in
    let first : PacerState = shows (g.P.Pacer.period_shown start) (g.P.Pacer.tally start) (g.P.Pacer.answers start) in
    let pacer = c.loop-turn.pacer in
    let now : PacerState = shows (g.P.Pacer.period_shown pacer) (g.P.Pacer.tally pacer) (g.P.Pacer.answers pacer) in
    let run = c.args.course.now.run in
    let none : c.loop-turn.ended ≡ None = search rules in
    subst (λ (o : Option End). WhereStarted run.told run.machine (λ t p. IsRun t p first o c.loop-turn.master (g.H.Host.told c.loop-turn.host) now)) none c.loop-turn.invariant.so_far

pub loop-turn-preserved-then-outstanding-slots : goal.loop-turn-preserved-then-outstanding-slots
loop-turn-preserved-then-outstanding-slots g c =
    let stands = g.T.Tool.is_local c.args.course.now.work.now.tool.now in
    let is_value = g.T.Tool.is_value c.args.course.now.work.now.tool.now in
    let plan = c.args.course.now.work.now.plan.now in
    let run = c.args.course.now.run in
    let inv = c.loop-turn.invariant in
    let told = c.in-Ok.ensures in
    let lead = c.loop-turn.lead in
    let later = c.publish_next.new.lead in
    let tag = told.more.0 in
    record {
      slots = inv.slots;
      seat = (told.seat.0, told.seat.1, inv.seat.2);
      retired = told.retired ∙ inv.retired;
      cut = subst (λ (l : Limits). IsCutSoFar l c.in-Ok.ended c.publish_next.new.master) inv.cut.limits_are told.cut;
      tags = told.tags;
      behind = longer_by_one lead.view.lead.tags later.view.lead.tags tag (merged_by lead) (merged_by later) told.more.1 inv.behind told.seat.2;
      count = inv.count ∙ sym told.seat.2;
      sound = inv.sound;
      same_faults = told.faults ∙ inv.same_faults;
      same_period = told.period ∙ inv.same_period;
      so_far = told.told;
      merged = λ t w same. still_merged stands is_value plan c.args.master.now.limits.budget (start_of run.machine w) lead.view.lead.tags later.view.lead.tags tag (merged_by lead) (merged_by later) c.loop-turn.merger.shared c.loop-turn.merger.lines.items
          told.more.1 inv.behind told.seat.2 (inv.merged t w same);
    }

pub loop-turn-preserved : goal.loop-turn-preserved
loop-turn-preserved g c =
    let stands = g.T.Tool.is_local c.args.course.now.work.now.tool.now in
    let is_value = g.T.Tool.is_value c.args.course.now.work.now.tool.now in
    let plan = c.args.course.now.work.now.plan.now in
    let run = c.args.course.now.run in
    let start = c.args.course.now.pacer.value in
    let first : PacerState = shows (g.P.Pacer.period_shown start) (g.P.Pacer.tally start) (g.P.Pacer.answers start) in
    let pacer = c.loop-turn.pacer in
    let now : PacerState = shows (g.P.Pacer.period_shown pacer) (g.P.Pacer.tally pacer) (g.P.Pacer.answers pacer) in
    let inv = c.loop-turn.invariant in
    let merged = c.in-Ok-merge_next.ensures in
    let lead = c.loop-turn.lead in
    let later = c.merge_next.new.lead in
    let old = c.loop-turn.merger in
    let new = c.merge_next.new.merger in
    record {
      slots = inv.slots;
      seat = merged.seat;
      retired = merged.retired ∙ inv.retired;
      cut = inv.cut;
      tags = merged.tags ∙ inv.tags;
      behind = merged.within;
      count = merged.count;
      sound = merged.sound;
      same_faults = inv.same_faults;
      same_period = inv.same_period;
      so_far = inv.so_far;
      merged = merged_on stands is_value plan run.told run.machine first c.loop-turn.ended c.loop-turn.master (g.H.Host.told c.loop-turn.host) now c.args.master.now.limits.budget lead.view.lead.tags later.view.lead.tags (merged_by lead) (merged_by later) old.shared
          new.shared old.lines.items new.lines.items c.args.master.now.limits.budget_range.1 inv.tags merged.tags inv.so_far inv.merged merged.merges;
    }

pub returns-in_default-clause-told : goal.returns-in_default-clause-told
returns-in_default-clause-told g c t w same =
    let start = c.args.course.now.pacer.value in
    let first : PacerState = shows (g.P.Pacer.period_shown start) (g.P.Pacer.tally start) (g.P.Pacer.answers start) in
    let pacer = c.loop-turn.pacer in
    let now : PacerState = shows (g.P.Pacer.period_shown pacer) (g.P.Pacer.tally pacer) (g.P.Pacer.answers pacer) in
    let inv = c.loop-turn.invariant in
    lacks_here t (start_of c.args.course.now.run.machine w) first c.loop-turn.ended c.loop-turn.master (g.H.Host.told c.loop-turn.host) now c.args.master.now.limits.budget (inv.so_far t w same) inv.cut.within

pub returns-clause-told : goal.returns-clause-told
returns-clause-told g c t w same =
    let start = c.args.course.now.pacer.value in
    let first : PacerState = shows (g.P.Pacer.period_shown start) (g.P.Pacer.tally start) (g.P.Pacer.answers start) in
    let pacer = c.loop-turn.pacer in
    let now : PacerState = shows (g.P.Pacer.period_shown pacer) (g.P.Pacer.tally pacer) (g.P.Pacer.answers pacer) in
    let inv = c.loop-turn.invariant in
    (subst (λ (o : Option End). IsRun t (start_of c.args.course.now.run.machine w) first o c.loop-turn.master (g.H.Host.told c.loop-turn.host) now) c.in-Some-ended.is (inv.so_far t w same), inv.merged t w same)
