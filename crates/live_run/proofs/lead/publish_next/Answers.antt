use Rattle.std.proofs.Common.{◌∷◌, [], ◌++◌, ap, ◌∙◌}
use denote.Param.Send.{sendable}
use Rattle.master_run.specs.declared.limits.Limits.{Limits}
use Rattle.serial_run.specs.Start.{start_of}
use Rattle.slice_ring.specs.Seats.{SeatView}
use Rattle.slice_ring.specs.Ticket.{Ticket}
use Rattle.sliced_run.proofs.Faults.{fails}
use Rattle.live_run.specs.Merged.{last_cut}
use Rattle.live_run.proofs.Publishing.{at_cut, at_end, cut_in_run, cut_job, cut_more, end_in_run, few_tags, last_job, next_ticket, published_last, published_more}
use Rattle.live_run.proofs.Sent.{job_send}
use Rattle.live_run.proofs.lead.publish_next.Goals as goal

pub live_job-requires-after_bounds : goal.live_job-requires-after_bounds
live_job-requires-after_bounds g c κs within =
    let run = c.args.course.now.run in
    let old = c.args.master.now in
    let new = c.next_turn.new.master in
    let turn = c.in-Ok-Job in
    let is = at_cut old new turn.field-0 turn.job turn.field-0-is turn.ensures.turn in
    let from = c.last_of-first.ensures ∙ ap (last_cut 0) c.cuts.ensures in
    let to = c.last_of-second.ensures ∙ ap (last_cut 0) c.cuts-in-Ok-Job.ensures in
    cut_job run.told run.machine old new turn.job c.last_of-first.result c.last_of-second.result c.requires.cut is from to
    (λ t w same. (cut_in_run t (start_of run.machine w) _ old new turn.field-0 turn.job _ _ turn.field-0-is (turn.ensures.told t (start_of run.machine w) _ (c.requires.told t w same)).0).1)

pub publish-requires-send-J : goal.publish-requires-send-J
publish-requires-send-J g c κs within = search (sendable, job_send)

pub publish-requires-clause-job : goal.publish-requires-clause-job
publish-requires-clause-job g c κs within =
    let turn = c.in-Ok-Job in
    let is = at_cut c.args.master.now c.next_turn.new.master turn.field-0 turn.job turn.field-0-is turn.ensures.turn in
    next_ticket c.args.master.now c.args.lead.now.view.lead.tags turn.job.index (c.last_of-first.result, c.last_of-second.result) c.args.course.now.run c.args.course.now.ring.now.topic c.live_job.result c.live_job.ensures c.requires.tags is.starts.index c.requires.run

pub publish-requires-clause-room : goal.publish-requires-clause-room
publish-requires-clause-room g c κs within = (c.requires.room, few_tags c.args.master.now c.args.lead.now.view.lead.tags c.requires.tags c.requires.cut)

pub live_job-requires-in-Ok-Last-after_bounds : goal.live_job-requires-in-Ok-Last-after_bounds
live_job-requires-in-Ok-Last-after_bounds g c κs within =
    let run = c.args.course.now.run in
    let old = c.args.master.now in
    let new = c.next_turn.new.master in
    let turn = c.in-Ok-Last in
    let is = at_end old new turn.field-0 turn.job turn.end turn.field-0-is turn.ensures.turn in
    let from = c.last_of-first.ensures ∙ ap (last_cut 0) c.cuts.ensures in
    last_job run.told run.machine old new turn.job turn.end c.last_of-first.result c.requires.cut is from (λ t w same.
    let h = end_in_run t (start_of run.machine w) _ old new turn.field-0 turn.job turn.end _ _ turn.field-0-is (turn.ensures.told t (start_of run.machine w) _ (c.requires.told t w same)).0 in (h.0.ends, h.1))

pub publish-requires-in-Ok-Last-send-J : goal.publish-requires-in-Ok-Last-send-J
publish-requires-in-Ok-Last-send-J g c κs within = search (sendable, job_send)

pub publish-requires-in-Ok-Last-clause-job : goal.publish-requires-in-Ok-Last-clause-job
publish-requires-in-Ok-Last-clause-job g c κs within =
    let turn = c.in-Ok-Last in
    let is = at_end c.args.master.now c.next_turn.new.master turn.field-0 turn.job turn.end turn.field-0-is turn.ensures.turn in
    next_ticket c.args.master.now c.args.lead.now.view.lead.tags turn.job.index (c.last_of-first.result, 0) c.args.course.now.run c.args.course.now.ring.now.topic c.live_job-in-Ok-Last.result c.live_job-in-Ok-Last.ensures c.requires.tags is.starts.index c.requires.run

pub publish-requires-in-Ok-Last-clause-room : goal.publish-requires-in-Ok-Last-clause-room
publish-requires-in-Ok-Last-clause-room g c κs within = (c.requires.room, few_tags c.args.master.now c.args.lead.now.view.lead.tags c.requires.tags c.requires.cut)

pub returns-in-Ok-Job-clause-cut : goal.returns-in-Ok-Job-clause-cut
returns-in-Ok-Job-clause-cut g c =
    let turn = c.in-Ok-Job in
    let is = at_cut c.args.master.now c.next_turn.new.master turn.field-0 turn.job turn.field-0-is turn.ensures.turn in
    cut_more c.args.master.now c.next_turn.new.master turn.job c.requires.cut is turn.ensures.limits

pub returns-in-Ok-Job-clause-tags : goal.returns-in-Ok-Job-clause-tags
returns-in-Ok-Job-clause-tags g c =
    let old = c.args.master.now in
    let new = c.next_turn.new.master in
    let tags = c.args.lead.now.view.lead.tags in
    let turn = c.in-Ok-Job in
    let is = at_cut old new turn.field-0 turn.job turn.field-0-is turn.ensures.turn in
    let from = c.last_of-first.ensures ∙ ap (last_cut 0) c.cuts.ensures in
    let to = c.last_of-second.ensures ∙ ap (last_cut 0) c.cuts-in-Ok-Job.ensures in
    ap (λ (s : SeatView _). s.view.lead.tags) c.publish.ensures
    ∙ (ap (λ (t : Ticket _). tags ++ t.tag ∷ []) c.live_job.ensures ∙ published_more old new turn.job tags c.last_of-first.result c.last_of-second.result is c.requires.tags from to)

pub returns-in-Ok-Job-clause-told : goal.returns-in-Ok-Job-clause-told
returns-in-Ok-Job-clause-told g c t w same =
    let p = start_of c.args.course.now.run.machine w in
    let turn = c.in-Ok-Job in
    (cut_in_run t p _ c.args.master.now c.next_turn.new.master turn.field-0 turn.job _ _ turn.field-0-is (turn.ensures.told t p _ (c.requires.told t w same)).0).0

pub returns-in-Ok-Last-clause-tags : goal.returns-in-Ok-Last-clause-tags
returns-in-Ok-Last-clause-tags g c =
    let old = c.args.master.now in
    let new = c.next_turn.new.master in
    let tags = c.args.lead.now.view.lead.tags in
    let turn = c.in-Ok-Last in
    let is = at_end old new turn.field-0 turn.job turn.end turn.field-0-is turn.ensures.turn in
    let from = c.last_of-first.ensures ∙ ap (last_cut 0) c.cuts.ensures in
    ap (λ (s : SeatView _). s.view.lead.tags) c.publish-in-Ok-Last.ensures
    ∙ (ap (λ (t : Ticket _). tags ++ t.tag ∷ []) c.live_job-in-Ok-Last.ensures ∙ published_last old new turn.job turn.end tags c.last_of-first.result is c.requires.tags from)

pub returns-in-Ok-Last-clause-told : goal.returns-in-Ok-Last-clause-told
returns-in-Ok-Last-clause-told g c t w same =
    let p = start_of c.args.course.now.run.machine w in
    let turn = c.in-Ok-Last in
    (end_in_run t p _ c.args.master.now c.next_turn.new.master turn.field-0 turn.job turn.end _ _ turn.field-0-is (turn.ensures.told t p _ (c.requires.told t w same)).0).0

pub returns-in-Err-clause-told : goal.returns-in-Err-clause-told
returns-in-Err-clause-told g c t w same =
    let p = start_of c.args.course.now.run.machine w in
    let old = c.args.master.now in
    let h = c.in-Err.ensures.told t p _ (c.requires.told t w same) in
    fails t p _ old c.next_turn.new.master c.in-Err.fault _ _ old.limits.budget h.0 h.1 (ap (λ (l : Limits). l.budget) c.in-Err.ensures.limits)
