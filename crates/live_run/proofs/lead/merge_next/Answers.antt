use Rattle.std.proofs.Common.{◌≡◌, ap, ◌∙◌}
use denote.Param.Send.{sendable}
use Rattle.slice_ring.specs.Seats.{SeatView, merged_by}
use Rattle.slice_ring.specs.Ticket.{Ticket}
use Rattle.serial_run.specs.Start.{start_of}
use Rattle.live_run.proofs.Driving.{about_run, merges_more, on_ok}
use Rattle.live_run.proofs.Sent.{job_send}
use Rattle.live_run.proofs.lead.merge_next.Goals as goal

pub collect-requires-send-J : goal.collect-requires-send-J
collect-requires-send-J g c κs within = search (sendable, job_send)

pub returns-in-Some-clause-merges : goal.returns-in-Some-clause-merges
returns-in-Some-clause-merges g c =
    let stands = g.T.Tool.is_local c.args.course.now.work.now.tool.now in
    let is_value = g.T.Tool.is_value c.args.course.now.work.now.tool.now in
    let plan = c.args.course.now.work.now.plan.now in
    let run = c.args.course.now.run in
    let lead = c.args.lead.now in
    let piece = c.in-Some.piece in
    let old = c.args.merger.now in
    let new = c.take_piece.new.merger in
    let found = c.in-Some.ensures.some in
    let topic : piece.topic ≡ run = ap (λ (t : Ticket _). t.topic) found.1.2 ∙ c.requires.run in
    on_ok c.take_piece.result (λ h t w same. merges_more stands is_value plan (start_of run.machine w) lead.view.lead.tags (merged_by lead) (merged_by c.collect.new.lead) found.1.0 piece.tag old.shared new.shared old.lines.items new.lines.items found.1.1
    (ap (λ (t : Ticket _). t.tag) found.1.2) (ap (λ (s : SeatView _). merged_by s) found.0) (about_run stands is_value piece.topic run plan piece.tag old.shared new.shared old.lines.items new.lines.items topic c.requires.plan h t w same)) c.take_piece.ensures.merges
