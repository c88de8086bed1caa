use Rattle.std.proofs.lemmas.Result.{IfOk-at_ok}
use Rattle.live_run.specs.Live.{IsPieceOfRun}
use Rattle.live_run.proofs.Driving.{collected, merges_next, on_ok_both}
use Rattle.live_run.proofs.lead.take_piece.Goals as goal

pub returns-clause-merges : goal.returns-clause-merges
returns-clause-merges g c =
    let stands = g.T.Tool.is_local c.args.tool.now in
    let is_value = g.T.Tool.is_value c.args.tool.now in
    let ticket = c.args.piece in
    let inside = c.piece.inside in
    let run = inside.run.value in
    let of = IfOk-at_ok (IsPieceOfRun (g.T.Tool.is_local run.tool) run.plan run.told run.machine inside.number (inside.first, inside.second)) c.in_ok-piece.was c.piece.invariant in
    let between = collected g.T.Tool.is_local c.args.tool.now inside.number inside.first inside.second run ticket c.in_ok-piece.piece c.piece.view_is c.requires.tool of in
    on_ok_both c.put.result (merges_next stands is_value ticket.topic.plan ticket.topic.told ticket.topic.machine ticket.tag c.args.merger.now.shared c.put.new.self.shared c.args.merger.now.lines.items c.put.new.self.lines.items c.in_ok-piece.piece between) c.put.ensures.value c.put.ensures.lines
