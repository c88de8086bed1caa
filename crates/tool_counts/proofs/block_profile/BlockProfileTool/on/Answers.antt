use Rattle.std.proofs.Common.{eq-eqb}
use Rattle.tool_counts.proofs.Tallies.{one-fits, get-tally-noted}
use Rattle.tool_counts.proofs.block_profile.BlockProfileTool.on.Goals as goal

pub returns-in_ok-note_head-clause-law : goal.returns-in_ok-note_head-clause-law
returns-in_ok-note_head-clause-law c = λ ys room same.
    get-tally-noted ys c.args.event.now _ _ (eq-eqb _ 0 c.if-event-eq0.true) same (c.in_ok-note_head.ensures (one-fits ys _ _ room (same _)))
