use Rattle.std.proofs.Common.{◌∙◌}
use Rattle.tool_counts.specs.Profile.{tally}
use Rattle.tool_counts.proofs.Tallies.{both-fits, entries-tally-append}
use Rattle.tool_counts.proofs.block_profile.BlockProfileTool.merge.Goals as goal

pub returns : goal.returns
returns c = λ xs ys room e same.
    let u = c.in_ok-add_all.ensures (tally xs) e (λ q. both-fits xs ys _ q room (same q)) in
    u.1 ∙ entries-tally-append xs ys _ u.0 same u.2
