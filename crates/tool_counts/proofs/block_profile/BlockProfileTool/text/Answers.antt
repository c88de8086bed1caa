use Rattle.std.proofs.Common.{◌∙◌, ◌++◌, ap}
use Rattle.tool_counts.specs.Profile.{profile_text}
use Rattle.tool_counts.proofs.block_profile.BlockProfileTool.text.Goals as goal

pub returns : goal.returns
returns c = λ xs h. c.in_ok-push_lines.ensures ∙ ap (λ es. c.args.out.now.items ++ profile_text c.args.views.now es) h
