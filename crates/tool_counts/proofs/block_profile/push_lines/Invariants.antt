use Rattle.std.proofs.Common.{◌≡◌, ◌++◌}
use Rattle.tool_counts.specs.Profile.{profile_text}
use Rattle.tool_counts.proofs.block_profile.push_lines.Given as goal

abbrev pub invariant-loop-head : goal.invariant-loop-head
invariant-loop-head l = l.out.items ++ profile_text l.views l.head-iterator ≡ l.fn.out.items ++ profile_text l.views l.counts.entries
