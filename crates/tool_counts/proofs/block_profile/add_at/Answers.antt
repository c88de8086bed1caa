use Rattle.std.proofs.Common.{rules, ◌≡◌, ◌∙◌, unwrap_or, nat_cmp}
use Rattle.std.specs.Map.{lookup}
use Rattle.std.specs.BTreeMap.{is_at}
use Rattle.tool_counts.specs.Profile.{count_of}
use Rattle.tool_counts.proofs.Tallies.{count_read, entries_added}
use Rattle.tool_counts.proofs.block_profile.add_at.Goals as goal

pub returns : goal.returns
returns c = λ t same fits.
    let is : c.unwrap_or-count.result ≡ unwrap_or (lookup (is_at (nat_cmp c.args.head)) c.args.counts.now.entries) 0 = search rules in
    let e : c.unwrap_or-count.result ≡ count_of t c.args.head = is ∙ count_read t _ _ same in
    c.in_ok-insert.ensures.entries ∙ entries_added t _ c.args.head c.args.n _ same e fits
