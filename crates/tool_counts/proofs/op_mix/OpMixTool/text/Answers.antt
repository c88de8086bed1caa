use Rattle.std.proofs.Common.{◌∙◌, ◌++◌, ap}
use Rattle.tool_counts.proofs.Mixes.{text_same}
use Rattle.tool_counts.proofs.op_mix.OpMixTool.text.Goals as goal

pub returns : goal.returns
returns c = λ xs h. c.in_ok-push_lines.ensures ∙ ap (λ t. c.args.out.now.items ++ t) (text_same xs c.args.shared.now h)
