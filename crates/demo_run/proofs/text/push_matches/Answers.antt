use Rattle.std.proofs.Common.{◌∙◌}
use Rattle.guest_model.specs.Tests.{HitCounts}
use Rattle.demo_run.proofs.Sums.{hits_of_lines}
use Rattle.demo_run.proofs.text.push_matches.Goals as goal

pub returns : goal.returns
returns c =
    let lines = c.args.lines.now in
    let quick = c.sums_of-sums.ensures.quick ∙ hits_of_lines (λ (h : HitCounts). h.quick) lines in
    let registers = c.sums_of-sums.ensures.registers ∙ hits_of_lines (λ (h : HitCounts). h.registers) lines in
    let stack = c.sums_of-sums.ensures.stack ∙ hits_of_lines (λ (h : HitCounts). h.stack) lines in
    let whole = c.sums_of-sums.ensures.whole ∙ hits_of_lines (λ (h : HitCounts). h.whole) lines in
    rw (← quick, ← registers, ← stack, ← whole) c.in_ok-push_sums.ensures
