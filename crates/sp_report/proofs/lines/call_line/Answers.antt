use Rattle.std.proofs.Common.{ℕ, List, ◌++◌, ap, ◌∙◌}
use Rattle.std.specs.Prelude.{codes}
use Rattle.std.specs.Fmt.{decimal}
use Rattle.sp_report.proofs.lines.call_line.Goals as goal

pub returns : goal.returns
returns c =
    let tail = c.as_slice-2.ensures.value ∙ (c.joined-tail.ensures ∙ ap (λ (xs : List ℕ). codes " at " ++ (xs ++ codes "\n")) (c.as_slice.ensures.value ∙ c.address_text.ensures)) in
    c.joined.ensures
    ∙ (ap (λ (xs : List ℕ). codes "superpin: 6 unsupported call " ++ (xs ++ c.as_slice-2.result.now)) (c.as_bytes.ensures.value ∙ c.format.ensures.text)
    ∙ ap (λ (xs : List ℕ). codes "superpin: 6 unsupported call " ++ (decimal c.args.number ++ xs)) tail)
