use Rattle.std.proofs.Common.{[], take, drop, inl, inr, refl, ◌∙◌}
use Rattle.std.proofs.lemmas.List.{append-nil, take-append-drop}
use Rattle.superpin_top.proofs.Texts.{some_left}
use Rattle.superpin_top.proofs.answer.refuse.Goals as goal

pub returns-in-Ok : goal.returns-in-Ok
returns-in-Ok g c =
    let whole = c.as_slice.ensures.value ∙ c.refusal_line-line.ensures in
    record { line = c.as_slice.result.now; rest = []; is_front = append-nil c.as_slice.result.now ∙ whole; told_is = c.in-Ok.ensures.told; cause = inl (refl, c.in-Ok.ensures.faults) }

pub returns-in-Err : goal.returns-in-Err
returns-in-Err g c =
    let part = c.in-Err.ensures.told in
    let line = c.as_slice.result.now in
    let whole = c.as_slice.ensures.value ∙ c.refusal_line-line.ensures in
    record {
      line = take part.count line;
      rest = drop part.count line;
      is_front = take-append-drop part.count line ∙ whole;
      told_is = part.sends;
      cause = inr (some_left part.count line part.proper, c.in-Err.ensures.faults);
    }
