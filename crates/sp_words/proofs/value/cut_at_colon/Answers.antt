use Rattle.std.proofs.Common.{Some, None, ap, arith, sym, ◌∙◌}
use Rattle.std.proofs.lemmas.Str.Pattern.{split_parts}
use Rattle.sp_words.specs.Value.{cut_at_colon}
use Rattle.sp_words.proofs.Cuts.{cut_between, cut_nowhere}
use Rattle.sp_words.proofs.value.cut_at_colon.Goals as goal

pub returns-in-Some : goal.returns-in-Some
returns-in-Some c =
    let parts = split_parts 58 c.args.text.now (Some (c.in-Some.front, c.in-Some.back)) c.in-Some.ensures.cases (omega arith) in
    sym (ap cut_at_colon parts.0 ∙ cut_between c.in-Some.front.now c.in-Some.back.now parts.1)

pub returns-in-None : goal.returns-in-None
returns-in-None c = sym (cut_nowhere c.args.text.now (split_parts 58 c.args.text.now None c.in-None.ensures.cases (omega arith)))
