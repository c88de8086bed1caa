use Rattle.std.proofs.Common.{rules}
use Rattle.std.specs.Str.Parse.{ParsesUnsigned}
use Rattle.sp_words.proofs.Numbers.{unread}
use Rattle.sp_words.proofs.value.number_in.Goals as goal

pub returns-in-Err-clause-value : goal.returns-in-Err-clause-value
returns-in-Err-clause-value c =
    let parses : ParsesUnsigned 64 10 c.args.text.now c.parse.result = c.parse.ensures.value.0 in
    unread c.args.least c.args.most c.args.text.now c.parse.result c.in-Err.field-0 (search rules) c.ranges.most.fits parses (search rules)
