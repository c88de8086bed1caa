use Rattle.rv_isa.proofs.Unique.{one_plain_word}
use Rattle.rv_isa.proofs.encoder.encode.Goals as goal

pub returns-clause-only : goal.returns-clause-only
returns-clause-only c = λ word h plain. one_plain_word word c.word_of.result c.args.i.now plain c.word_of.ensures.plain h c.word_of.ensures.row
