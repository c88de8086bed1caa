use Rattle.std.proofs.Common.{inr, arith}
use Rattle.call_playback.proofs.Records.{few_for_record}
use Rattle.call_playback.proofs.laws.frames_of_records.Goals as goal

pub returns-clause-pages : goal.returns-clause-pages
returns-clause-pages c = few_for_record

pub returns-clause-enough : goal.returns-clause-enough
returns-clause-enough c = λ f m entry h free. inr (omega (arith, few_for_record f.framed m entry h, free))
