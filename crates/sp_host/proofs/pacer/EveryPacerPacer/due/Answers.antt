use Rattle.std.proofs.Common.{ap, ◌∙◌, arith, ℕ, Bool, false, Some}
use Rattle.std.specs.Option.{unwrap_or}
use Rattle.sp_host.proofs.Turns.{turn_over, turn_stays}
use Rattle.sp_host.proofs.pacer.EveryPacerPacer.due.Goals as goal

pub returns-then-answer-clause-answers : goal.returns-then-answer-clause-answers
returns-then-answer-clause-answers c =
    let p = c.args.self.now in
    ap (λ f. Some f) (turn_over p.every p.left (omega (arith, p.some, p.within)) c.if-answer.true)

pub returns-else-answer-clause-answer : goal.returns-else-answer-clause-answer
returns-else-answer-clause-answer c = λ told is.
    let p = c.args.self.now in
    turn_stays p.every p.left p.some p.within c.if-answer.false ∙ ap (λ known. unwrap_or {T = ℕ → Bool} known (λ _. false) 1) is
