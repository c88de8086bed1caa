use Rattle.std.proofs.Common.{subst, sym}
use Rattle.std.specs.Prelude.{All}
use Rattle.insert_points.specs.Plan.{IsSite}
use Rattle.insert_points.proofs.index.Index.reserve.Goals as goal

pub returns-in_err-give-clause-sound : goal.returns-in_err-give-clause-sound
returns-in_err-give-clause-sound c = λ n all. c.give.ensures.sound n (subst (All (IsSite n)) (sym c.in_ok-grow.ensures.sites) all)

pub returns-in_ok-give-clause-sound : goal.returns-in_ok-give-clause-sound
returns-in_ok-give-clause-sound c = λ n all. c.give.ensures.sound n (subst (All (IsSite n)) (sym c.in_ok-grow.ensures.sites) all)
