use Rattle.std.proofs.Common.{◌≡◌, ap, arith}
use Rattle.elf_load.specs.Image.{FunctionFields}
use Rattle.insert_points.specs.Plan.{called_at}
use Rattle.tool_law.proofs.Offering.{routine_first, routine_last, routines_step}
use Rattle.tool_law.proofs.plan.offer_routines.Goals as goal

pub loop-k-init : goal.loop-k-init
loop-k-init g c = λ a fits. rw c.routines-k.ensures (routine_first (g.T.Tool.calls_of c.args.tool.now) c.args.views.now a _ _ (c.requires a fits))

pub loop-k-preserved : goal.loop-k-preserved
loop-k-preserved g c = λ a fits.
    let start : c.behind-views.inside.start ≡ c.routine.result.now.start = ap (λ (f : FunctionFields). f.start) c.behind-views.view_is in
    routines_step (g.T.Tool.calls_of c.args.tool.now) c.args.views.now a c.loop-k.k c.routine.result.now _ _ (omega arith) c.routine.ensures (c.loop-k.invariant a fits) (rw start at (c.in_ok-offer.ensures a fits))

pub returns : goal.returns
returns g c = λ a fits.
    let none : c.loop-k.k ≡ 0 = omega arith in
    routine_last (g.T.Tool.calls_of c.args.tool.now) c.args.views.now a (called_at c.loop-k.plan a) (rw none at (c.loop-k.invariant a fits))
