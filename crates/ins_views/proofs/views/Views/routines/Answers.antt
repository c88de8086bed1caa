use Rattle.std.proofs.Common.{arith}
use Rattle.ins_views.proofs.Routines.{few_routines}
use Rattle.ins_views.proofs.views.Views.routines.Goals as goal

pub overflow_cast-result : goal.overflow_cast-result
overflow_cast-result c =
    omega (arith, few_routines c.self.inside.routines.items c.self.invariant.routines, c.len.ensures, c.self.inside.routines.ok.0)
