use Rattle.superpin_top.proofs.Causes.{calm_result}
use Rattle.superpin_top.proofs.load.ready.Goals as goal

pub returns-clause-faults : goal.returns-clause-faults
returns-clause-faults g c =
    calm_result c.start.result (g.H.Host.faults c.args.host.now) (g.H.Host.faults c.read_program.new.host) c.in-Ok.ensures.faults c.start.ensures.cause
