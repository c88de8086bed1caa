use Rattle.std.proofs.Common.{subst, sym}
use Rattle.sp_host.specs.declared.host.Port.{Port}
use Rattle.sp_host.specs.declared.host.Port.TheVariants.{Out, Err, Report}
use Rattle.sp_host.specs.Faults.{To, Faulted, with_count}
use Rattle.sp_host.specs.Real.{real_faults}
use Rattle.sp_host.proofs.Counts.{faulted_once}
use Rattle.sp_host.proofs.real.StdHost.write_failed.Goals as goal

pub returns-in-Out : goal.returns-in-Out
returns-in-Out c =
    let f = real_faults c.args.self.now in
    subst (λ (p : Port). Faulted (To p) f (with_count (To Out) c.counted.new.faults f)) (sym c.in-Out.is) (faulted_once (To Out) f c.counted.new.faults c.counted.ensures)

pub returns-in-Err : goal.returns-in-Err
returns-in-Err c =
    let f = real_faults c.args.self.now in
    subst (λ (p : Port). Faulted (To p) f (with_count (To Err) c.counted-in-Err.new.faults f)) (sym c.in-Err.is) (faulted_once (To Err) f c.counted-in-Err.new.faults c.counted-in-Err.ensures)

pub returns-in-Report : goal.returns-in-Report
returns-in-Report c =
    let f = real_faults c.args.self.now in
    subst (λ (p : Port). Faulted (To p) f (with_count (To Report) c.counted-in-Report.new.faults f)) (sym c.in-Report.is) (faulted_once (To Report) f c.counted-in-Report.new.faults c.counted-in-Report.ensures)
