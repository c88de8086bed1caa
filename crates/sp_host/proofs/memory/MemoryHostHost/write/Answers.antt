use Rattle.std.proofs.Common.{◌↔◌, ◌⊎◌, subst, sym, IsErr}
use Rattle.sp_host.specs.declared.host.Port.{Port}
use Rattle.sp_host.specs.declared.host.Port.TheVariants.{Out, Err, Report}
use Rattle.sp_host.specs.Faults.{To, Counts, with_count}
use Rattle.sp_host.specs.Plan.{IsPlanned, IsFull}
use Rattle.sp_host.specs.Memory.{memory_faults, memory_told, memory_of}
use Rattle.sp_host.proofs.Counts.{counts_one}
use Rattle.sp_host.proofs.memory.MemoryHostHost.write.Goals as goal

pub returns-in-Out-clause-faults : goal.returns-in-Out-clause-faults
returns-in-Out-clause-faults c =
    let f = memory_faults c.args.self.now in
    subst (λ (p : Port). Counts (To p) f (with_count (To Out) c.write.new.self.meter.faults f) c.write.result) (sym c.in-Out.is) (counts_one (To Out) f c.write.new.self.meter.faults c.write.result c.write.ensures.faults)

pub returns-in-Out-clause-failed : goal.returns-in-Out-clause-failed
returns-in-Out-clause-failed c =
    let h = c.args.self.now in
    subst (λ (p : Port). IsErr c.write.result ↔ (IsPlanned (To p) (memory_of h) ⊎ IsFull p (memory_of h) (memory_told h))) (sym c.in-Out.is) c.write.ensures.failed

pub returns-in-Err-clause-faults : goal.returns-in-Err-clause-faults
returns-in-Err-clause-faults c =
    let f = memory_faults c.args.self.now in
    subst (λ (p : Port). Counts (To p) f (with_count (To Err) c.write-in-Err.new.self.meter.faults f) c.write-in-Err.result) (sym c.in-Err.is) (counts_one (To Err) f c.write-in-Err.new.self.meter.faults c.write-in-Err.result c.write-in-Err.ensures.faults)

pub returns-in-Err-clause-failed : goal.returns-in-Err-clause-failed
returns-in-Err-clause-failed c =
    let h = c.args.self.now in
    subst (λ (p : Port). IsErr c.write-in-Err.result ↔ (IsPlanned (To p) (memory_of h) ⊎ IsFull p (memory_of h) (memory_told h))) (sym c.in-Err.is) c.write-in-Err.ensures.failed

pub returns-in-Report-clause-faults : goal.returns-in-Report-clause-faults
returns-in-Report-clause-faults c =
    let f = memory_faults c.args.self.now in
    subst (λ (p : Port). Counts (To p) f (with_count (To Report) c.write-in-Report.new.self.meter.faults f) c.write-in-Report.result) (sym c.in-Report.is) (counts_one (To Report) f c.write-in-Report.new.self.meter.faults c.write-in-Report.result c.write-in-Report.ensures.faults)

pub returns-in-Report-clause-failed : goal.returns-in-Report-clause-failed
returns-in-Report-clause-failed c =
    let h = c.args.self.now in
    subst (λ (p : Port). IsErr c.write-in-Report.result ↔ (IsPlanned (To p) (memory_of h) ⊎ IsFull p (memory_of h) (memory_told h))) (sym c.in-Report.is) c.write-in-Report.ensures.failed
