-- Runs over a host that never fails.
use Rattle.std.proofs.Common.{◌≡◌, refl, ap, arith}
use Rattle.std.specs.Prelude.{None, Some, []}
use Rattle.sp_host.specs.Steady.{no_files}
use Rattle.sp_host.specs.Told.{Told}
use Rattle.syscall_layer.specs.Serve.{told_after}
use Rattle.demo_run.specs.Demo.{no_world}
use Rattle.sp_host.specs.Faults.{Caused, Faults, To, no_faults}
use Rattle.sp_host.specs.declared.host.Port.{Port}
use Rattle.sp_host.specs.declared.host.Port.TheVariants.{Out, Err, Report}
use Rattle.syscall_layer.specs.Step.{run_source_of}
use Rattle.syscall_layer.specs.declared.fault.RunFault.{RunFault}
use Rattle.syscall_layer.specs.declared.fault.RunFault.TheVariants as faults
use Rattle.demo_run.specs.Parts.{HasNoSource}

no_port : (port : Port) → Caused (Some (To port)) no_faults no_faults → ⊥
no_port Out rose = omega (arith, ap (λ (f : Faults). f.out) rose)
no_port Err rose = omega (arith, ap (λ (f : Faults). f.err) rose)
no_port Report rose = omega (arith, ap (λ (f : Faults). f.report) rose)

-- no fault of such a run comes of a call of the outside
pub no_source : (fault : RunFault) → Caused (run_source_of fault) no_faults no_faults → HasNoSource fault
no_source (faults.Unsupported number pc) caused = refl
no_source (faults.BudgetSpent n) caused = refl
no_source faults.InputFault caused = absurd (omega (arith, ap (λ (f : Faults). f.input) caused))
no_source (faults.OutputFault port) caused = absurd (no_port port caused)
no_source faults.NoMemory caused = refl

-- what is told of the outside before a run, and after it
abbrev pub outset : Told
outset = record { files = Some no_files; input = Some []; moments = Some []; out = None; err = None; report = None }

pub at_outset : (t : Told) → t ≡ outset → t ≡ told_after outset no_world []
at_outset t is = is
