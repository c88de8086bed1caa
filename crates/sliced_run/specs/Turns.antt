-- What is known of a master's next turn.
use Rattle.std.specs.Prelude.{◌≡◌, ◌<◌, Result, Ok, Err}
use Rattle.master_run.specs.Master.{MasterState, Ready}
use Rattle.master_run.specs.declared.master.Turn.{Turn}
use Rattle.master_run.specs.declared.master.Turn.TheVariants as turns
use Rattle.syscall_layer.specs.declared.fault.RunFault.{RunFault}
use Rattle.syscall_layer.specs.declared.fault.RunFault.TheVariants as faults

-- a master is ready behind a job
abbrev pub StaysReady : Turn → MasterState → Type 0
StaysReady (turns.Job job) new = new.standing ≡ Ready
StaysReady (turns.Last job end) new = Unit {0}

-- it comes to a call without a row within its budget
abbrev pub StopsWithin : Result Turn RunFault → MasterState → Type 0
StopsWithin (Ok turn) new = Unit {0}
StopsWithin (Err (faults.Unsupported number pc)) new = new.position < new.limits.budget
StopsWithin (Err (faults.BudgetSpent n)) new = Unit {0}
StopsWithin (Err faults.InputFault) new = Unit {0}
StopsWithin (Err (faults.OutputFault port)) new = Unit {0}
StopsWithin (Err faults.NoMemory) new = Unit {0}
