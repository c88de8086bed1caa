-- What is known of each turn.
use Rattle.std.specs.Prelude.{IfOk, Result, Ok, Err}
use Rattle.sp_host.specs.Told.{Told}
use Rattle.guest_model.specs.Serial.{Position}
use Rattle.master_run.specs.Answers.{PacerState}
use Rattle.master_run.specs.Master.{MasterState}
use Rattle.master_run.specs.Turn.{HandsOut, HandsOutOfRun}
use Rattle.master_run.specs.declared.master.Turn.{Turn}
use Rattle.master_run.specs.declared.master.Turn.TheVariants as turns
use Rattle.syscall_layer.specs.declared.fault.RunFault.{RunFault}
use Rattle.syscall_layer.specs.declared.fault.RunFault.TheVariants as faults
use Rattle.sliced_run.specs.Turns.{StaysReady, StopsWithin}

-- a master is ready behind a job
pub stays_ready : (r : Result Turn RunFault) (old new : MasterState) → IfOk r (λ turn. HandsOut old turn new) → IfOk r (λ turn. StaysReady turn new)
stays_ready (Ok (turns.Job job)) old new h = h.ready
stays_ready (Ok (turns.Last job end)) old new h = tt
stays_ready (Err fault) old new h = tt

-- a call without a row is met within the budget
pub stops_within : (t : Told) (p : Position) (first : PacerState) (old : MasterState) (r : Result Turn RunFault) (new : MasterState) (told : Told) (now : PacerState) → HandsOutOfRun t p first old r new told now → StopsWithin r new
stops_within t p first old (Ok turn) new told now h = tt
stops_within t p first old (Err (faults.Unsupported number pc)) new told now h = h.within
stops_within t p first old (Err (faults.BudgetSpent n)) new told now h = tt
stops_within t p first old (Err faults.InputFault) new told now h = tt
stops_within t p first old (Err (faults.OutputFault port)) new told now h = tt
stops_within t p first old (Err faults.NoMemory) new told now h = tt
