-- One step of a run, by what the instruction at pc does.
use Rattle.std.proofs.Common.{inl, ◌≡◌, ℕ, List, refl, sym, ap, ◌∙◌}
use Rattle.std.specs.Prelude.{Bool, true, false, Option, None, Some, Ok, Err}
use Rattle.sp_host.specs.Told.{Told}
use Rattle.guest_model.specs.Machine.{Machine}
use Rattle.guest_model.specs.Effect.{Effect, effect_of}
use Rattle.guest_model.specs.Call.{Sent}
use Rattle.guest_model.specs.Calls.{Deed}
use Rattle.guest_model.specs.Runs.{RunState, Running, Ended}
use Rattle.guest_model.specs.Serial.{Position, End, Signal, completed, step_of}
use Rattle.rv_machine.specs.Guest.{GuestState}
use Rattle.rv_machine.specs.Step.{kind_number}
use Rattle.rv_machine.specs.declared.step.FaultKind.{FaultKind}
use Rattle.rv_machine.specs.declared.step.End.TheVariants as ends
use Rattle.syscall_layer.specs.Serve.{told_after}
use Rattle.syscall_layer.specs.Step.{CallGives, IsAt, LeavesGuest}
use Rattle.syscall_layer.specs.declared.fault.RunFault.{RunFault}
use Rattle.syscall_layer.specs.declared.fault.RunFault.TheVariants as faults
use Rattle.syscall_layer.specs.declared.server.Served.{Served}
use Rattle.syscall_layer.specs.declared.server.Served.TheVariants as served
use Rattle.syscall_layer.proofs.Step.{nothing_sent, step_with}
use Rattle.serial_run.specs.Steps.{StepGives}
use Rattle.serial_run.specs.declared.step.Turn.TheVariants as turns

-- an instruction that faults
pub fault_gives : (grows : Bool) (t : Told) (p : Position) (before : List Sent) (m now : Machine) (new : Told) (kind : FaultKind) (pc : ℕ) → p.machine ≡ m → effect_of m ≡ Effect.Fault (kind_number kind) → now ≡ m → pc ≡ m.pc → new ≡ told_after t p.world before
    → StepGives grows t p before (Ok (turns.Over (ends.Signal kind pc))) now new
fault_gives grows t p before m now new kind pc here e same at_pc told =
    let step = step_with p (Effect.Fault (kind_number kind)) (ap effect_of here ∙ e) in
    let pc_is : p.machine.pc ≡ pc = ap (λ (k : Machine). k.pc) here ∙ sym at_pc in
    (step.leads ∙ ap (λ (a : ℕ). Ended p (Signal (kind_number kind) a)) pc_is, same ∙ sym here, nothing_sent t p before new step.sends told)

-- a call that ends the run
pub exit_gives : (grows : Bool) (t : Told) (p : Position) (before : List Sent) (m : Machine) (deed : Option Deed) (old now : GuestState) (new : Told) (status : ℕ) → p.machine ≡ old.machine → LeavesGuest deed (Ok (served.Exit status)) old now
    → CallGives t p before (Ok (served.Exit status)) m new → StepGives grows t p before (Ok (turns.Over (ends.Exit status))) now.machine new
exit_gives grows t p before m None old now new status here leaves gives = absurd leaves
exit_gives grows t p before m (Some deed) old now new status here leaves gives = (gives.0, ap (λ (g : GuestState). g.machine) leaves.1 ∙ sym here, gives.1)

-- a call that was not served
pub fails_gives : (grows : Bool) (t : Told) (p : Position) (before : List Sent) (m after : Machine) (new : Told) (fault : RunFault) → CallGives t p before (Err fault) m new → StepGives grows t p before (Err fault) after new
fails_gives grows t p before m after new (faults.Unsupported number pc) gives = gives
fails_gives grows t p before m after new (faults.BudgetSpent n) gives = absurd gives
fails_gives grows t p before m after new faults.InputFault gives = gives
fails_gives grows t p before m after new (faults.OutputFault port) gives = gives
fails_gives grows t p before m after new faults.NoMemory gives = inl gives

-- there are as many frames as before a call that was served
pub count_kept : (deed : Option Deed) (answer : Served) (old new : GuestState) → LeavesGuest deed (Ok answer) old new → new.frames.count ≡ old.frames.count
count_kept None answer old new leaves = absurd leaves
count_kept (Some deed) (served.Went entry) old new leaves = leaves.marks.count
count_kept (Some deed) (served.Exit status) old new leaves = ap (λ (g : GuestState). g.frames.count) leaves.1

-- a tool that may lack memory grows
pub must_grow : (grows : Bool) → (grows ≡ false → ⊥) → grows ≡ true
must_grow true h = refl
must_grow false h = absurd (h refl)

-- what a step completed, by where it leads
pub completion_is : (p : Position) (m : Machine) (calls : ℕ) → IsAt (step_of p) m calls → completed (step_of p) ≡ Some m
completion_is p m calls at = go (step_of p) at
  where
    go : (state : RunState Position End) → IsAt state m calls → completed state ≡ Some m
    go (Running q) h = ap (λ (k : Machine). Some k) h.0
    go (Ended q end) h = absurd h
