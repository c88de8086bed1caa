-- What a step of a guest answers.
use Rattle.std.specs.Prelude.{◌≡◌, ℕ, ◌+◌}
use Rattle.guest_model.specs.Effect.{Effect, illegal, breakpoint, misaligned, access, stored_by}
use Rattle.guest_model.specs.Effect as effects
use Rattle.guest_mem.specs.Frames.{TakesFrames}
use Rattle.rv_machine.specs.Guest.{GuestState}
use Rattle.rv_machine.specs.declared.step.End.{End}
use Rattle.rv_machine.specs.declared.step.End.TheVariants.{Exit, Signal}
use Rattle.rv_machine.specs.declared.step.FaultKind.{FaultKind}
use Rattle.rv_machine.specs.declared.step.FaultKind.TheVariants.{Illegal, Break, Misaligned, Access}
use Rattle.rv_machine.specs.declared.step.Stepped.{Stepped}
use Rattle.rv_machine.specs.declared.step.Stepped.TheVariants.{Next, Call, Fault}

-- the number of a kind of fault
abbrev pub kind_number : FaultKind → ℕ
kind_number Illegal = illegal
kind_number Break = breakpoint
kind_number Misaligned = misaligned
kind_number Access = access

-- The answer tells the effect, and the guest is the machine after it, which took the frames of what was stored; its memory
-- came from the same frozen state. At a call and at a fault it stays as it was.
abbrev pub Gives : Effect → Stepped → GuestState → GuestState → Type 0
Gives effect Next old new =
    (effect ≡ effects.Next new.machine (stored_by effect))
    × (TakesFrames old.frames new.frames (stored_by effect) × (new.origin ≡ old.origin))
Gives effect Call old new = (effect ≡ effects.Call) × (new ≡ old)
Gives effect (Fault kind) old new = (effect ≡ effects.Fault (kind_number kind)) × (new ≡ old)

-- the exit status of a run that a fault ends (POSIX shell, "Exit Status for Commands"): above 128, by the signal's number
abbrev pub status_of : End → ℕ
status_of (Exit status) = status
status_of (Signal kind pc) = 128 + kind_number kind
