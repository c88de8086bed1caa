-- What making a job from its parts answers.
use Rattle.std.specs.Prelude.{◌≡◌, ℕ, ◌+◌, ◌-◌, ◌<◌, ◌≤◌, ◌⊎◌, false, Bool, true, length, Some, Result, Ok, Err}
use Rattle.call_record.specs.Record.{CallRecord}
use Rattle.guest_model.specs.Effect.{Call, effect_of}
use Rattle.guest_model.specs.Fits.{fits}
use Rattle.guest_model.specs.Play.{Halt, Script, Spot, entry_for, spot, written_of}
use Rattle.guest_model.specs.Range.{pages_among}
use Rattle.guest_model.specs.Runs.{RunState, Running, Ended, IsEnded, IsRunning}
use Rattle.guest_model.specs.declared.platform.TheConstants.{MOST_PAGES}
use Rattle.guest_mem.specs.Frames.{Frames}
use Rattle.rv_machine.specs.Guest.{GuestState}
use Rattle.boundary_verify.specs.Job.{FitsAt, JobFields, Lasts, TakesAll, boundary_of, path_of}
use Rattle.boundary_verify.specs.Path.{Meets, Path, path_after}
use Rattle.boundary_verify.specs.Path as paths
use Rattle.slice_runner.specs.declared.checked.Draft.{Draft}
use Rattle.slice_runner.specs.declared.checked.JobFault.{JobFault}
use Rattle.slice_runner.specs.declared.checked.JobFault.TheVariants.{BadRecord, NoMemory, NotReached, Peak}
use Rattle.slice_runner.specs.Turn.{IsTurn}

-- the play makes k steps and goes on: each record that it takes fits, it writes at most so many pages, and none of the positions behind its steps is the
-- boundary
pub record Passes (path : Path) (peak k : ℕ) : Type 0 where
  pub goes_on : IsRunning (path_after path k)
  pub fits : (j : ℕ) → j < k → FitsAt path.script (path_after path j)
  pub few : pages_among (written_of path.script k path.start) ≤ peak
  pub unmatched : (j : ℕ) → 1 ≤ j → j ≤ k → Meets path.boundary (path_after path j) → ⊥

-- the record that the next step takes, the one with this place in the list, does not fit its call
abbrev pub TakesMisfit : Script → ℕ → RunState Spot Halt → Type 0
TakesMisfit script index (Running s) =
    (effect_of s.machine ≡ Call) × ((entry : CallRecord) × ((entry_for script s.calls ≡ Some entry) × ((fits s.machine entry ≡ false) × (index ≡ s.calls - script.first))))
TakesMisfit script index (Ended s halt) = ⊥

-- the step after k steps writes more pages than it may: so many are written then
pub record PassesPeak (path : Path) (peak k pages : ℕ) : Type 0 where
  pub fits : FitsAt path.script (path_after path k)
  pub pages_are : pages ≡ pages_among (written_of path.script (k + 1) path.start)
  pub many : peak < pages

-- the play ended after so many steps, and not at the end of the job
pub record EndsShort (path : Path) (steps : ℕ) : Type 0 where
  pub over : IsEnded (path_after path steps)
  pub short : Meets path.boundary (path_after path steps) → TakesAll path.boundary path.script (path_after path steps) → ⊥

-- after some k steps, fewer than so many, on which the job had not come to its end, the next one is such
abbrev pub Within : Path → ℕ → ℕ → (ℕ → Type 0) → Type 0
Within path peak within P = (k : ℕ) × ((k < within) × (Passes path peak k × P k))

-- the fault of a job whose play is tried for so many steps: the first that the play meets; want of memory is free
abbrev pub FaultGives : Path → ℕ → ℕ → JobFault → Type 0
FaultGives path peak within (BadRecord index) = Within path peak within (λ k. TakesMisfit path.script index (path_after path k))
FaultGives path peak within (Peak pages) = Within path peak within (λ k. PassesPeak path peak k pages)
FaultGives path peak within (NotReached steps) = ((steps ≡ within) × Passes path peak within) ⊎ Within path peak within (λ k. (steps ≡ k + 1) × EndsShort path steps)
FaultGives path peak within NoMemory = Unit {0}

-- the play comes to the end of the job, or which fault it meets first
abbrev pub PlayGives : Path → ℕ → ℕ → Result Unit JobFault → Type 0
PlayGives path peak within (Ok done) = Within path peak within (λ k. Lasts path peak (k + 1))
PlayGives path peak within (Err fault) = FaultGives path peak within fault

-- the job with these fields, if its play comes to its end within so many steps
abbrev pub JobGives : JobFields → ℕ → Result JobFields JobFault → Type 0
JobGives fields within (Ok job) = (job ≡ fields) × Within (path_of fields) fields.peak within (λ k. Lasts (path_of fields) fields.peak (k + 1))
JobGives fields within (Err fault) = FaultGives (path_of fields) fields.peak within fault

-- what a job is made of
abbrev pub fields_of : Draft → JobFields
fields_of d = record { index = d.index; start = d.start; position = d.position; records = d.records.items; end = d.end; peak = d.peak }

-- the play that stands here, and goes on or ended, is at the end of the job: at its boundary, or with the run, and no record is left
abbrev pub EndsJob : JobFields → Spot → Bool → Type 0
EndsJob job s true = boundary_of job.end ≡ paths.At s
EndsJob job s false = (boundary_of job.end ≡ paths.AtEnd) × (s.calls - job.position ≡ length job.records)

-- one step never lacks a frame
abbrev pub HasRoomForStep : Frames → Type 0
HasRoomForStep f = (MOST_PAGES ≤ f.count) ⊎ (31 ≤ f.free)

-- a step of the play that was tried: it was made, or its record does not fit
abbrev pub TryGives : Script → GuestState → ℕ → GuestState → ℕ → Result Bool JobFault → Type 0
TryGives script old calls new later (Ok on) = FitsAt script (Running (spot old.machine calls)) × IsTurn script old calls on new later
TryGives script old calls new later (Err (BadRecord index)) = TakesMisfit script index (Running (spot old.machine calls))
TryGives script old calls new later (Err fault) = ⊥
