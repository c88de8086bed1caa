-- A job: a slice that is yet to run, and what is so of each.
use Rattle.std.specs.Prelude.{◌≡◌, ℕ, ◌-◌, ◌^◌, ◌<◌, ◌≤◌, true, List, Some, length}
use Rattle.call_record.specs.Record.{CallRecord}
use Rattle.guest_model.specs.Effect.{Call, effect_of}
use Rattle.guest_model.specs.Fits.{fits}
use Rattle.guest_model.specs.Play.{Spot, Script, Halt, entry_for, spot, written_of}
use Rattle.guest_model.specs.Range.{pages_among}
use Rattle.guest_model.specs.Runs.{RunState, Running, Ended, IsRunning, state_of}
use Rattle.guest_mem.specs.Memory.{IsChangedWithin, all_bytes}
use Rattle.rv_machine.specs.Snapshot.{SnapshotState}
use Rattle.boundary_verify.specs.Path.{Path, Meets, path_after}
use Rattle.boundary_verify.specs.Path as paths
use Rattle.boundary_verify.specs.declared.job.Boundary.{Boundary}
use Rattle.boundary_verify.specs.declared.job.Boundary.TheVariants.{At, End}

pub record JobFields : Type 0 where
  -- the number of the slice
  pub index : ℕ
  pub start : SnapshotState
  -- the record position at which it starts
  pub position : ℕ
  pub records : List CallRecord
  pub end : Boundary
  -- how many pages it may write
  pub peak : ℕ

abbrev pub boundary_of : Boundary → paths.Boundary
boundary_of (At state position) = paths.At (spot state.machine position)
boundary_of End = paths.AtEnd

abbrev pub script_of_job : JobFields → Script
script_of_job job = record { first = job.position; entries = job.records }

abbrev pub path_of : JobFields → Path
path_of job = record {
  start = spot job.start.machine job.position;
  script = script_of_job job;
  boundary = boundary_of job.end;
}

-- the record that the play takes at this spot, if it is at a call and one is left, fits the call
abbrev pub FitsAt : Script → RunState Spot Halt → Type 0
FitsAt script (Running s) = (entry : CallRecord) → effect_of s.machine ≡ Call → entry_for script s.calls ≡ Some entry → fits s.machine entry ≡ true
FitsAt script (Ended s halt) = Unit {0}

-- a play that meets the end of the run has taken each record
abbrev pub TakesAll : paths.Boundary → Script → RunState Spot Halt → Type 0
TakesAll (paths.At end) script x = Unit {0}
TakesAll paths.AtEnd script x = (state_of x).calls - script.first ≡ length script.entries

-- the play meets the boundary after s steps, up to which it goes on, takes records that fit, and writes at most so many pages
pub record Lasts (path : Path) (peak s : ℕ) : Type 0 where
  pub begun : 1 ≤ s
  pub short : s ≤ 2 ^ 40
  pub goes_on : IsRunning (path_after path (s - 1))
  pub fits : (k : ℕ) → k < s → FitsAt path.script (path_after path k)
  pub few : pages_among (written_of path.script s path.start) ≤ peak
  pub met : Meets path.boundary (path_after path s)
  pub taken : TakesAll path.boundary path.script (path_after path s)

-- outside the pages that the boundary names as changed it has the bytes of the start
abbrev pub IsNear : SnapshotState → Boundary → Type 0
IsNear start (At state position) = IsChangedWithin state.changed (all_bytes start.machine.space) state.machine.space
IsNear start End = Unit {0}

-- what is so of every job, whoever made it
pub record IsJob (job : JobFields) : Type 0 where
  pub position : job.position ≤ 2 ^ 40
  pub lasts : (s : ℕ) × Lasts (path_of job) job.peak s
  pub near : IsNear job.start job.end
