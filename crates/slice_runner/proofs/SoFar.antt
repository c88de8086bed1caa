-- Where a slice stands after so many steps.
use Rattle.std.proofs.Common.{◌≡◌, ℕ, ◌+◌, ◌*◌, ◌^◌, ◌<◌, ◌≤◌, List, length}
use Rattle.cow_pages.specs.Marks.{unmarked}
use Rattle.guest_model.specs.Play.{spot, written_of}
use Rattle.guest_model.specs.Range.{pages_among}
use Rattle.guest_model.specs.Runs.{Running}
use Rattle.guest_model.specs.Tests.{HitCounts}
use Rattle.guest_mem.specs.Frames.{marked_for_all}
use Rattle.guest_mem.specs.Memory.{all_bytes}
use Rattle.insert_points.specs.Plan.{PlanFields}
use Rattle.insert_points.specs.declared.call.Event.{Event}
use Rattle.rv_machine.specs.Guest.{GuestState}
use Rattle.tool_step.specs.Steps.{trace_events}
use Rattle.boundary_verify.specs.Job.{FitsAt, JobFields, path_of, script_of_job}
use Rattle.boundary_verify.specs.Path.{AreHitsOf, Meets, Path, path_after, path_trace}

-- none of the first k steps meets the boundary
abbrev pub IsUnmatched : Path → ℕ → Type 0
IsUnmatched path k = (j : ℕ) → 1 ≤ j → j ≤ k → Meets path.boundary (path_after path j) → ⊥

-- no test was passed more often than so
pub record AreFew (hits : HitCounts) (steps : ℕ) : Type 0 where
  pub quick : hits.quick ≤ steps
  pub registers : hits.registers ≤ steps
  pub stack : hits.stack ≤ steps
  pub whole : hits.whole ≤ steps

-- what the local heard
pub record Heard {L : Type 0} (stands : List Event → L → Type 0) (plan : PlanFields) (path : Path) (steps : ℕ) (local : L) : Type 0 where
  pub local_is : stands (trace_events plan (path_trace path steps)) local
  pub few : length (trace_events plan (path_trace path steps)) ≤ 24 * steps

-- the guest, which began with so many frames, made so many steps, none of which met the boundary
pub record Played (job : JobFields) (frames steps : ℕ) (guest : GuestState) (calls : ℕ) : Type 0 where
  pub there : path_after (path_of job) steps ≡ Running (spot guest.machine calls)
  pub items : length (path_trace (path_of job) steps) ≡ steps
  pub unmatched : IsUnmatched (path_of job) steps
  pub after : job.position ≤ calls
  pub within : calls ≤ job.position + steps
  pub written : guest.frames.written ≡ marked_for_all (unmarked (2 ^ 20)) (written_of (path_of job).script steps (path_of job).start)
  pub count : guest.frames.count ≡ frames
  pub origin : guest.origin ≡ all_bytes job.start.machine.space

-- a play that is tried: each record that it took fits, and it wrote at most as many pages as the job may
pub record Tried (job : JobFields) (frames steps : ℕ) (guest : GuestState) (calls : ℕ) : Type 0 where
  pub played : Played job frames steps guest calls
  pub fits : (j : ℕ) → j < steps → FitsAt (script_of_job job) (path_after (path_of job) j)
  pub few : pages_among (written_of (script_of_job job) steps (path_of job).start) ≤ job.peak

pub record Tested (job : JobFields) (steps : ℕ) (hits : HitCounts) : Type 0 where
  pub counted : AreHitsOf (path_of job) steps hits
  pub few : AreFew hits steps
