-- What a master holds.
use Rattle.std.specs.Prelude.{◌≡◌, ℕ, ◌≤◌, List, [], length}
use Rattle.guest_mem.specs.Memory.{all_bytes, free_frames}
use Rattle.rv_machine.specs.Snapshot.{SnapshotState}
use Rattle.syscall_layer.specs.Step.{IsOfGuest}
use Rattle.master_run.specs.Master.{MasterState, Standing}
use Rattle.master_run.specs.Master as seen
use Rattle.master_run.specs.Progress.{IsOpen}
use Rattle.master_run.specs.declared.limits.Limits.{Limits}
use Rattle.master_run.specs.declared.master.Stage.{Stage}
use Rattle.master_run.specs.declared.master.Stage.TheVariants.{Ready, Over, Refused}
use Rattle.master_run.specs.declared.progress.Progress.{Progress}

abbrev pub standing_of : Stage → Standing
standing_of (Ready start) = seen.Ready
standing_of Over = seen.Over
standing_of (Refused fault) = seen.Refused fault

-- the guest stands at the snapshot from which the next job starts, with all its frames free and no call recorded
pub record IsAtStart (limits : Limits) (l : Progress) (start : SnapshotState) : Type 0 where
  pub machine : start.machine ≡ l.guest.machine
  pub origin : l.guest.origin ≡ all_bytes start.machine.space
  pub frames : l.guest.frames ≡ free_frames limits.frames
  pub log : l.log ≡ []
  pub goes : IsOpen limits l

abbrev pub IsMaster : Limits → Progress → List ℕ → Stage → Type 0
IsMaster limits l cuts (Ready start) = IsAtStart limits l start × (length cuts ≤ l.position)
IsMaster limits l cuts Over = Unit {0}
IsMaster limits l cuts (Refused fault) = IsOfGuest fault

-- what callers see of it
abbrev pub seen_of : Limits → Progress → List ℕ → Stage → MasterState
seen_of limits l cuts stage = record {
  machine = l.guest.machine;
  position = l.position;
  calls = l.calls;
  cuts = cuts;
  limits = limits;
  standing = standing_of stage;
}
