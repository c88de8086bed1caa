-- The pieces that were merged, and how far the run came.
use Rattle.std.specs.Prelude.{◌≡◌, ℕ, ◌+◌, ◌*◌, ◌^◌, ◌<◌, ◌≤◌, List, [], ◌∷◌, ◌++◌, length, map, take, Option, None, Some, Result, Ok, Err}
use Rattle.std.specs.List.{AllZip}
use mathlib.Core.Option.{some}
use lib.ListN.{get_elem?}
use Rattle.sp_host.specs.Told.{Told}
use Rattle.guest_model.specs.Serial.{EndsAt, Position, TraceItem}
use Rattle.guest_model.specs.Serial as serial
use Rattle.insert_points.specs.Plan.{PlanFields}
use Rattle.insert_points.specs.declared.call.Event.{Event}
use Rattle.boundary_verify.specs.Lines.{IsLineOf}
use Rattle.boundary_verify.specs.Pieces.{IsPiece}
use Rattle.master_run.specs.Answers.{PacerState}
use Rattle.master_run.specs.Master.{HasRunTo, MasterState, Ready}
use Rattle.master_run.specs.Turn.{RunIsOver}
use Rattle.master_run.specs.declared.limits.Limits.{Limits}
use Rattle.ordered_merge.specs.declared.merger.SliceLine.{SliceLine}
use Rattle.rv_machine.specs.declared.step.End.{End}
use Rattle.slice_ring.specs.Ticket.{Tag}
use Rattle.sliced_run.specs.Sliced.{SlicedFail, joined_items, line_by}
use Rattle.sp_report.specs.Lines.{end_by}
use Rattle.syscall_layer.specs.declared.fault.RunFault.{RunFault}
use Rattle.tool_step.specs.Steps.{trace_events}
use Rattle.live_run.specs.Live.{IsWithin}
use Rattle.live_run.specs.Tags.{path_of_tag, reached_by}

-- the last cut, or b where there is none
abbrev pub last_cut : ℕ → List ℕ → ℕ
last_cut b [] = b
last_cut b (c ∷ cuts) = last_cut c cuts

-- where the run goes on, its master is ready at its last cut
abbrev pub IsReadyAt : Option End → MasterState → Type 0
IsReadyAt None m = (m.standing ≡ Ready) × (m.position ≡ last_cut 0 m.cuts)
IsReadyAt (Some end) m = Unit {0}

-- one more, where the run ended
abbrev pub and_one : Option End → ℕ → ℕ
and_one None n = n
and_one (Some end) n = n + 1

-- whatever the host is: the run is cut behind as many steps as there are cuts, or more, and is within its budget
pub record IsCutSoFar (limits : Limits) (ended : Option End) (m : MasterState) : Type 0 where
  pub ready : IsReadyAt ended m
  pub few : length m.cuts ≤ m.position
  pub within : and_one ended m.position ≤ limits.budget
  pub limits_are : m.limits ≡ limits

-- the run from p was made up to where its master stands, or ended there
abbrev pub IsRun : Told → Position → PacerState → Option End → MasterState → Told → PacerState → Type 0
IsRun t p first None m told now = HasRunTo t p first m told now
IsRun t p first (Some end) m told now = RunIsOver t p first (end_by end) m told now

-- how far a part of the run led, or why it led no further
abbrev pub RunGives : Told → Position → PacerState → ℕ → Result (Option End) RunFault → MasterState → Told → PacerState → Type 0
RunGives t p first budget (Ok ended) m told now = IsRun t p first ended m told now
RunGives t p first budget (Err fault) m told now = SlicedFail t (record { start = p; budget = budget }) fault told

-- each job but the first starts where the one before it ends, and none ends behind the run, whose last position is t
abbrev pub IsChain : ℕ → List Tag → Type 0
IsChain t tags = (n : ℕ) (tag : Tag) → get_elem? tags n ≡ some tag → (tag.0 ≡ reached_by t 0 (take n tags)) × IsWithin t tag.0 tag.1

module _ {L S : Type 0} (stands : List Event → L → Type 0) (is_value : List Event → S → Type 0) (plan : PlanFields) where
  -- the state stands for the pieces of the jobs with these tags, in the run from p whose last position is t, and the lines are theirs
  pub record HasMerged (p : Position) (t : ℕ) (tags : List Tag) (shared : S) (lines : List SliceLine) : Type 0 where
    pub pieces : List (List TraceItem)
    pub are_pieces : AllZip (λ items tag. IsPiece (path_of_tag p t tag) items) pieces tags
    pub are_lines : AllZip (λ line tag. IsLineOf (path_of_tag p t tag) line) (map line_by lines) tags
    pub value : is_value (trace_events plan (joined_items pieces)) shared
    pub few : length (trace_events plan (joined_items pieces)) ≤ 24 * reached_by t 0 tags

  -- the piece of the job with this tag was merged behind those of the jobs before it
  abbrev pub MergesNext : Position → Tag → S → List SliceLine → S → List SliceLine → Type 0
  MergesNext p tag old before new lines = (t : ℕ) (end : serial.End) (tags : List Tag) → EndsAt p t end → t < 2 ^ 40 → tag.0 ≡ reached_by t 0 tags → IsWithin t tag.0 tag.1
      → HasMerged p t tags old before → HasMerged p t (tags ++ tag ∷ []) new lines

  -- of the jobs with these tags the first m were merged, and now the first n are
  abbrev pub MergesMore : Position → List Tag → ℕ → S → List SliceLine → ℕ → S → List SliceLine → Type 0
  MergesMore p tags m old before n new lines = (t : ℕ) (end : serial.End) → EndsAt p t end → t < 2 ^ 40 → IsChain t tags → HasMerged p t (take m tags) old before → HasMerged p t (take n tags) new lines

  -- the pieces of these jobs were merged, if the run ends within so many steps
  abbrev pub HasMergedIf : ℕ → Position → List Tag → S → List SliceLine → Type 0
  HasMergedIf budget p tags shared lines = (t : ℕ) (end : serial.End) → EndsAt p t end → t < budget → HasMerged p t tags shared lines

  -- all jobs of a run that ended were merged; or why it did not come to its end
  abbrev pub DriveGives : Told → Position → PacerState → ℕ → Result End RunFault → MasterState → List Tag → S → List SliceLine → Told → PacerState → Type 0
  DriveGives t p first budget (Ok end) m tags shared lines told now = IsRun t p first (Some end) m told now × HasMergedIf budget p tags shared lines
  DriveGives t p first budget (Err fault) m tags shared lines told now = SlicedFail t (record { start = p; budget = budget }) fault told
