-- The lead's part of a live run: what it is given, and what it leaves.
use Rattle.std.specs.Prelude.{◌≡◌, ℕ, Bool, false, List, [], None, Some, Result, IfErr, IfOk}
use Rattle.sp_host.specs.Faults.{CausedIn, Faults}
use Rattle.sp_host.specs.Told.{Told}
use Rattle.insert_points.specs.Plan.{PlanFields}
use Rattle.insert_points.specs.declared.call.Event.{Event}
use Rattle.master_run.specs.Answers.{PacerState}
use Rattle.master_run.specs.Master.{MasterState, start_at}
use Rattle.master_run.specs.declared.limits.Limits.{Limits}
use Rattle.ordered_merge.specs.declared.merger.SliceLine.{SliceLine}
use Rattle.rv_machine.specs.declared.step.End.{End}
use Rattle.slice_ring.specs.Seats.{IsFresh, IsIdle, IsOf, IsOver, RingId, SeatView}
use Rattle.syscall_layer.specs.Step.{IsOfGuest, run_source_of}
use Rattle.syscall_layer.specs.declared.fault.RunFault.{RunFault}
use Rattle.live_run.specs.Live.{RunStart, WhereStarted}
use Rattle.live_run.specs.Merged.{DriveGives, IsCutSoFar, IsRun}
use Rattle.live_run.specs.Tags.{tags_from}

module _ {X S : Type 0} (is_value : List Event → S → Type 0) (ring : RingId (RunStart X)) (run : RunStart X) where
  -- a fresh ring about this run, of which no step was made, and no piece was merged
  pub record CanLead (tool : X) (plan : PlanFields) (first : PacerState) (master : MasterState) (shared : S) (lines : List SliceLine) (refused : Bool) (lead mine : SeatView (RunStart X)) (told : Told) (now : PacerState) : Type 0 where
    pub seat : IsOf ring lead × IsFresh lead × IsIdle ring mine
    pub topic : ring.topic ≡ run
    pub tool_is : run.tool ≡ tool
    pub plan_is : run.plan ≡ plan
    pub start : master ≡ start_at run.machine master.limits
    pub merger : (lines ≡ []) × (refused ≡ false) × is_value [] shared
    pub begun : WhereStarted run.told run.machine (λ t p. IsRun t p first None master told now)

  -- the ring is over, and all jobs of a run that ended were published and merged; the lead took back as many seats as before
  pub record HasLed {L : Type 0} (stands : List Event → L → Type 0) (plan : PlanFields) (first : PacerState) (limits : Limits) (result : Result End RunFault) (master : MasterState) (shared : S) (lines : List SliceLine) (refused : Bool) (retired : ℕ) (lead mine : SeatView (RunStart X))
      (before after : Faults) (told : Told) (shown now : PacerState) : Type 0 where
    pub seat : IsOf ring lead × IsOver lead × IsIdle ring mine
    pub none_retired : lead.view.retired ≡ retired
    pub cut : IfOk result (λ end. IsCutSoFar limits (Some end) master)
    pub tags : IfOk result (λ end. lead.view.lead.tags ≡ tags_from 0 master.cuts (Some end))
    pub sound : IfOk result (λ end. refused ≡ false)
    pub faults : CausedIn run_source_of before after result
    pub port : IfErr result IsOfGuest
    pub period : now.period ≡ shown.period
    pub gives : WhereStarted run.told run.machine (λ t p. DriveGives stands is_value plan t p first limits.budget result master lead.view.lead.tags shared lines told now)
