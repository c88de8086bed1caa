-- What a live run gives at its end, for the machine, the limits and the pacer that it was launched with.
use Rattle.std.proofs.Common.{◌≡◌, ℕ, ◌^◌, ◌<◌, List, sym, subst}
use Rattle.std.specs.Prelude.{Some}
use Rattle.sp_host.specs.Told.{Told}
use Rattle.guest_model.specs.Call.{World}
use Rattle.guest_model.specs.Machine.{Machine}
use Rattle.ins_views.specs.Views.{ViewFields}
use Rattle.insert_points.specs.Plan.{PlanFields, called_at}
use Rattle.insert_points.specs.declared.call.Call.{Call}
use Rattle.insert_points.specs.declared.call.Event.{Event}
use Rattle.insert_points.specs.declared.call.Thing.{Thing}
use Rattle.master_run.specs.Answers.{PacerState}
use Rattle.master_run.specs.Master.{MasterState}
use Rattle.master_run.specs.declared.limits.Limits.{Limits}
use Rattle.ordered_merge.specs.declared.finished.Finished.{Finished}
use Rattle.ordered_merge.specs.declared.merger.SliceLine.{SliceLine}
use Rattle.rv_machine.specs.declared.step.End.{End}
use Rattle.serial_run.specs.Start.{start_of}
use Rattle.slice_ring.specs.Ticket.{Tag}
use Rattle.sliced_run.specs.Sliced.{SlicedEnd, SlicedFail}
use Rattle.syscall_layer.specs.declared.fault.RunFault.TheVariants as faults
use Rattle.tool_law.specs.Events as tools
use Rattle.tool_law.specs.Planning.{called_of}
use Rattle.live_run.specs.Merged.{HasMergedIf, IsCutSoFar, IsRun}
use Rattle.live_run.specs.Tags.{tags_from}
use Rattle.live_run.proofs.Driving.{lacks_here}
use Rattle.live_run.proofs.Ending.{live_ends}

module _ (t : Told) (w : World) (m machine : Machine) (first shown : PacerState) (limits kept : Limits) (master : MasterState) (end : End) (told : Told) (now : PacerState) where
  pub crew_lacks : m ≡ machine → kept ≡ limits → IsCutSoFar kept (Some end) master → IsRun t (start_of m w) first (Some end) master told now → SlicedFail t (record { start = start_of machine w; budget = limits.budget }) faults.NoMemory told
  crew_lacks machines limits_are cut run =
      subst (λ (l : Limits). SlicedFail t (record { start = start_of machine w; budget = l.budget }) faults.NoMemory told) limits_are
      (subst (λ (k : Machine). SlicedFail t (record { start = start_of k w; budget = kept.budget }) faults.NoMemory told) machines (lacks_here t (start_of m w) first (Some end) master told now kept.budget run cut.within))

  module _ {T L S : Type 0} (plan : PlanFields) (calls : Thing → List Call) (views : ViewFields) (stands : List Event → L → Type 0) (is_value : List Event → S → Type 0) (tags : List Tag) (shared : S) (lines : List SliceLine) (f : Finished T L S) where
    pub crew_ends : ((a : ℕ) → a < 2 ^ 32 → called_at plan a ≡ called_of calls views a) → machine.pc < 2 ^ 32 → m ≡ machine → first ≡ shown → kept ≡ limits → IsCutSoFar kept (Some end) master → tags ≡ tags_from 0 master.cuts (Some end) → f.end ≡ end → f.cuts.items ≡ master.cuts
        → f.shared ≡ shared → f.lines.items ≡ lines → IsRun t (start_of m w) first (Some end) master told now → HasMergedIf stands is_value plan kept.budget (start_of m w) tags shared lines
        → SlicedEnd (λ items s. is_value (tools.trace_events calls views items) s) t limits (record { start = start_of machine w; budget = limits.budget }) shown f told now
    crew_ends same fits machines shows_are limits_are cut tags_are end_is cuts_are shared_is lines_are run merged =
        let fits_here : m.pc < 2 ^ 32 = subst (λ (k : Machine). k.pc < 2 ^ 32) (sym machines) fits in
        let here = live_ends plan calls views stands is_value same t (start_of m w) first kept master end tags shared lines f told now fits_here cut tags_are end_is cuts_are shared_is lines_are run merged in
        subst (λ (l : Limits). SlicedEnd (λ items s. is_value (tools.trace_events calls views items) s) t l (record { start = start_of machine w; budget = l.budget }) shown f told now) limits_are
        (subst (λ (k : Machine). SlicedEnd (λ items s. is_value (tools.trace_events calls views items) s) t kept (record { start = start_of k w; budget = kept.budget }) shown f told now) machines
        (subst (λ (k : PacerState). SlicedEnd (λ items s. is_value (tools.trace_events calls views items) s) t kept (record { start = start_of m w; budget = kept.budget }) k f told now) shows_are here))
