-- A run that came to its end: its value, its cuts and its lines.
use Rattle.std.proofs.Common.{◌≡◌, ℕ, ◌+◌, ◌^◌, ◌<◌, ◌≤◌, List, ◌++◌, length, map, sym, ap, subst, ◌∙◌, arith}
use Rattle.std.specs.Prelude.{Option, Some}
use Rattle.sp_host.specs.Told.{Told}
use Rattle.guest_model.specs.Serial.{Position}
use Rattle.ins_views.specs.Views.{ViewFields}
use Rattle.insert_points.specs.Plan.{PlanFields, called_at}
use Rattle.insert_points.specs.declared.call.Call.{Call}
use Rattle.insert_points.specs.declared.call.Event.{Event}
use Rattle.insert_points.specs.declared.call.Thing.{Thing}
use Rattle.boundary_verify.specs.Job.{JobFields}
use Rattle.boundary_verify.specs.Lines.{IsLineOf}
use Rattle.boundary_verify.specs.Pieces.{IsPiece}
use Rattle.master_run.specs.Answers.{PacerState}
use Rattle.master_run.specs.Master.{MasterState}
use Rattle.master_run.specs.declared.limits.Limits.{Limits}
use Rattle.ordered_merge.specs.declared.finished.Finished.{Finished}
use Rattle.ordered_merge.specs.declared.merger.SliceLine.{SliceLine}
use Rattle.rv_machine.specs.declared.step.End.{End}
use Rattle.tool_law.specs.Events as tools
use Rattle.tool_law.specs.Planning.{called_of}
use Rattle.sliced_run.specs.Sliced.{SlicedEnd, line_by}
use Rattle.sliced_run.proofs.Ending.{run_ends}
use Rattle.window_run.specs.Jobs.{AreJobs, HasMerged, IsRun, MergesJobs, and_one}
use Rattle.window_run.proofs.Going.{IsGoing}
use Rattle.window_run.proofs.Lists.{paths_hold}

module _ {T L S : Type 0} (plan : PlanFields) (calls : Thing → List Call) (views : ViewFields) (stands : List Event → L → Type 0) (is_value : List Event → S → Type 0) where
  -- all pieces were merged
  pub jobs_end : ((a : ℕ) → a < 2 ^ 32 → called_at plan a ≡ called_of calls views a) → (t : Told) (p : Position) (first : PacerState) (limits : Limits) (m : MasterState) (all : List JobFields) (f : Finished T L S) (told : Told) (now : PacerState)
      → p.machine.pc < 2 ^ 32 → m.limits ≡ limits → m.position < limits.budget → f.cuts.items ≡ m.cuts → HasMerged stands is_value plan all (m.position + 1) f.shared f.lines.items → IsRun t p first all (Some f.end) m told now
      → SlicedEnd (λ items s. is_value (tools.trace_events calls views items) s) t limits (record { start = p; budget = limits.budget }) first f told now
  jobs_end same t p first limits m all f told now fits limits_are within cuts_are merged run =
      run_ends plan calls views is_value same t p first limits m f told now merged.pieces fits limits_are within cuts_are merged.value (paths_hold IsPiece p m.position 0 m.cuts all merged.pieces run.1 merged.are_pieces)
      (paths_hold IsLineOf p m.position 0 m.cuts all (map line_by f.lines.items) run.1 merged.are_lines) run.0

  -- the last window's pieces were merged
  pub all_ends : ((a : ℕ) → a < 2 ^ 32 → called_at plan a ≡ called_of calls views a) → (t : Told) (p : Position) (first : PacerState) (limits : Limits) (m : MasterState) (shared : S) (lines : List SliceLine) (jobs : List JobFields) (last : Option End) (end : End)
      (f : Finished T L S) (told : Told) (now : PacerState) (h : IsGoing stands is_value plan limits shared lines jobs last m) → p.machine.pc < 2 ^ 32 → last ≡ Some end → f.end ≡ end → f.cuts.items ≡ m.cuts
      → ((n : ℕ) → n ≤ 2 ^ 40 → MergesJobs stands is_value plan jobs n shared lines f.shared f.lines.items) → IsRun t p first (h.done ++ jobs) last m told now
      → SlicedEnd (λ items s. is_value (tools.trace_events calls views items) s) t limits (record { start = p; budget = limits.budget }) first f told now
  all_ends same t p first limits m shared lines jobs last end f told now h fits is end_is cuts_are merges run =
      let position : and_one last m.position ≡ m.position + 1 = ap (λ (o : Option End). and_one o m.position) is in
      let within : m.position < limits.budget = omega (arith, h.within, position) in
      let room : m.position + 1 ≤ 2 ^ 40 = omega (arith, within, limits.budget_range.1) in
      let merged = (merges (m.position + 1) room).merged h.done h.e (subst (λ (n : ℕ). AreJobs (length lines) h.e jobs n) position h.waiting) h.merged in
      jobs_end same t p first limits m (h.done ++ jobs) f told now fits h.limits_are within cuts_are merged (subst (λ (o : Option End). IsRun t p first (h.done ++ jobs) o m told now) (is ∙ ap Some (sym end_is)) run)
