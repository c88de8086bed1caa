-- A run that came to its end, all of whose jobs were merged.
use Rattle.std.proofs.Common.{◌≡◌, ℕ, ◌^◌, ◌<◌, List, map, sym, subst, arith}
use Rattle.std.specs.Prelude.{Some}
use Rattle.std.specs.List.{AllZip}
use Rattle.sp_host.specs.Told.{Told}
use Rattle.guest_model.specs.Serial.{Position}
use Rattle.ins_views.specs.Views.{ViewFields}
use Rattle.insert_points.specs.Plan.{PlanFields, called_at}
use Rattle.insert_points.specs.declared.call.Call.{Call}
use Rattle.insert_points.specs.declared.call.Event.{Event}
use Rattle.insert_points.specs.declared.call.Thing.{Thing}
use Rattle.boundary_verify.specs.Cuts.{AreBetween}
use Rattle.boundary_verify.specs.Lines.{IsLineOf}
use Rattle.boundary_verify.specs.Pieces.{IsPiece}
use Rattle.boundary_verify.proofs.Cuts.{cuts_rise}
use Rattle.master_run.specs.Answers.{PacerState}
use Rattle.master_run.specs.Master.{MasterState, limits_of}
use Rattle.master_run.specs.declared.limits.Limits.{Limits}
use Rattle.master_run.specs.Turn.{RunIsOver}
use Rattle.ordered_merge.specs.declared.merger.SliceLine.{SliceLine}
use Rattle.rv_machine.specs.declared.step.End.{End}
use Rattle.ordered_merge.specs.declared.finished.Finished.{Finished}
use Rattle.slice_ring.specs.Ticket.{Tag}
use Rattle.sliced_run.specs.Sliced.{SlicedEnd, line_by}
use Rattle.sliced_run.proofs.Ending.{run_ends}
use Rattle.sp_report.specs.Lines.{end_by}
use Rattle.tool_law.specs.Events as tools
use Rattle.tool_law.specs.Planning.{called_of}
use Rattle.live_run.specs.Merged.{HasMergedIf, IsCutSoFar, IsRun}
use Rattle.live_run.specs.Tags.{path_of_tag, tags_from}
use Rattle.live_run.proofs.Tags.{holds_for_paths}

module _ {T L S : Type 0} (plan : PlanFields) (calls : Thing → List Call) (views : ViewFields) (stands : List Event → L → Type 0) (is_value : List Event → S → Type 0) where
  pub live_ends : ((a : ℕ) → a < 2 ^ 32 → called_at plan a ≡ called_of calls views a) → (t : Told) (p : Position) (first : PacerState) (limits : Limits) (m : MasterState) (end : End) (tags : List Tag) (shared : S) (lines : List SliceLine) (f : Finished T L S) (told : Told) (now : PacerState)
      → p.machine.pc < 2 ^ 32 → IsCutSoFar limits (Some end) m → tags ≡ tags_from 0 m.cuts (Some end) → f.end ≡ end → f.cuts.items ≡ m.cuts → f.shared ≡ shared → f.lines.items ≡ lines → IsRun t p first (Some end) m told now
      → HasMergedIf stands is_value plan limits.budget p tags shared lines
      → SlicedEnd (λ items s. is_value (tools.trace_events calls views items) s) t limits (record { start = p; budget = limits.budget }) first f told now
  live_ends same t p first limits m end tags shared lines f told now fits cut tags_are end_is cuts_are shared_is lines_are run all_merged =
      let over : RunIsOver t p first (end_by f.end) m told now = subst (λ (e : End). RunIsOver t p first (end_by e) m told now) (sym end_is) run in
      let merged : HasMergedIf stands is_value plan limits.budget p tags f.shared f.lines.items =
      subst (λ (u : S). HasMergedIf stands is_value plan limits.budget p tags u f.lines.items) (sym shared_is) (subst (λ (ls : List SliceLine). HasMergedIf stands is_value plan limits.budget p tags shared ls) (sym lines_are) all_merged) in
      let order : AreBetween m.position 0 m.cuts = cuts_rise (limits_of m.limits) over.all.answers p m.position 0 m.cuts over.all.cuts in
      let within : m.position < limits.budget = omega (arith, cut.within) in
      let all = merged m.position (end_by f.end) over.ends within in
      let pieces = holds_for_paths IsPiece p m.position 0 m.cuts end all.pieces order (subst (λ (ts : List Tag). AllZip (λ items tag. IsPiece (path_of_tag p m.position tag) items) all.pieces ts) tags_are all.are_pieces) in
      let lines = holds_for_paths IsLineOf p m.position 0 m.cuts end (map line_by f.lines.items) order
      (subst (λ (ts : List Tag). AllZip (λ line tag. IsLineOf (path_of_tag p m.position tag) line) (map line_by f.lines.items) ts) tags_are all.are_lines) in
      run_ends plan calls views is_value same t p first limits m f told now all.pieces fits cut.limits_are within cuts_are all.value pieces lines over
