-- A run that came to its end: its value, its cuts and its lines.
use Rattle.std.proofs.Common.{◌≡◌, ℕ, ◌+◌, ◌-◌, ◌/◌, ◌^◌, ◌<◌, Bool, List, map, sym, ap, subst, ◌∙◌, arith}
use Rattle.sp_host.specs.Told.{Told}
use Rattle.guest_model.specs.Runs.{Running}
use Rattle.guest_model.specs.Serial.{Position, TraceItem, item_at, position_at, step_of, trace_of}
use Rattle.guest_model.specs.Serial as serial
use Rattle.guest_model.proofs.Runs.{along_stays}
use Rattle.ins_views.specs.Views.{ViewFields}
use Rattle.insert_points.specs.Plan.{PlanFields, called_at}
use Rattle.insert_points.specs.declared.call.Call.{Call}
use Rattle.insert_points.specs.declared.call.Event.{Event}
use Rattle.insert_points.specs.declared.call.Thing.{Thing}
use Rattle.boundary_verify.specs.Cuts.{AreBetween, AreCuts}
use Rattle.boundary_verify.specs.Lines.{AreLines, AreLinesOfPaths}
use Rattle.boundary_verify.specs.Pieces.{ArePieces}
use Rattle.boundary_verify.proofs.Cuts.{cuts_rise}
use Rattle.boundary_verify.proofs.Joins.{joined}
use Rattle.boundary_verify.proofs.Lines.{lines_are}
use Rattle.master_run.specs.Answers.{HasAnswered, PacerState}
use Rattle.master_run.specs.Master.{MasterState, limits_of}
use Rattle.master_run.specs.Turn.{RunIsOver}
use Rattle.master_run.specs.declared.limits.Limits.{Limits}
use Rattle.ordered_merge.specs.declared.finished.Finished.{Finished}
use Rattle.serial_run.proofs.Events.{events_of_tool}
use Rattle.sp_report.specs.Lines.{end_by}
use Rattle.tool_law.specs.Events as tools
use Rattle.tool_law.specs.Planning.{called_of}
use Rattle.tool_step.specs.Steps.{trace_events}
use Rattle.sliced_run.specs.Sliced.{SlicedEnd, joined_items, line_by}
use Rattle.sliced_run.proofs.Addresses.{trace_in_range}
use Rattle.sliced_run.proofs.Faults.{ends_within}

-- the trace of a run that ended
whole_trace : (p : Position) (t : ℕ) (end : serial.End) (budget : ℕ) → serial.EndsAt p t end → t < budget → trace_of budget p ≡ trace_of (t + 1) p
whole_trace p t end budget h within =
    let whole : t + 1 + (budget - (t + 1)) ≡ budget = omega (arith, within) in
    ap (λ (n : ℕ). trace_of n p) (sym whole) ∙ along_stays step_of item_at (t + 1) (budget - (t + 1)) (Running p) (position_at t p) end h.over

module _ {T L S : Type 0} (plan : PlanFields) (calls : Thing → List Call) (views : ViewFields) (is_value : List Event → S → Type 0) where
  -- all pieces of the run were merged
  pub run_ends : ((a : ℕ) → a < 2 ^ 32 → called_at plan a ≡ called_of calls views a) → (t : Told) (p : Position) (first : PacerState) (limits : Limits) (m : MasterState) (f : Finished T L S) (told : Told) (now : PacerState) (pieces : List (List TraceItem))
      → p.machine.pc < 2 ^ 32 → m.limits ≡ limits → m.position < limits.budget → f.cuts.items ≡ m.cuts → is_value (trace_events plan (joined_items pieces)) f.shared → ArePieces p m.position 0 m.cuts pieces
      → AreLinesOfPaths p m.position 0 m.cuts (map line_by f.lines.items) → RunIsOver t p first (end_by f.end) m told now
      → SlicedEnd (λ items s. is_value (tools.trace_events calls views items) s) t limits (record { start = p; budget = limits.budget }) first f told now
  run_ends same t p first limits m f told now pieces fits limits_are within cuts_are value are_pieces are_lines over =
      let answers : ℕ → Bool = over.all.answers in
      let cuts : AreCuts (limits_of limits) answers p m.position m.cuts = subst (λ (l : Limits). AreCuts (limits_of l) answers p m.position m.cuts) limits_are over.all.cuts in
      let order : AreBetween m.position 0 m.cuts = cuts_rise (limits_of limits) answers p m.position 0 m.cuts cuts in
      let trace : joined_items pieces ≡ trace_of limits.budget p = joined p m.position (end_by f.end) m.cuts pieces over.ends order are_pieces ∙ sym (whole_trace p m.position (end_by f.end) limits.budget over.ends within) in
      let events = ap (trace_events plan) trace ∙ events_of_tool calls views plan (trace_of limits.budget p) same (trace_in_range p fits limits.budget) in
      record {
        last = position_at m.position p;
        ends = ends_within t p first (end_by f.end) m told now limits.budget over within;
        value = subst (λ (es : List Event). is_value es f.shared) events value;
        steps = m.position;
        within = within;
        by_step = over.ends;
        answers = answers;
        answered = subst (λ (l : Limits). HasAnswered answers (m.position / l.poll) first now) limits_are over.all.answered;
        cuts = subst (λ (cs : List ℕ). AreCuts (limits_of limits) answers p m.position cs) (sym cuts_are) cuts;
        lines = subst (λ (cs : List ℕ). AreLines p m.position 0 cs (map line_by f.lines.items)) (sym cuts_are) (lines_are p m.position (end_by f.end) 0 m.cuts (map line_by f.lines.items) over.ends order are_lines);
      }
