-- The one piece of a run that was not cut.
use Rattle.std.proofs.Common.{◌≡◌, ℕ, ◌+◌, ◌<◌, ◌≤◌, ◌^◌, List, [], ◌∷◌, ◌++◌, length, ap, subst, ◌∙◌, arith}
use Rattle.sp_host.specs.Told.{Told}
use Rattle.guest_model.specs.Serial.{Position, TraceItem, trace_of}
use Rattle.ins_views.specs.Views.{ViewFields}
use Rattle.insert_points.specs.Plan.{PlanFields, called_at}
use Rattle.insert_points.specs.declared.call.Call.{Call}
use Rattle.insert_points.specs.declared.call.Event.{Event}
use Rattle.insert_points.specs.declared.call.Thing.{Thing}
use Rattle.ordered_merge.specs.declared.merger.SliceLine.{SliceLine}
use Rattle.tool_law.specs.Events as tools
use Rattle.tool_law.specs.Law.{KeepsMeaning, Merges}
use Rattle.tool_law.specs.Planning.{called_of}
use Rattle.tool_step.specs.Steps.{trace_events}
use Rattle.serial_run.specs.Run.{Counted, whole_line}
use Rattle.serial_run.specs.Start.{Run}
use Rattle.serial_run.specs.declared.run.Finish.{Finish}
use Rattle.serial_run.proofs.Events.{events_of_tool}

-- the line of what was counted
abbrev pub line_by : Finish → SliceLine
line_by f = record { steps = f.steps; calls = f.calls; hits = record { quick = 0; registers = 0; stack = 0; whole = 0 } }

line_is : (f : Finish) (items : List TraceItem) (last : Position) → f.steps ≡ length items → f.calls ≡ last.calls → line_by f ≡ whole_line items last
line_is f items last steps calls =
    ap (λ (n : ℕ). record { steps = n; calls = f.calls; hits = record { quick = 0; registers = 0; stack = 0; whole = 0 } }) steps
    ∙ ap (λ (n : ℕ). record { steps = length items; calls = n; hits = record { quick = 0; registers = 0; stack = 0; whole = 0 } }) calls

pub lines_are : (f : Finish) (items : List TraceItem) (last : Position) (before lines : List SliceLine) (line : SliceLine) → f.steps ≡ length items → f.calls ≡ last.calls
    → before ≡ [] → lines ≡ before ++ line ∷ [] → line ≡ line_by f → lines ≡ whole_line items last ∷ []
lines_are f items last before lines line steps calls none more is =
    more ∙ (ap (λ (xs : List SliceLine). xs ++ line ∷ []) none ∙ ap (λ (x : SliceLine). x ∷ []) (is ∙ line_is f items last steps calls))

module _ {L S : Type 0} (plan : PlanFields) (calls : Thing → List Call) (views : ViewFields) (stands : List Event → L → Type 0) (is_value : List Event → S → Type 0) where
  -- the state that took the local of all events
  pub value_is : ((a : ℕ) → a < 2 ^ 32 → called_at plan a ≡ called_of calls views a) → (t now : Told) (r : Run) (f : Finish) (local kept : L) (first last : S) → r.budget ≤ 2 ^ 40
      → Counted plan stands t r f local now → KeepsMeaning stands local kept → is_value [] first → Merges stands is_value first kept last
      → is_value (tools.trace_events calls views (trace_of r.budget r.start)) last
  value_is same t now r f local kept first last few counted keeps empty merges =
      let events = trace_events plan (trace_of r.budget r.start) in
      let room : 0 + length events < 2 ^ 50 = omega (arith, counted.few, few) in
      subst (λ (es : List Event). is_value es last) (events_of_tool calls views plan (trace_of r.budget r.start) same counted.in_range)
      (merges [] events room empty (keeps events counted.local_is))
