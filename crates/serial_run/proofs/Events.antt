-- The events of a run's steps, by a plan, and by the tool whose plan it is.
use Rattle.std.proofs.Common.{◌≡◌, ℕ, ◌+◌, ◌*◌, ◌<◌, ◌≤◌, ◌^◌, List, [], ◌∷◌, ◌++◌, length, refl, sym, ap, subst, ◌∙◌, arith, length-append}
use Rattle.std.specs.Prelude.{Bool, Option, None, Some, Result, Ok, Err, IfOk, is_some, if◌then◌else◌}
use Rattle.std.specs.List.{All}
use Rattle.std.proofs.lemmas.List.{append-nil}
use Rattle.std.proofs.lemmas.List.Elements.{All-append, All-cons, All-head, All-nil, All-tail}
use Rattle.std.proofs.lemmas.Grind.{flat_map-append}
use Rattle.rv_isa.specs.Table.{Fields}
use Rattle.guest_model.specs.Machine.{Machine, instruction_at}
use Rattle.guest_model.specs.Serial.{TraceItem, item_of, item_with}
use Rattle.ins_views.specs.Views.{ViewFields}
use Rattle.insert_points.specs.Events.{Called, events_of}
use Rattle.insert_points.specs.Plan.{PlanFields, called_at}
use Rattle.insert_points.specs.declared.call.Call.{Call}
use Rattle.insert_points.specs.declared.call.Event.{Event}
use Rattle.insert_points.specs.declared.call.Thing.{Thing}
use Rattle.syscall_layer.specs.declared.fault.RunFault.{RunFault}
use Rattle.tool_law.specs.Events as tools
use Rattle.tool_law.specs.Planning.{called_of}
use Rattle.tool_step.specs.Steps.{TakesEvents, item_events, step_events, trace_events}
use Rattle.tool_step.proofs.Parts.{all_is}
use Rattle.tool_step.proofs.Taking.{takes_as, takes_join}
use Rattle.serial_run.specs.Steps.{completion_by, events_left}
use Rattle.serial_run.specs.declared.step.Turn.{Turn}
use Rattle.serial_run.specs.declared.step.Turn.TheVariants as turns

-- the events before a call, and those that are left then
call_events : (plan : PlanFields) (m after : Machine) (turn : Turn) → step_events plan m None ++ events_left plan m turn after ≡ step_events plan m (completion_by turn after)
call_events plan m after turns.Next = sym (all_is plan m after)
call_events plan m after turns.Went = sym (all_is plan m after)
call_events plan m after (turns.Over end) = append-nil (step_events plan m None)

-- an address that the plan knows
abbrev pub InRange : TraceItem → Type 0
InRange item = item.before.pc < 2 ^ 32

-- the events of the plan are those of its tool
pub events_of_tool : (calls : Thing → List Call) (views : ViewFields) (plan : PlanFields) (items : List TraceItem) → ((a : ℕ) → a < 2 ^ 32 → called_at plan a ≡ called_of calls views a)
    → All InRange items → trace_events plan items ≡ tools.trace_events calls views items
events_of_tool calls views plan [] same all = refl
events_of_tool calls views plan (item ∷ items) same all =
    ap (λ (called : Called). events_of called item ++ trace_events plan items) (same item.before.pc (All-head InRange item items all))
    ∙ ap (λ (es : List Event). events_of (called_of calls views item.before.pc) item ++ es) (events_of_tool calls views plan items same (All-tail InRange item items all))

-- an item of a machine at such an address
pub item_in_range : (m : Machine) (c : Option Machine) → m.pc < 2 ^ 32 → All InRange (item_of m c)
unfolding item_of
item_in_range m c fits = go (instruction_at m)
  where
    go : (i : Option Fields) → All InRange (item_with m c i)
    go None = All-nil InRange
    go (Some i) = All-cons InRange (record { before = m; instruction = i; completion = c }) [] fits (All-nil InRange)

-- how many items a step has
abbrev one_if : Bool → ℕ
one_if b = if b then 1 else 0

pub item_count : (m : Machine) (c : Option Machine) (has : Bool) → is_some (instruction_at m) ≡ has → length (item_of m c) ≡ (if has then 1 else 0)
unfolding item_of
item_count m c has is = go (instruction_at m) is
  where
    go : (i : Option Fields) → is_some i ≡ has → length (item_with m c i) ≡ (if has then 1 else 0)
    go None e = ap (λ (b : Bool). one_if b) e
    go (Some i) e = ap (λ (b : Bool). one_if b) e

module _ {L : Type 0} (plan : PlanFields) (stands : List Event → L → Type 0) where
  -- the events of a call that was tried, and then those that were left
  pub call_takes : (r : Result Turn RunFault) (m after : Machine) (old middle new : L) → TakesEvents stands (step_events plan m None) old middle
      → IfOk r (λ turn. TakesEvents stands (events_left plan m turn after) middle new) → IfOk r (λ turn. TakesEvents stands (step_events plan m (completion_by turn after)) old new)
  call_takes (Ok turn) m after old middle new early late =
      takes_as stands (step_events plan m None ++ events_left plan m turn after) (step_events plan m (completion_by turn after)) old new (call_events plan m after turn)
      (takes_join stands (step_events plan m None) (events_left plan m turn after) old middle new early late)
  call_takes (Err e) m after old middle new early late = tt

  -- the local stands for the events of these items
  pub record Heard (items : List TraceItem) (steps : ℕ) (local : L) : Type 0 where
    pub local_is : stands (trace_events plan items) local
    pub few : length (trace_events plan items) ≤ 24 * steps
    pub in_range : All InRange items

  pub heard_none : (local : L) → stands [] local → Heard [] 0 local
  heard_none local is = record { local_is = is; few = omega arith; in_range = All-nil InRange }

  -- one step more
  pub heard_more : (items : List TraceItem) (steps : ℕ) (old new : L) (m : Machine) (c : Option Machine) → steps < 2 ^ 40 → Heard items steps old → m.pc < 2 ^ 32 → length (step_events plan m c) ≤ 24
      → TakesEvents stands (step_events plan m c) old new → Heard (items ++ item_of m c) (steps + 1) new
  heard_more items steps old new m c room h fits few takes =
      let joined : trace_events plan (items ++ item_of m c) ≡ trace_events plan items ++ step_events plan m c = flat_map-append (item_events plan) items (item_of m c) in
      let size : length (trace_events plan (items ++ item_of m c)) ≡ length (trace_events plan items) + length (step_events plan m c) = ap length joined ∙ simp length-append in
      record {
        local_is = subst (λ (es : List Event). stands es new) (sym joined) (takes (trace_events plan items) (omega (arith, h.few, few, room)) h.local_is);
        few = omega (arith, size, h.few, few);
        in_range = All-append InRange items (item_of m c) h.in_range (item_in_range m c fits);
      }
