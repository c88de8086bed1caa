-- Events rest on what a view shows.
use Rattle.std.proofs.Common.{◌≡◌, ◌∙◌, ◌++◌, ℕ, List, [], map, ap, refl, sym, Bool, false, if◌then◌else◌}
use Rattle.std.specs.Prelude.{IfSome, Option, None, Some}
use Rattle.std.specs.Option.{option_map}
use Rattle.rv_isa.specs.declared.view.StepView.{StepView}
use Rattle.guest_model.specs.Machine.{Machine}
use Rattle.guest_model.specs.Serial.{TraceItem}
use Rattle.insert_points.specs.Events.{Called, Shows, event_of, events_of, item_of, late_calls, late_events, machine_with, operands_of}
use Rattle.insert_points.specs.declared.call.Event.{Event}
use Rattle.insert_points.specs.declared.operands.Operands.{Operands}

-- the machine after, as a view shows it
abbrev seen : StepView → Option ℕ → Option Machine
seen view next = option_map (λ next. machine_with next view.after false) next

same_late : (called : Called) (o : Operands) (view : StepView) (completion : Option Machine) → view.next ≡ option_map (λ m. m.pc) completion → IfSome completion (λ m. view.after ≡ m.registers)
    → late_events called o completion ≡ late_events called o (item_of view).completion
same_late called o view None next after = ap (λ (n : Option ℕ). late_events called o (seen view n)) (sym next)
same_late called o view (Some m) next after =
    ap (λ (registers : List ℕ). map (event_of o registers) (late_calls called o)) (sym after)
    ∙ ap (λ (n : Option ℕ). late_events called o (seen view n)) (sym next)

-- the events of a step from what each part of them needs
abbrev parts : Called → Operands → List ℕ → Bool → List Event → List Event
parts called o registers fresh late =
    map (event_of o registers) called.routine
    ++ ((if fresh then map (event_of o registers) called.block else [])
    ++ (map (event_of o registers) called.before
    ++ late))

pub events_of_view : (called : Called) (view : StepView) (item : TraceItem) → Shows view item → events_of called item ≡ events_of called (item_of view)
unfolding events_of
events_of_view called view item h =
    let o = operands_of item in
    let operands : o ≡ operands_of (item_of view) = rw (h.pc, h.instr, h.before) refl in
    let late = late_events called o item.completion in
    let same = same_late called o view item.completion h.next h.after in
    ap (λ (r : List ℕ). parts called o r item.before.fresh late) (sym h.before)
    ∙ ap (λ (fresh : Bool). parts called o view.before fresh late) (sym h.fresh)
    ∙ ap (λ (events : List Event). parts called o view.before view.fresh events) same
    ∙ ap (λ (p : Operands). parts called p view.before view.fresh (late_events called p (item_of view).completion)) operands
