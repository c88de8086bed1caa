-- The events that a tool is given in a run, by its calls for each thing.
use Rattle.std.specs.Prelude.{List}
use Rattle.std.specs.List.{flat_map}
use Rattle.guest_model.specs.Serial.{TraceItem}
use Rattle.ins_views.specs.Views.{ViewFields}
use Rattle.insert_points.specs.Events.{events_of}
use Rattle.insert_points.specs.declared.call.Call.{Call}
use Rattle.insert_points.specs.declared.call.Event.{Event}
use Rattle.insert_points.specs.declared.call.Thing.{Thing}
use Rattle.tool_law.specs.Planning.{called_of}

-- the events of a step
abbrev pub step_events : (Thing → List Call) → ViewFields → TraceItem → List Event
step_events calls views item = events_of (called_of calls views item.before.pc) item

-- the events of a trace, step by step
abbrev pub trace_events : (Thing → List Call) → ViewFields → List TraceItem → List Event
trace_events calls views items = flat_map (step_events calls views) items
