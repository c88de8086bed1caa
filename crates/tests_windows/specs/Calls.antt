-- The calls of the tool whose slices meet: each instruction, with its address.
use Rattle.std.specs.Prelude.{List, [], ◌∷◌}
use Rattle.insert_points.specs.declared.call.Arg.TheVariants.{InstPtr}
use Rattle.insert_points.specs.declared.call.Call.{Call}
use Rattle.insert_points.specs.declared.call.Thing.{Thing}
use Rattle.insert_points.specs.declared.call.Thing.TheVariants as things
use Rattle.tool_counts.specs.Calls.{call_before}

abbrev pub meeting_calls : Thing → List Call
meeting_calls (things.Ins pc instr) = call_before (InstPtr ∷ []) ∷ []
meeting_calls (things.Block block) = []
meeting_calls (things.Routine start index) = []
