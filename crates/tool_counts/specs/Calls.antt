-- The calls that each tool asks for at a thing.
use Rattle.std.specs.Prelude.{List, [], ◌∷◌}
use Rattle.rv_isa.specs.Places.{place_of}
use Rattle.insert_points.specs.declared.call.Arg.{Arg}
use Rattle.insert_points.specs.declared.call.Arg.TheVariants.{Const, InstPtr}
use Rattle.insert_points.specs.declared.call.Call.{Call}
use Rattle.insert_points.specs.declared.call.Point.TheVariants.{Before}
use Rattle.insert_points.specs.declared.call.Thing.{Thing}
use Rattle.insert_points.specs.declared.call.Thing.TheVariants as things
use Rattle.tool_parts.specs.Calls.{call_of}

-- a call with the number 0, before the instruction
abbrev pub call_before : List Arg → Call
call_before args = call_of Before 0 args

-- `icount`: each instruction
abbrev pub instruction_calls : Thing → List Call
instruction_calls (things.Ins pc instr) = call_before [] ∷ []
instruction_calls (things.Block block) = []
instruction_calls (things.Routine start index) = []

-- `bcount`: each block, with its length
abbrev pub block_count_calls : Thing → List Call
block_count_calls (things.Ins pc instr) = []
block_count_calls (things.Block block) = call_before (Const block.len ∷ []) ∷ []
block_count_calls (things.Routine start index) = []

-- `mix`: each instruction, with the place of its name in the table
abbrev pub mix_calls : Thing → List Call
mix_calls (things.Ins pc instr) = call_before (Const (place_of instr.op) ∷ []) ∷ []
mix_calls (things.Block block) = []
mix_calls (things.Routine start index) = []

-- `blocks`: each block, with its head and its length
abbrev pub profile_calls : Thing → List Call
profile_calls (things.Ins pc instr) = []
profile_calls (things.Block block) = call_before (InstPtr ∷ Const block.len ∷ []) ∷ []
profile_calls (things.Routine start index) = []
