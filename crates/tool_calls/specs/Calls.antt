-- The calls that the trace asks for at a thing.
use Rattle.std.specs.Prelude.{ℕ, List, [], ◌∷◌}
use Rattle.rv_isa.specs.Kinds.{link_of}
use Rattle.rv_isa.specs.declared.kinds.Link.{Link}
use Rattle.rv_isa.specs.declared.kinds.Link.TheVariants as links
use Rattle.insert_points.specs.declared.call.Arg.TheVariants.{InstPtr, Target}
use Rattle.insert_points.specs.declared.call.Call.{Call}
use Rattle.insert_points.specs.declared.call.Point.TheVariants.{Taken}
use Rattle.insert_points.specs.declared.call.Thing.{Thing}
use Rattle.insert_points.specs.declared.call.Thing.TheVariants as things
use Rattle.tool_parts.specs.Calls.{call_of}

-- after a jump, with where it comes from and where it goes
abbrev pub jump_call : ℕ → Call
jump_call number = call_of Taken number (InstPtr ∷ Target ∷ [])

-- by what a jump does to the stack of return addresses
abbrev pub link_calls : Link → List Call
link_calls links.Push = jump_call 0 ∷ []
link_calls links.Pop = jump_call 1 ∷ []
link_calls links.PopPush = jump_call 2 ∷ []
link_calls links.None = []

abbrev pub trace_calls : Thing → List Call
trace_calls (things.Ins pc instr) = link_calls (link_of instr.op instr.rd instr.rs1)
trace_calls (things.Block block) = []
trace_calls (things.Routine start index) = []
