-- The calls that the cache asks for at a thing.
use Rattle.std.specs.Prelude.{List, [], ◌∷◌}
use Rattle.rv_isa.specs.declared.op.Op.{Op}
use Rattle.rv_isa.specs.declared.op.Op.TheVariants.{Lb, Lh, Lw, Lbu, Lhu, Sb, Sh, Sw, LrW, ScW, AmoswapW, AmoaddW, AmoxorW, AmoandW, AmoorW, AmominW, AmomaxW, AmominuW, AmomaxuW}
use Rattle.insert_points.specs.declared.call.Arg.{Arg}
use Rattle.insert_points.specs.declared.call.Arg.TheVariants.{MemSize, ReadEa, WriteEa}
use Rattle.insert_points.specs.declared.call.Call.{Call}
use Rattle.insert_points.specs.declared.call.Point.TheVariants.{Before}
use Rattle.insert_points.specs.declared.call.Thing.{Thing}
use Rattle.insert_points.specs.declared.call.Thing.TheVariants as things
use Rattle.tool_parts.specs.Calls.{call_of}

-- before the instruction, with its address and its size
abbrev pub access_call : Arg → Call
access_call address = call_of Before 0 (address ∷ MemSize ∷ [])

-- each load, each store and each atomic, once: lr.w and those that read and write by where they read, sc.w by where it writes,
-- whether or not it stores
abbrev pub access_calls : Op → List Call
access_calls Lb = access_call ReadEa ∷ []
access_calls Lh = access_call ReadEa ∷ []
access_calls Lw = access_call ReadEa ∷ []
access_calls Lbu = access_call ReadEa ∷ []
access_calls Lhu = access_call ReadEa ∷ []
access_calls LrW = access_call ReadEa ∷ []
access_calls AmoswapW = access_call ReadEa ∷ []
access_calls AmoaddW = access_call ReadEa ∷ []
access_calls AmoxorW = access_call ReadEa ∷ []
access_calls AmoandW = access_call ReadEa ∷ []
access_calls AmoorW = access_call ReadEa ∷ []
access_calls AmominW = access_call ReadEa ∷ []
access_calls AmomaxW = access_call ReadEa ∷ []
access_calls AmominuW = access_call ReadEa ∷ []
access_calls AmomaxuW = access_call ReadEa ∷ []
access_calls Sb = access_call WriteEa ∷ []
access_calls Sh = access_call WriteEa ∷ []
access_calls Sw = access_call WriteEa ∷ []
access_calls ScW = access_call WriteEa ∷ []
access_calls _ = []

abbrev pub cache_calls : Thing → List Call
cache_calls (things.Ins pc instr) = access_calls instr.op
cache_calls (things.Block block) = []
cache_calls (things.Routine start index) = []
