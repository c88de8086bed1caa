-- Calls as a plan keeps them: with their arguments, and made ready for the name of an instruction.
use Rattle.std.specs.Prelude.{ℕ, List, [], ◌∷◌, map, Option, None, Some, slice_index}
use Rattle.rv_isa.specs.Kinds.{mem_size}
use Rattle.rv_isa.specs.declared.op.Op.{Op}
use Rattle.rv_isa.specs.declared.op.Op.TheVariants.{Jal, Jalr, Beq, Bne, Blt, Bge, Bltu, Bgeu, Lb, Lh, Lw, Lbu, Lhu, Sb, Sh, Sw, LrW, ScW, AmoswapW, AmoaddW, AmoxorW, AmoandW, AmoorW, AmominW, AmomaxW, AmominuW, AmomaxuW}
use Rattle.guest_model.specs.Effect.{even}
use Rattle.insert_points.specs.declared.call.Arg.{Arg}
use Rattle.insert_points.specs.declared.call.Arg.TheVariants.{InstPtr, ReadEa, WriteEa, MemSize, BranchTaken, Target, Reg, Const}
use Rattle.insert_points.specs.declared.call.Args.{Args}
use Rattle.insert_points.specs.declared.call.Call.{Call}
use Rattle.insert_points.specs.declared.call.Event.{Event}
use Rattle.insert_points.specs.declared.call.Point.{Point}
use Rattle.insert_points.specs.declared.operands.Operands.{Operands}
use Rattle.insert_points.specs.declared.planned.PlannedCall.{PlannedCall}
use Rattle.insert_points.specs.declared.planned.Source.{Source}
use Rattle.insert_points.specs.declared.planned.Source.TheVariants as sources
use Rattle.insert_points.specs.declared.planned.Sources.{Sources}
use Rattle.insert_points.specs.Arguments.{address_of, ahead_of, value_of}
use Rattle.insert_points.specs.Calls.{args_of, calls_at}

-- where an argument comes from on an instruction of a known name
abbrev pub read_source : Op → Source
read_source Lb = sources.Address
read_source Lh = sources.Address
read_source Lw = sources.Address
read_source Lbu = sources.Address
read_source Lhu = sources.Address
read_source LrW = sources.Address
read_source AmoswapW = sources.Address
read_source AmoaddW = sources.Address
read_source AmoxorW = sources.Address
read_source AmoandW = sources.Address
read_source AmoorW = sources.Address
read_source AmominW = sources.Address
read_source AmomaxW = sources.Address
read_source AmominuW = sources.Address
read_source AmomaxuW = sources.Address
read_source _ = sources.Fixed 0

abbrev pub write_source : Op → Source
write_source Sb = sources.Address
write_source Sh = sources.Address
write_source Sw = sources.Address
write_source ScW = sources.Address
write_source AmoswapW = sources.Address
write_source AmoaddW = sources.Address
write_source AmoxorW = sources.Address
write_source AmoandW = sources.Address
write_source AmoorW = sources.Address
write_source AmominW = sources.Address
write_source AmomaxW = sources.Address
write_source AmominuW = sources.Address
write_source AmomaxuW = sources.Address
write_source _ = sources.Fixed 0

abbrev pub taken_source : Op → Source
taken_source Jal = sources.Fixed 1
taken_source Jalr = sources.Fixed 1
taken_source Beq = sources.ByName BranchTaken
taken_source Bne = sources.ByName BranchTaken
taken_source Blt = sources.ByName BranchTaken
taken_source Bge = sources.ByName BranchTaken
taken_source Bltu = sources.ByName BranchTaken
taken_source Bgeu = sources.ByName BranchTaken
taken_source _ = sources.Fixed 0

abbrev pub target_source : Op → Source
target_source Jal = sources.Ahead
target_source Jalr = sources.EvenAddress
target_source Beq = sources.Ahead
target_source Bne = sources.Ahead
target_source Blt = sources.Ahead
target_source Bge = sources.Ahead
target_source Bltu = sources.Ahead
target_source Bgeu = sources.Ahead
target_source _ = sources.Fixed 0

abbrev pub named_source : Op → Arg → Source
named_source op InstPtr = sources.Pc
named_source op ReadEa = read_source op
named_source op WriteEa = write_source op
named_source op MemSize = sources.Fixed (mem_size op)
named_source op BranchTaken = taken_source op
named_source op Target = target_source op
named_source op (Reg n) = sources.Register n
named_source op (Const v) = sources.Fixed v

-- where it comes from on any instruction
abbrev pub any_source : Arg → Source
any_source InstPtr = sources.Pc
any_source (Reg n) = sources.Register n
any_source (Const v) = sources.Fixed v
any_source arg = sources.ByName arg

abbrev pub source_of : Option Op → Arg → Source
source_of None arg = any_source arg
source_of (Some op) arg = named_source op arg

unfoldable pub sources_of : Option Op → Args → Sources
sources_of op args = record { first = source_of op args.first; second = source_of op args.second; third = source_of op args.third; fourth = source_of op args.fourth }

-- what a source gives
abbrev pub source_value : Source → Operands → List ℕ → ℕ
source_value (sources.Fixed v) o registers = v
source_value sources.Pc o registers = o.pc
source_value sources.Ahead o registers = ahead_of o
source_value sources.Address o registers = address_of o
source_value sources.EvenAddress o registers = even (address_of o)
source_value (sources.Register n) o registers = slice_index registers n
source_value (sources.ByName arg) o registers = value_of arg o registers

-- a call made ready for the instructions of a name, or for any
abbrev pub plan_call : Option Op → Call → PlannedCall
plan_call op call = record { number = call.number; args = args_of call.args.items; sources = sources_of op (args_of call.args.items) }

-- the calls at a point, made ready
unfoldable pub plan_calls : Option Op → Point → List Call → List PlannedCall
plan_calls op point calls = map (plan_call op) (calls_at point calls)

-- the event that a ready call gives
abbrev pub ready_event : Operands → List ℕ → PlannedCall → Event
ready_event o registers call = record {
  number = call.number;
  args = source_value call.sources.first o registers ∷ source_value call.sources.second o registers ∷ source_value call.sources.third o registers ∷ source_value call.sources.fourth o registers ∷ [];
}
