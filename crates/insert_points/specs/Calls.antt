-- The calls that a tool asks for (Pin user guide, "Instrumentation arguments": IPOINT and IARG).
use Rattle.std.specs.Prelude.{ℕ, Bool, true, false, List, filter, slice_index_or}
use Rattle.insert_points.specs.declared.call.Arg.{Arg}
use Rattle.insert_points.specs.declared.call.Arg.TheVariants.{Const}
use Rattle.insert_points.specs.declared.call.Args.{Args}
use Rattle.insert_points.specs.declared.call.Call.{Call}
use Rattle.insert_points.specs.declared.call.Point.{Point}
use Rattle.insert_points.specs.declared.call.Point.TheVariants.{Before, After, Taken}

abbrev pub same_point : Point → Point → Bool
same_point Before Before = true
same_point After After = true
same_point Taken Taken = true
same_point _ _ = false

-- the calls at a point, in the order in which they were asked for
abbrev pub calls_at : Point → List Call → List Call
calls_at point calls = filter (λ call. same_point call.at point) calls

-- an argument that a call does not have is the number 0
abbrev pub arg_at : List Arg → ℕ → Arg
arg_at args k = slice_index_or args k (Const 0)

abbrev pub args_of : List Arg → Args
args_of args = record { first = arg_at args 0; second = arg_at args 1; third = arg_at args 2; fourth = arg_at args 3 }
