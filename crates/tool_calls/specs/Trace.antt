-- The calls of a run, each with its depth.
use Rattle.std.specs.Prelude.{ℕ, ◌+◌, ◌-◌, ◌==◌, if◌then◌else◌, List, [], ◌∷◌, ◌++◌, fold, slice_index}
use Rattle.insert_points.specs.declared.call.Event.{Event}
use Rattle.tool_calls.specs.declared.slice.Called.{Called}

-- the calls so far, and the depth after them
pub record Trace : Type 0 where
  pub calls : List Called
  pub depth : ℕ

abbrev pub empty : Trace
empty = record { calls = []; depth = 0 }

-- a call, and one deeper
abbrev pub push : Trace → ℕ → ℕ → Trace
push t from to = record { calls = t.calls ++ record { depth = t.depth; from = from; to = to } ∷ []; depth = t.depth + 1 }

-- a return: one less deep, or still 0
abbrev pub pop : Trace → Trace
pop t = record { calls = t.calls; depth = t.depth - 1 }

-- an event of a call, of a return, and of a return that is a call too; any other counts for nothing
abbrev pub step : Trace → Event → Trace
step t e =
    if e.number == 0 then push t (slice_index e.args 0) (slice_index e.args 1)
    else if e.number == 1 then pop t
    else if e.number == 2 then push (pop t) (slice_index e.args 0) (slice_index e.args 1)
    else t

abbrev pub trace : List Event → Trace
trace xs = fold step empty xs
