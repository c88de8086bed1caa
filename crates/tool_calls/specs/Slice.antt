-- What a slice keeps of its calls, and what a trace becomes by them.
use Rattle.std.specs.Prelude.{ℕ, ◌+◌, ◌-◌, ◌≤◌, List, ◌++◌, length, map, All}
use Rattle.std.proofs.Props.{props}
use Rattle.insert_points.specs.declared.call.Event.{Event}
use Rattle.tool_parts.specs.Effects.{IsEffect}
use Rattle.tool_calls.specs.declared.slice.Called.{Called}
use Rattle.tool_calls.specs.declared.slice.Relative.{Relative}
use Rattle.tool_calls.specs.Trace.{Trace, step}

-- The depth of a place in a slice that starts at the depth d: the slice went so far below its start before, at most down to 0,
-- and the place is so far above that.
abbrev pub depth_at : ℕ → ℕ → ℕ → ℕ
depth_at d below above = d - below + above

abbrev pub placed : ℕ → Relative → Called
placed d r = record { depth = depth_at d r.below r.above; from = r.from; to = r.to }

-- what a trace becomes by a slice
abbrev pub settled : List Relative → ℕ → ℕ → Trace → Trace
settled calls below above t = record { calls = t.calls ++ map (placed t.depth) calls; depth = depth_at t.depth below above }

-- a slice may start from every trace
abbrev pub IsAny : Trace → Type 0
IsAny t = Unit {0}

-- the slice knows what every trace becomes by the events
pub record IsSlice (ys : List Event) (calls : List Relative) (below above : ℕ) : Type 0 where
  pub few_below : below ≤ length ys
  pub few_above : above ≤ length ys
  pub calls_few_above : All (λ r. r.above ≤ length ys) calls
  pub exact : IsEffect step IsAny ys (settled calls below above)

pub IsSlice-prop : (ys : List Event) (calls : List Relative) (below above : ℕ) → IsProp (IsSlice ys calls below above)
IsSlice-prop ys calls below above = hlevel props
