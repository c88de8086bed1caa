-- The path of a slice: a play from where it starts, up to the boundary at which it ends.
use Rattle.std.specs.Prelude.{◌≡◌, ℕ, ◌+◌, ◌-◌, ◌≤◌, List}
use Rattle.guest_model.specs.Play.{Spot, Script, Halt, play_of, play_step, played_item, spot_of}
use Rattle.guest_model.specs.Runs.{RunState, Running, IsEnded, along, reached}
use Rattle.guest_model.specs.Serial.{Position, TraceItem, entries_of, position_at}
use Rattle.guest_model.specs.Tests.{HitCounts, AreHits, no_hits}

-- where a slice ends: at a machine and record position, or with the run
pub data Boundary : Type 0 where
  At : (end : Spot) → Boundary
  AtEnd : Boundary

pub record Path : Type 0 where
  pub start : Spot
  pub script : Script
  pub boundary : Boundary

-- where the play stands after n steps
abbrev pub path_after : Path → ℕ → RunState Spot Halt
path_after path n = play_of path.script n path.start

abbrev pub Meets : Boundary → RunState Spot Halt → Type 0
Meets (At end) x = x ≡ Running end
Meets AtEnd x = IsEnded x

-- the match: the least number of steps, at least 1, after which the play meets the boundary
pub record IsMatch (path : Path) (s : ℕ) : Type 0 where
  pub begun : 1 ≤ s
  pub met : Meets path.boundary (path_after path s)
  pub least : (k : ℕ) → 1 ≤ k → Meets path.boundary (path_after path k) → s ≤ k

-- the trace of the first n steps
abbrev pub path_trace : Path → ℕ → List TraceItem
path_trace path n = along (play_step path.script) (played_item path.script) n (Running path.start)

-- how many of the positions 1 to n pass each test against the boundary; a slice that ends with the run tests none
abbrev pub AreHitsBy : Boundary → Path → ℕ → HitCounts → Type 0
AreHitsBy (At end) path n hits = AreHits end (reached (play_step path.script) n (Running path.start)) hits
AreHitsBy AtEnd path n hits = hits ≡ no_hits

abbrev pub AreHitsOf : Path → ℕ → HitCounts → Type 0
AreHitsOf path n hits = AreHitsBy path.boundary path n hits

-- the path between positions b and c of the run from p, with the records between them
abbrev pub script_of : Position → ℕ → ℕ → Script
script_of p b c = record { first = (position_at b p).calls; entries = entries_of (c - b) (position_at b p) }

abbrev pub path_between : Position → ℕ → ℕ → Path
path_between p b c = record { start = spot_of (position_at b p); script = script_of p b c; boundary = At (spot_of (position_at c p)) }

-- the path from position b to the end of the run from p, whose last position is t
abbrev pub last_path : Position → ℕ → ℕ → Path
last_path p b t = record { start = spot_of (position_at b p); script = script_of p b (t + 1); boundary = AtEnd }
