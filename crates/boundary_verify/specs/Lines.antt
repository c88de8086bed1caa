-- The lines of a run that is cut: what is told of each of its slices.
use Rattle.std.specs.Prelude.{◌≡◌, ℕ, ◌+◌, ◌-◌, List, [], ◌∷◌, length, map}
use Rattle.guest_model.specs.Play.{Spot, spot_of}
use Rattle.guest_model.specs.Runs.{Running, reached, state_of}
use Rattle.guest_model.specs.Serial.{Position, position_at, step_of, trace_of}
use Rattle.guest_model.specs.Tests.{AreHits, HitCounts, no_hits}
use Rattle.boundary_verify.specs.Path.{AreHitsOf, IsMatch, Path, path_after, path_trace}
use Rattle.boundary_verify.specs.Pieces.{HoldsForPaths}

pub record Line : Type 0 where
  -- its instructions, and its calls
  pub steps : ℕ
  pub calls : ℕ
  -- how many of its positions pass each test against the one at which it ends
  pub hits : HitCounts

-- positions b + 1 to c of the run from p, as a play knows them
abbrev pub spots_between : Position → ℕ → ℕ → List Spot
spots_between p b c = map spot_of (reached step_of (c - b) (Running (position_at b p)))

-- the line between the neighbouring cuts b and c
pub record IsLineBetween (p : Position) (b c : ℕ) (line : Line) : Type 0 where
  pub steps : line.steps ≡ c - b
  pub calls : line.calls ≡ (position_at c p).calls - (position_at b p).calls
  pub hits : AreHits (spot_of (position_at c p)) (spots_between p b c) line.hits

-- the line from the last cut b to the end of the run, whose last position is t
pub record IsLastLine (p : Position) (t b : ℕ) (line : Line) : Type 0 where
  pub steps : line.steps ≡ length (trace_of (t + 1 - b) (position_at b p))
  pub calls : line.calls ≡ (position_at t p).calls - (position_at b p).calls
  pub hits : line.hits ≡ no_hits

-- these are the lines, from position b on, of the run from p whose last position is t, where it is cut so
abbrev pub AreLines : Position → ℕ → ℕ → List ℕ → List Line → Type 0
AreLines p t b [] [] = ⊥
AreLines p t b [] (line ∷ []) = IsLastLine p t b line
AreLines p t b [] (line ∷ other ∷ lines) = ⊥
AreLines p t b (c ∷ cuts) [] = ⊥
AreLines p t b (c ∷ cuts) (line ∷ lines) = IsLineBetween p b c line × AreLines p t c cuts lines

-- what a play of a path up to its match counts: its instructions, its calls, and the positions that pass each test
pub record IsLineOf (path : Path) (line : Line) : Type 0 where
  pub distance : ℕ
  pub exact : IsMatch path distance
  pub steps : line.steps ≡ length (path_trace path distance)
  pub calls : line.calls ≡ (state_of (path_after path distance)).calls - path.start.calls
  pub hits : AreHitsOf path distance line.hits

-- one such line for each path
abbrev pub AreLinesOfPaths : Position → ℕ → ℕ → List ℕ → List Line → Type 0
AreLinesOfPaths p t b cuts lines = HoldsForPaths IsLineOf p t b cuts lines
