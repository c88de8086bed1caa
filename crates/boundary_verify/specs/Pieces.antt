-- The pieces of a run: the trace of each path between neighbouring cuts, and of the path from the last cut to the end.
use Rattle.std.specs.Prelude.{◌≡◌, ℕ, List, [], ◌∷◌}
use Rattle.guest_model.specs.Serial.{Position, TraceItem}
use Rattle.boundary_verify.specs.Path.{IsMatch, Path, last_path, path_between, path_trace}

-- the trace of a path up to its match
pub record IsPiece (path : Path) (items : List TraceItem) : Type 0 where
  pub distance : ℕ
  pub exact : IsMatch path distance
  pub items_are : items ≡ path_trace path distance

-- P says of each path between neighbouring cuts, from position b on, and of the path from the last cut to the end of the run from
-- p, whose last position is t, something of the member of the list that stands in its place
abbrev pub HoldsForPaths : {X : Type 0} → (Path → X → Type 0) → Position → ℕ → ℕ → List ℕ → List X → Type 0
HoldsForPaths P p t b [] [] = ⊥
HoldsForPaths P p t b [] (x ∷ []) = P (last_path p b t) x
HoldsForPaths P p t b [] (x ∷ other ∷ xs) = ⊥
HoldsForPaths P p t b (c ∷ cuts) [] = ⊥
HoldsForPaths P p t b (c ∷ cuts) (x ∷ xs) = P (path_between p b c) x × HoldsForPaths P p t c cuts xs

-- the same of the paths between neighbouring cuts alone, from position b up to the last one, e
abbrev pub HoldsForFirst : {X : Type 0} → (Path → X → Type 0) → Position → ℕ → ℕ → List ℕ → List X → Type 0
HoldsForFirst P p e b [] [] = e ≡ b
HoldsForFirst P p e b [] (x ∷ xs) = ⊥
HoldsForFirst P p e b (c ∷ cuts) [] = ⊥
HoldsForFirst P p e b (c ∷ cuts) (x ∷ xs) = P (path_between p b c) x × HoldsForFirst P p e c cuts xs

-- one piece for each path
abbrev pub ArePieces : Position → ℕ → ℕ → List ℕ → List (List TraceItem) → Type 0
ArePieces p t b cuts pieces = HoldsForPaths IsPiece p t b cuts pieces
