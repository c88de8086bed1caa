-- Pieces that come in order, and what they give together.
use Rattle.std.specs.Prelude.{◌≡◌, ℕ, ◌+◌, ◌<◌, ◌^◌, List, [], ◌∷◌, ◌++◌, length, Result, Ok, Err, IfOk}
use Rattle.std.specs.List.{AllZip, flat_map}
use Rattle.std.specs.declared.alloc.AllocError.{AllocError}
use Rattle.insert_points.specs.declared.call.Event.{Event}
use Rattle.tool_law.specs.declared.piece.Piece.{Piece}
use Rattle.ordered_merge.specs.declared.merger.SliceLine.{SliceLine}

-- lists of events, one after the other
abbrev pub joined : List (List Event) → List Event
joined xss = flat_map (λ xs. xs) xss

-- the line of a piece
abbrev pub line_of : {T L S : Type 0} → Piece T L S → SliceLine
line_of p = record { steps = p.steps; calls = p.calls; hits = p.hits }

module _ {T L S : Type 0} where
  -- the lines of what a slice gave
  abbrev pub lines_of : Result (Piece T L S) AllocError → List SliceLine
  lines_of (Ok p) = line_of p ∷ []
  lines_of (Err e) = []

  -- the pieces have the numbers from n on, each the next one
  abbrev pub AreNumberedFrom : ℕ → List (Result (Piece T L S) AllocError) → Type 0
  AreNumberedFrom n [] = Unit {0}
  AreNumberedFrom n (r ∷ rs) = IfOk r (λ p. p.index ≡ n) × AreNumberedFrom (n + 1) rs

  -- a piece, where there is one, stands for a list of events
  abbrev pub IsPieceOf : (List Event → L → Type 0) → List Event → Result (Piece T L S) AllocError → Type 0
  IsPieceOf stands ys r = IfOk r (λ p. stands ys p.local)

-- where the state stood for a list of events, and the pieces for lists that may be joined to it, it now stands for all of
-- them in their order
abbrev pub GivesValue : {T L S U : Type 0} → (List Event → L → Type 0) → (List Event → U → Type 0) → U → List (Result (Piece T L S) AllocError) → U → Type 0
GivesValue stands is_value old rs new = (xs : List Event) (xss : List (List Event)) → length (xs ++ joined xss) < 2 ^ 50
    → is_value xs old → AllZip (IsPieceOf stands) xss rs → is_value (xs ++ joined xss) new
