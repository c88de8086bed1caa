-- Locals that are merged one after the other.
use Rattle.std.specs.Prelude.{◌≡◌, ℕ, List, [], ◌∷◌}
use Rattle.insert_points.specs.declared.call.Event.{Event}
use Rattle.tool_law.specs.Law.{Merges}

-- the locals of the slices with these numbers, merged in this order, make of one state the other
abbrev pub MergesInOrder : {L S : Type 0} → (List Event → L → Type 0) → (List Event → S → Type 0) → (ℕ → L) → List ℕ → S → S → Type 0
MergesInOrder stands is_value locals [] old new = new ≡ old
MergesInOrder {L} {S} stands is_value locals (n ∷ ns) old new = (next : S) × Merges stands is_value old (locals n) next × MergesInOrder stands is_value locals ns next new
