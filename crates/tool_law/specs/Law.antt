-- The law of a tool: what its locals and its shared state stand for.
use Rattle.std.specs.Prelude.{◌≡◌, ℕ, ◌+◌, ◌^◌, ◌<◌, List, [], ◌∷◌, ◌++◌, length}
use Rattle.insert_points.specs.declared.call.Event.{Event}

-- lists of events that may be joined. No run has as many events as that
abbrev pub AreJoinable : List Event → List Event → Type 0
AreJoinable xs ys = length xs + length ys < 2 ^ 50

module _ {L : Type 0} (stands : List Event → L → Type 0) where
  -- whatever the local stood for, it now stands for that and the event
  abbrev pub TakesEvent : Event → L → L → Type 0
  TakesEvent e old new = (ys : List Event) → AreJoinable ys (e ∷ []) → stands ys old → stands (ys ++ e ∷ []) new

  -- whatever the local stood for, it still does
  abbrev pub KeepsMeaning : L → L → Type 0
  KeepsMeaning old new = (ys : List Event) → stands ys old → stands ys new

module _ {L S : Type 0} (stands : List Event → L → Type 0) (is_value : List Event → S → Type 0) where
  -- whatever the two stood for, the shared state now stands for both lists in order
  abbrev pub Merges : S → L → S → Type 0
  Merges old l new = (xs ys : List Event) → AreJoinable xs ys → is_value xs old → stands ys l → is_value (xs ++ ys) new

-- whatever list of events the state stands for, the text of its value was added
abbrev pub AppendsText : {S : Type 0} → (List Event → S → Type 0) → (List Event → List ℕ) → S → List ℕ → List ℕ → Type 0
AppendsText is_value text s old new = (xs : List Event) → is_value xs s → new ≡ old ++ text xs
