-- What moves do to each slice.
use Rattle.std.specs.Prelude.{◌≡◌, ℕ, ◌<◌, ◌≤◌, ◌⊎◌, List, [], ◌∷◌, ◌++◌, ◌==◌, if◌then◌else◌}
use Rattle.weave_core.specs.declared.moves.Phase.{Phase}
use Rattle.weave_core.specs.declared.moves.Phase.TheVariants.{Absent, Ready, Taken, Done}
use Rattle.weave_core.specs.declared.moves.Move.{Move}
use Rattle.weave_core.specs.declared.moves.Move.TheVariants.{Publish, Claim, Finish, Merge, Close}
use Rattle.weave_core.specs.Moves.{WeaveState, published, phase_of, after}

pub data Event : Type 0 where
  is_published : Event
  is_claimed_by : ℕ → Event
  is_finished_by : ℕ → Event
  is_merged : Event

-- the whole course of a slice that `who` claims
abbrev pub course : ℕ → List Event
course who = is_published ∷ is_claimed_by who ∷ is_finished_by who ∷ is_merged ∷ []

-- what a move does, and to which slice
abbrev pub event_of : WeaveState → Move → List (ℕ × Event)
event_of s Publish = (published s, is_published) ∷ []
event_of s (Claim n who) = (n, is_claimed_by who) ∷ []
event_of s (Finish n who) = (n, is_finished_by who) ∷ []
event_of s Merge = (s.merged, is_merged) ∷ []
event_of s Close = []

abbrev pub events_of : WeaveState → List Move → List (ℕ × Event)
events_of s [] = []
events_of s (m ∷ ms) = event_of s m ++ events_of (after s m) ms

-- of these events, those of the slice n
abbrev pub of_slice : ℕ → List (ℕ × Event) → List Event
of_slice n [] = []
of_slice n (e ∷ es) = if e.0 == n then e.1 ∷ of_slice n es else of_slice n es

-- the slices that are merged, in order
abbrev pub merged_slices : List (ℕ × Event) → List ℕ
merged_slices [] = []
merged_slices ((n, is_published) ∷ es) = merged_slices es
merged_slices ((n, is_claimed_by who) ∷ es) = merged_slices es
merged_slices ((n, is_finished_by who) ∷ es) = merged_slices es
merged_slices ((n, is_merged) ∷ es) = n ∷ merged_slices es

-- what has happened to a slice that is in this phase, and not merged
abbrev pub HasCome : Phase → List Event → Type 0
HasCome Absent es = es ≡ []
HasCome Ready es = es ≡ is_published ∷ []
HasCome (Taken who) es = es ≡ is_published ∷ is_claimed_by who ∷ []
HasCome Done es = (who : ℕ) × (es ≡ is_published ∷ is_claimed_by who ∷ is_finished_by who ∷ [])

-- in this state, that has happened to the slice n
abbrev pub StandsAt : WeaveState → ℕ → List Event → Type 0
StandsAt s n es = ((n < s.merged) × ((who : ℕ) × (es ≡ course who))) ⊎ ((s.merged ≤ n) × HasCome (phase_of s n) es)
