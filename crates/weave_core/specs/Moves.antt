-- The slices of a live run, and the moves that bring them on.
use Rattle.std.specs.Prelude.{◌≡◌, ℕ, ◌+◌, ◌-◌, ◌^◌, Bool, true, false, ◌&&◌, not, List, [], ◌∷◌, ◌++◌, length, drop, nat_lt, ◌==◌, slice_index_or, slice_set, if◌then◌else◌}
use Rattle.weave_core.specs.declared.moves.Phase.{Phase}
use Rattle.weave_core.specs.declared.moves.Phase.TheVariants.{Absent, Ready, Taken, Done}
use Rattle.weave_core.specs.declared.moves.Move.{Move}
use Rattle.weave_core.specs.declared.moves.Move.TheVariants.{Publish, Claim, Finish, Merge, Close}

pub record WeaveState : Type 0 where
  -- how many slices may be outstanding
  pub limit : ℕ
  -- how many slices are merged: those below this number
  pub merged : ℕ
  -- the phase of each outstanding slice, from that number on
  pub phases : List Phase
  pub closed : Bool

abbrev pub empty : ℕ → WeaveState
empty limit = record { limit = limit; merged = 0; phases = []; closed = false }

-- how many slices were published
abbrev pub published : WeaveState → ℕ
published s = s.merged + length s.phases

-- the phase of a slice: absent, unless it is outstanding
abbrev pub phase_of : WeaveState → ℕ → Phase
phase_of s n = if nat_lt n s.merged then Absent else slice_index_or s.phases (n - s.merged) Absent

abbrev pub is_ready : Phase → Bool
is_ready Absent = false
is_ready Ready = true
is_ready (Taken who) = false
is_ready Done = false

abbrev pub is_taken_by : ℕ → Phase → Bool
is_taken_by who Absent = false
is_taken_by who Ready = false
is_taken_by who (Taken other) = other == who
is_taken_by who Done = false

abbrev pub is_done : Phase → Bool
is_done Absent = false
is_done Ready = false
is_done (Taken who) = false
is_done Done = true

abbrev pub is_allowed : WeaveState → Move → Bool
is_allowed s Publish = not s.closed && nat_lt (length s.phases) s.limit && nat_lt (published s) (2 ^ 62)
is_allowed s (Claim n who) = not s.closed && is_ready (phase_of s n)
is_allowed s (Finish n who) = not s.closed && is_taken_by who (phase_of s n)
is_allowed s Merge = not s.closed && is_done (phase_of s s.merged)
is_allowed s Close = not s.closed && (length s.phases == 0)

abbrev pub with_phases : WeaveState → List Phase → WeaveState
with_phases s phases = record { limit = s.limit; merged = s.merged; phases = phases; closed = s.closed }

-- what an allowed move makes of the slices
abbrev pub after : WeaveState → Move → WeaveState
after s Publish = with_phases s (s.phases ++ Ready ∷ [])
after s (Claim n who) = with_phases s (slice_set s.phases (n - s.merged) (Taken who))
after s (Finish n who) = with_phases s (slice_set s.phases (n - s.merged) Done)
after s Merge = record { limit = s.limit; merged = s.merged + 1; phases = drop 1 s.phases; closed = s.closed }
after s Close = record { limit = s.limit; merged = s.merged; phases = s.phases; closed = true }

abbrev pub state_after : WeaveState → List Move → WeaveState
state_after s [] = s
state_after s (m ∷ ms) = state_after (after s m) ms

-- each move is allowed where it is made
abbrev pub AllAllowed : WeaveState → List Move → Type 0
AllAllowed s [] = Unit {0}
AllAllowed s (m ∷ ms) = (is_allowed s m ≡ true) × AllAllowed (after s m) ms
