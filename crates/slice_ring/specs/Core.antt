-- The ring read as the core: its words and the views of its seats are a state of the slices.
use Rattle.std.specs.Prelude.{◌≡◌, ℕ, zero, suc, ◌+◌, ◌-◌, ◌*◌, ◌%◌, ◌^◌, ◌<◌, ◌≤◌, Bool, true, false, ◌==◌, List, [], ◌∷◌, length, map, Option, Some, None, slice_index_or, slice_set, if◌then◌else◌}
use Rattle.std.specs.List.{range_with_len}
use mathlib.Core.Option.{some}
use lib.ListN.{get_elem?}
use Rattle.atomic_table.specs.Table.{State}
use Rattle.weave_core.specs.declared.moves.Phase.{Phase}
use Rattle.weave_core.specs.declared.moves.Phase.TheVariants.{Absent, Ready, Taken, Done}
use Rattle.weave_core.specs.declared.moves.Move.{Move}
use Rattle.weave_core.specs.Moves.{WeaveState, published, is_allowed, after}
use Rattle.slice_ring.specs.declared.views.Content.{Content}
use Rattle.slice_ring.specs.declared.views.Content.TheVariants.{Job, Piece}
use Rattle.slice_ring.specs.declared.views.Lead.{Lead}
use Rattle.slice_ring.specs.declared.views.View.{View}
use Rattle.slice_ring.specs.Ticket.{Tag, Ticket}
use Rattle.slice_ring.specs.Rule.{word_of, tag_of, IsHeldBy}
use Rattle.slice_ring.specs.Steps.{no_lead}

abbrev pub holds_number : ℕ → Option (ℕ × Tag) → Bool
holds_number n None = false
holds_number n (Some h) = h.0 == n

module _ {T : Type 0} where
  -- the lead's is the first of the views
  abbrev pub lead_of : List (View T) → Lead
  lead_of [] = no_lead
  lead_of (v ∷ vs) = v.lead

  -- the first place of a view that holds the number n
  abbrev pub place_of : ℕ → List (View T) → ℕ
  place_of n [] = 0
  place_of n (v ∷ vs) = if holds_number n v.work.held then 0 else suc (place_of n vs)

  -- the phase of the number n, by the word of its slot
  abbrev pub phase_by : List (View T) → ℕ → ℕ → Phase
  phase_by views n word = if word == 4 * n + 1 then Ready else (if word == 4 * n + 2 then Taken (place_of n views) else (if word == 4 * n + 3 then Done else Absent))

  -- the state of the slices that the words and views of a ring with so many slots say
  abbrev pub core_of : {S : Type 0} → ℕ → State S (View T) → WeaveState
  core_of slots s = let lead = lead_of s.views in record {
    limit = slots;
    merged = lead.merged;
    phases = map (λ n. phase_by s.views n (word_of s.words (n % slots))) (range_with_len lead.merged (length lead.tags - lead.merged));
    closed = slice_index_or s.words 0 0 == 1;
  }

-- a state that the core can have
abbrev pub IsSound : WeaveState → Type 0
IsSound core = (length core.phases ≤ core.limit) × (published core ≤ 2 ^ 62) × (core.closed ≡ true → core.phases ≡ [])

module _ {J R T : Type 0} (job : J → Ticket T) (piece : R → Ticket T) (slots : ℕ) (topic : T) (s : State (Option (Content J R)) (View T)) (n : ℕ) where
  abbrev pub IsHeldByNone : Type 0
  IsHeldByNone = (j : ℕ) (tag : Tag) → IsHeldBy s.views n tag j → ⊥

  -- What stands in the ring where the outstanding slice n is in this phase: its slot's word, what lies in the slot, and who holds it. The slot's tag words are `tag`.
  abbrev pub StandsIn : Tag → Phase → Type 0
  StandsIn tag Absent = ⊥
  StandsIn tag Ready = (word_of s.words (n % slots) ≡ 4 * n + 1)
      × ((x : J) × (get_elem? s.homes (n % slots) ≡ some (some (Some (Job x)))) × (job x ≡ record { number = n; tag = tag; topic = topic })) × IsHeldByNone
  StandsIn tag (Taken who) = (word_of s.words (n % slots) ≡ 4 * n + 2) × IsHeldBy s.views n tag who
      × ((j : ℕ) (t : Tag) → IsHeldBy s.views n t j → j ≡ who)
  StandsIn tag Done = (word_of s.words (n % slots) ≡ 4 * n + 3)
      × ((y : R) × (get_elem? s.homes (n % slots) ≡ some (some (Some (Piece y)))) × (piece y ≡ record { number = n; tag = tag; topic = topic })) × IsHeldByNone

  -- the same, and the slot's tag words are the tag that the slice was published with
  abbrev pub IsSlice : Phase → Type 0
  IsSlice phase = (get_elem? (lead_of s.views).tags n ≡ some (tag_of s.words (n % slots))) × StandsIn (tag_of s.words (n % slots)) phase

-- the seat at `place` made a step on the word k, which is x since then, and knows w
abbrev pub HasStepped : {S T : Type 0} → ℕ → ℕ → ℕ → View T → State S (View T) → State S (View T) → Type 0
HasStepped k x place w s s' = (s'.words ≡ slice_set s.words k x) × (s'.views ≡ slice_set s.views place w)

-- between two states of a ring the core makes this move, which is allowed
abbrev pub MakesMove : {S T : Type 0} → ℕ → State S (View T) → Move → State S (View T) → Type 0
MakesMove slots s m s' = (is_allowed (core_of slots s) m ≡ true) × (core_of slots s' ≡ after (core_of slots s) m)
