-- The rule of the ring: what its words, its slots and the views of its seats say together, between any two steps.
-- Word 0 is the closing word. Slot i has the word 3 i + 1, which tells its phase, and the words 3 i + 2 and 3 i + 3, the tag of its job.
-- The word of a slot is 4 n for empty, 4 n + 1 for ready, 4 n + 2 for taken and 4 n + 3 for done, where n is a job's number. Job n uses the slot n modulo the slots.
use Rattle.std.specs.Prelude.{◌≡◌, ℕ, ◌+◌, ◌*◌, ◌%◌, ◌^◌, ◌<◌, ◌≤◌, ◌⊎◌, true, List, length, Option, Some, None, IfSome, slice_index_or, if◌then◌else◌}
use mathlib.Core.Option.{some, none}
use mathlib.Core.Option as maybe
use lib.ListN.{get_elem?}
use Rattle.atomic_table.specs.Table.{State}
use Rattle.slice_ring.specs.declared.views.Content.{Content}
use Rattle.slice_ring.specs.declared.views.Content.TheVariants.{Job, Piece}
use Rattle.slice_ring.specs.declared.views.Look.{Look}
use Rattle.slice_ring.specs.declared.views.Role.TheVariants.{Leads, Works, Spent}
use Rattle.slice_ring.specs.declared.views.Lead.{Lead}
use Rattle.slice_ring.specs.declared.views.View.{View}
use Rattle.slice_ring.specs.Ticket.{Tag, Ticket}

-- how far a slot is with the number that it serves; where it is taken, the seat that has it
pub data SlotPhase : Type 0 where
  free : SlotPhase
  ready : SlotPhase
  taken : ℕ → SlotPhase
  done : SlotPhase

-- the number that a slot serves now, or next, and how far it is with it
abbrev pub Cell : Type 0
Cell = ℕ × SlotPhase

abbrev pub word_of : List ℕ → ℕ → ℕ
word_of words i = slice_index_or words (3 * i + 1) 0

abbrev pub tag_of : List ℕ → ℕ → Tag
tag_of words i = (slice_index_or words (3 * i + 2) 0, slice_index_or words (3 * i + 3) 0)

-- the seat with this view holds the job with this number and tag
abbrev pub Holds : {T : Type 0} → ℕ → Tag → View T → Type 0
Holds n tag v = v.work.held ≡ Some (n, tag)

abbrev pub IsHeldBy : {T : Type 0} → List (View T) → ℕ → Tag → ℕ → Type 0
IsHeldBy {T} views n tag j = (v : View T) × (get_elem? views j ≡ some v) × Holds n tag v

-- the word of a slot that serves no published number: that of its last one, done, or 0
abbrev pub IsUnused : ℕ → ℕ → Type 0
IsUnused merged word = (word ≡ 0) ⊎ ((k : ℕ) × (k < merged) × (word ≡ 4 * k + 3))

-- Where a look found a slot ready, its number is published; and as long as the slot's word stays so, the tag words that were loaded after it are those of the slot.
pub record LookHolds (lead : Lead) (word : ℕ) (tag : Tag) (look : Look) : Type 0 where
  pub published : (n : ℕ) → look.word ≡ 4 * n + 1 → n < length lead.tags
  pub first : (n : ℕ) → look.word ≡ 4 * n + 1 → word ≡ 4 * n + 1 → IfSome look.first (λ a. a ≡ tag.0)
  pub second : (n : ℕ) → look.word ≡ 4 * n + 1 → word ≡ 4 * n + 1 → IfSome look.second (λ a. a ≡ tag.1)

module _ {J R T : Type 0} (job : J → Ticket T) (piece : R → Ticket T) (slots : ℕ) (topic : T) where
  -- the slots: none where a seat has its turn, and else what lies in it
  abbrev pub Homes : Type 0
  Homes = List (maybe.Option (Option (Content J R)))

  module _ (lead : Lead) (homes : Homes) (views : List (View T)) (i n word : ℕ) (tag : Tag) where
    -- the lead has the turn of a free slot, but for one that it has not opened yet
    abbrev pub InPhase : SlotPhase → Type 0
    InPhase free = (length lead.tags ≤ n) × IsUnused lead.merged word
        × (i < lead.opened → get_elem? homes i ≡ some none)
        × (lead.opened ≤ i → (word ≡ 0) × (get_elem? homes i ≡ some (some None)))
    InPhase ready = (get_elem? lead.tags n ≡ some tag) × (word ≡ 4 * n + 1)
        × ((x : J) × (get_elem? homes i ≡ some (some (Some (Job x)))) × (job x ≡ record { number = n; tag = tag; topic = topic }))
    InPhase (taken j) = (get_elem? lead.tags n ≡ some tag) × (word ≡ 4 * n + 2) × (get_elem? homes i ≡ some none) × IsHeldBy views n tag j
    InPhase done = (get_elem? lead.tags n ≡ some tag) × (word ≡ 4 * n + 3)
        × ((y : R) × (get_elem? homes i ≡ some (some (Some (Piece y)))) × (piece y ≡ record { number = n; tag = tag; topic = topic }))

  -- the slot i, which serves one number from the merged ones on
  pub record SlotHolds (lead : Lead) (words : List ℕ) (homes : Homes) (views : List (View T)) (i : ℕ) (c : Cell) : Type 0 where
    pub lies : c.0 % slots ≡ i
    pub from : lead.merged ≤ c.0
    pub below : c.0 < lead.merged + slots
    pub phase : InPhase lead homes views i c.0 (word_of words i) (tag_of words i) c.1

  -- The seat j. Where it holds a job, it works, and the job's slot names it: so no two seats hold one job.
  pub record SeatHolds (lead : Lead) (words : List ℕ) (cells : ℕ → Cell) (j : ℕ) (v : View T) : Type 0 where
    pub told : (v.topic ≡ Some topic) ⊎ (v.role ≡ Spent)
    pub leads : v.role ≡ Leads → j ≡ 0
    pub holds : (n : ℕ) (tag : Tag) → Holds n tag v → (v.role ≡ Works) × (cells (n % slots) ≡ (n, taken j)) × (get_elem? lead.tags n ≡ some tag)
    pub each_look : (i : ℕ) (look : Look) → get_elem? v.work.kept i ≡ some look → LookHolds lead (word_of words i) (tag_of words i) look

  -- what the lead knows
  pub record LeadHolds (lead : Lead) (words : List ℕ) : Type 0 where
    pub behind : lead.merged ≤ length lead.tags
    pub within : length lead.tags ≤ lead.merged + slots
    pub few : length lead.tags ≤ 2 ^ 62
    -- the tag words that it stored for the next job
    pub first : IfSome lead.first (λ a. a ≡ (tag_of words (length lead.tags % slots)).0)
    pub second : IfSome lead.second (λ a. a ≡ (tag_of words (length lead.tags % slots)).1)
    pub closing : slice_index_or words 0 0 ≡ if lead.closed then 1 else 0
    pub settled : lead.closed ≡ true → lead.merged ≡ length lead.tags

  pub record RingHolds (s : State (Option (Content J R)) (View T)) : Type 0 where
    pub leader : View T
    pub cells : ℕ → Cell
    pub some_slot : 0 < slots
    pub wide : length s.words ≡ 3 * slots + 1
    pub long : length s.homes ≡ slots
    pub leader_is : get_elem? s.views 0 ≡ some leader
    pub leads : leader.role ≡ Leads
    pub lead_holds : LeadHolds leader.lead s.words
    pub each_slot : (i : ℕ) → i < slots → SlotHolds leader.lead s.words s.homes s.views i (cells i)
    pub each_seat : (j : ℕ) (v : View T) → get_elem? s.views j ≡ some v → SeatHolds leader.lead s.words cells j v
