-- What a clause says of a ring and of its seats.
use Rattle.std.specs.Prelude.{◌≡◌, ◌≢◌, ℕ, zero, suc, ◌+◌, ◌-◌, ◌*◌, ◌%◌, ◌^◌, ◌<◌, ◌⊎◌, List, [], ◌∷◌, length, Option, Some, None, IfSome, false, true}
use mathlib.Core.Option.{some}
use lib.ListN.{get_elem?}
use Rattle.atomic_table.specs.Table.{Me}
use Rattle.atomic_table.specs.Seated.{TableId}
use Rattle.atomic_table.specs.declared.shared.Seat.{Seat}
use Rattle.slice_ring.specs.declared.views.Content.{Content}
use Rattle.slice_ring.specs.declared.views.Content.TheVariants.{Job}
use Rattle.slice_ring.specs.declared.views.Look.{Look}
use Rattle.slice_ring.specs.declared.views.Glance.{Glance}
use Rattle.slice_ring.specs.declared.views.Role.TheVariants.{Leads, Works}
use Rattle.slice_ring.specs.declared.views.View.{View}
use Rattle.slice_ring.specs.Ticket.{Tag, Ticket}
use Rattle.slice_ring.specs.Steps.{look_at, takes_job}

-- which ring it is, and what its jobs are about
pub record RingId (T : Type 0) : Type 0 where
  pub table : TableId
  pub topic : T

abbrev pub slots_of : {T : Type 0} → RingId T → ℕ
slots_of ring = ring.table.slots

-- a seat: which table it is at, its place among all seats of the table, and what it knows
pub record SeatView (T : Type 0) : Type 0 where
  pub table : TableId
  pub place : ℕ
  pub view : View T

-- a job was claimed after so many looks: its slot's word was loaded since then, which was that of the ready job, and then the tag words, which were its tag
abbrev pub WasReady : {T : Type 0} → ℕ → ℕ → Ticket T → View T → Type 0
WasReady slots since ticket v = let look = look_at (ticket.number % slots) v in
    (since < look.look) × (look.word ≡ 4 * ticket.number + 1) × (look.first ≡ Some ticket.tag.0) × (look.second ≡ Some ticket.tag.1)

-- after so many looks, the slot's word was loaded and was not that of a ready job; or it was, and then an exchange on it found another word
abbrev pub WasMissed : ℕ → Look → Type 0
WasMissed since look = (since < look.look)
    × ((look.word % 4 ≢ 1) ⊎ ((found : Glance) × (look.lost ≡ Some found) × (look.look < found.look) × (found.word ≢ look.word)))

-- the ticket has the number of the next piece to be merged, the tag that its job was published with, and this topic
abbrev pub IsAnswer : {T : Type 0} → View T → T → Ticket T → Type 0
IsAnswer v topic ticket = (tag : Tag) × (get_elem? v.lead.tags v.lead.merged ≡ some tag) × (ticket ≡ record { number = v.lead.merged; tag = tag; topic = topic })

module _ {T : Type 0} where
  -- the seat is one of this ring
  abbrev pub IsOf : RingId T → SeatView T → Type 0
  IsOf ring seat = (seat.table ≡ ring.table) × (seat.view.topic ≡ Some ring.topic)

  -- the seat, with what it knows after a step
  abbrev pub with_view : SeatView T → View T → SeatView T
  with_view seat v = record seat { view = v }

  abbrev pub HoldsNone : SeatView T → Type 0
  HoldsNone seat = seat.view.work.held ≡ None

  -- it holds the job with this ticket's number and tag
  abbrev pub HoldsJob : Ticket T → SeatView T → Type 0
  HoldsJob ticket seat = seat.view.work.held ≡ Some (ticket.number, ticket.tag)

  -- of this ring, and without a job
  abbrev pub IsIdle : RingId T → SeatView T → Type 0
  IsIdle ring seat = IsOf ring seat × HoldsNone seat

  -- how many jobs the lead published, and how many of their pieces it merged
  abbrev pub published_by : SeatView T → ℕ
  published_by lead = length lead.view.lead.tags

  abbrev pub merged_by : SeatView T → ℕ
  merged_by lead = lead.view.lead.merged

  abbrev pub IsOpen : SeatView T → Type 0
  IsOpen lead = lead.view.lead.closed ≡ false

  -- the ring is closed, and all that was published is merged
  abbrev pub IsOver : SeatView T → Type 0
  IsOver lead = (lead.view.lead.closed ≡ true) × (merged_by lead ≡ published_by lead)

  -- nothing was published, and the ring is not closed
  abbrev pub IsFresh : SeatView T → Type 0
  IsFresh lead = (lead.view.lead.tags ≡ []) × (merged_by lead ≡ 0) × IsOpen lead

-- the turns of so many slots, from that of the number n on, each empty
abbrev pub turns : {S : Type 0} → ℕ → ℕ → ℕ → List (ℕ × Option S)
turns slots n zero = []
turns slots n (suc k) = (n % slots, None) ∷ turns slots (suc n) k

-- the turn of the slot of the job that is held, which is empty
abbrev pub turn_of : {S : Type 0} → ℕ → Option (ℕ × Tag) → List (ℕ × Option S)
turn_of slots None = []
turn_of slots (Some h) = (h.0 % slots, None) ∷ []

module _ {T J R : Type 0} where
  abbrev pub IsSame : Seat (Option (Content J R)) (View T) → Seat (Option (Content J R)) (View T) → Type 0
  IsSame old new = (new.table_id ≡ old.table_id) × (new.id ≡ old.id)

  -- a worker's view and turns, in a ring with so many slots
  pub record IsWorking (slots : ℕ) (me : Me (Option (Content J R)) (View T)) : Type 0 where
    pub role : me.0.role ≡ Works
    pub kept : length me.0.work.kept ≡ slots
    pub few : IfSome me.0.work.held (λ h. h.0 < 2 ^ 62)
    pub turns_are : me.1 ≡ turn_of slots me.0.work.held

  -- the lead's: it has the turns of the slots that serve no outstanding job, in the order of the numbers that they serve next
  pub record IsLeading (slots : ℕ) (me : Me (Option (Content J R)) (View T)) : Type 0 where
    pub role : me.0.role ≡ Leads
    pub opened : me.0.lead.opened ≡ slots
    pub kept : length me.0.work.kept ≡ slots
    pub held : me.0.work.held ≡ None
    pub turns_are : me.1 ≡ turns slots (length me.0.lead.tags) (me.0.lead.merged + slots - length me.0.lead.tags)

  -- the same while `create` gives the lead the turns, of which it has so many
  pub record IsOpening (slots opened : ℕ) (topic : T) (me : Me (Option (Content J R)) (View T)) : Type 0 where
    pub role : me.0.role ≡ Leads
    pub told : me.0.topic ≡ Some topic
    pub opened_is : me.0.lead.opened ≡ opened
    pub kept : length me.0.work.kept ≡ slots
    pub held : me.0.work.held ≡ None
    pub tags : me.0.lead.tags ≡ []
    pub merged : me.0.lead.merged ≡ 0
    pub open_is : me.0.lead.closed ≡ false
    pub turns_are : me.1 ≡ turns slots 0 opened

  -- the exchange on the slot i, whose word was found to be `ready`, took the job x out of it
  pub record Wins (job : J → Ticket T) (topic : T) (slots i ready : ℕ) (old new : Me (Option (Content J R)) (View T)) (x : J) : Type 0 where
    pub turn : new.1 ≡ (i, Some (Job x)) ∷ old.1
    pub view : new.0 ≡ takes_job (job x).number (job x).tag old.0
    pub about : (job x).topic ≡ topic
    pub word : 4 * (job x).number + 1 ≡ ready
    pub lies : (job x).number % slots ≡ i
    pub first : (look_at i old.0).first ≡ Some (job x).tag.0
    pub second : (look_at i old.0).second ≡ Some (job x).tag.1
