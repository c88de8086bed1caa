-- What the workers' part has to do with a job, and what taking back their seats leaves.
use Rattle.std.specs.Prelude.{◌≡◌, ℕ, ◌+◌, Some}
use Rattle.slice_ring.specs.Ticket.{Ticket}
use Rattle.slice_ring.specs.Seats.{RingId, SeatView, with_view}

-- it may be called with each job of the ring's topic, and gives a piece with the job's number, tag and topic
abbrev pub Answers : {T J P : Type 0} → (J → Ticket T) → (P → Ticket T) → RingId T → (J → Type 0) → (J → P → Type 0) → Type 0
Answers {T} {J} {P} job piece ring pre post =
    ((x : J) → (job x).topic ≡ ring.topic → pre x)
    × ((x : J) (y : P) → (job x).topic ≡ ring.topic → post x y → piece y ≡ job x)

-- a lead's seat, after it took back so many seats
abbrev pub IsSameBut : {T : Type 0} → ℕ → SeatView T → SeatView T → Type 0
IsSameBut n old new = new ≡ with_view old (record old.view { retired = old.view.retired + n })

-- the last word that the seat looked at was the closing word, and it was 1, that of a closed ring
abbrev pub HasSeenClose : {T : Type 0} → SeatView T → Type 0
HasSeenClose seat = seat.view.glance ≡ Some (record { place = 0; word = 1; look = seat.view.looks })
