-- What each atomic step on the ring's words tells its seat.
use Rattle.std.specs.Prelude.{◌≡◌, ◌≢◌, ℕ, ◌+◌, ◌*◌, ◌%◌, [], ◌∷◌, ◌++◌, Option, Some, None, true, false, replicate, slice_set, slice_index_or}
use mathlib.Core.Option.{some}
use lib.ListN.{get_elem?}
use Rattle.atomic_table.specs.Table.{Me, Step, rest}
use Rattle.slice_ring.specs.declared.views.Content.{Content}
use Rattle.slice_ring.specs.declared.views.Content.TheVariants.{Job, Piece}
use Rattle.slice_ring.specs.declared.views.Look.{Look}
use Rattle.slice_ring.specs.declared.views.Lead.{Lead}
use Rattle.slice_ring.specs.declared.views.Role.TheVariants.{Leads, Works, Spent}
use Rattle.slice_ring.specs.declared.views.View.{View}
use Rattle.slice_ring.specs.Ticket.{Tag, Ticket}

-- nothing was looked at yet
abbrev pub no_look : Look
no_look = record { word = 0; look = 0; first = None; second = None; lost = None }

abbrev pub no_lead : Lead
no_lead = record { merged = 0; tags = []; first = None; second = None; opened = 0; closed = false }

module _ {T : Type 0} where
  -- the lead's view at the start, for so many slots
  abbrev pub begins : ℕ → T → View T
  begins slots topic = record {
    role = Leads;
    topic = Some topic;
    looks = 0;
    lead = no_lead;
    work = record { held = None; kept = replicate slots no_look };
    glance = None;
    retired = 0;
  }

  -- a worker's view, made of the lead's
  abbrev pub works_for : View T → View T
  works_for v = record v { role = Works; looks = 0; lead = no_lead; glance = None; retired = 0 }

  -- the view of a retired worker
  abbrev pub spent : View T
  spent = record { role = Spent; topic = None; looks = 0; lead = no_lead; work = record { held = None; kept = [] }; glance = None; retired = 0 }

  -- what a worker's view keeps of the slot i
  abbrev pub look_at : ℕ → View T → Look
  look_at i v = slice_index_or v.work.kept i no_look

  -- one more look, after which the view keeps this of the slot i
  abbrev pub relooked : ℕ → Look → View T → View T
  relooked i look v = record v { looks = v.looks + 1; work = record { held = v.work.held; kept = slice_set v.work.kept i look } }

  -- a load of the slot's word, which drops the tag words that were kept for it
  abbrev pub sees_word : ℕ → ℕ → View T → View T
  sees_word i found v = relooked i (record { word = found; look = v.looks + 1; first = None; second = None; lost = None }) v

  abbrev pub sees_first : ℕ → ℕ → View T → View T
  sees_first i found v = relooked i (record (look_at i v) { first = Some found }) v

  abbrev pub sees_second : ℕ → ℕ → View T → View T
  sees_second i found v = relooked i (record (look_at i v) { second = Some found }) v

  -- a lost exchange, which found another word
  abbrev pub loses : ℕ → ℕ → View T → View T
  loses i found v = relooked i (record (look_at i v) { lost = Some (record { place = 3 * i + 1; word = found; look = v.looks + 1 }) }) v

  -- a won exchange
  abbrev pub takes_job : ℕ → Tag → View T → View T
  takes_job n tag v = record v { looks = v.looks + 1; work = record { held = Some (n, tag); kept = v.work.kept } }

  -- the store of Done
  abbrev pub finishes : View T → View T
  finishes v = record v { work = record { held = None; kept = v.work.kept } }

  -- a load that is kept, with the place of the word: the next slot's by a lead, the closing word by a worker
  abbrev pub glances : (place found : ℕ) → View T → View T
  glances place found v = record v { looks = v.looks + 1; glance = Some (record { place = place; word = found; look = v.looks + 1 }) }

  -- in `create`, the lead's load that gives it a slot's turn
  abbrev pub opens : View T → View T
  opens v = record v { looks = v.looks + 1; lead = record v.lead { opened = v.lead.opened + 1 } }

  abbrev pub stores_first : ℕ → View T → View T
  stores_first a v = record v { lead = record v.lead { first = Some a } }

  abbrev pub stores_second : ℕ → View T → View T
  stores_second b v = record v { lead = record v.lead { second = Some b } }

  -- the store of Ready
  abbrev pub publishes : Tag → View T → View T
  publishes tag v = record v { lead = record v.lead { tags = v.lead.tags ++ tag ∷ []; first = None; second = None } }

  -- the load that finds the next slot done, with the place of its word
  abbrev pub merges : (place : ℕ) → View T → View T
  merges place v = record (glances place (4 * v.lead.merged + 3) v) { lead = record v.lead { merged = v.lead.merged + 1 } }

  -- the store to the closing word
  abbrev pub closes : View T → View T
  closes v = record v { lead = record v.lead { closed = true } }

  -- the lead takes back the seat of a worker
  abbrev pub takes_back : View T → View T
  takes_back v = record v { retired = v.retired + 1 }

-- of a step, the seat before, the number found or stored, and the seat after
abbrev pub Then : Type 0 → Type 0 → Type 0 → Type 1
Then J R T = Step (Option (Content J R)) → Me (Option (Content J R)) (View T) → ℕ → Me (Option (Content J R)) (View T) → Type 0

module _ {J R T : Type 0} where
  abbrev pub saw_word : Then J R T
  saw_word st m found m' = (i : ℕ) → st.word ≡ 3 * i + 1 → m' ≡ (sees_word i found m.0, m.1)

  abbrev pub saw_first : Then J R T
  saw_first st m found m' = (i : ℕ) → st.word ≡ 3 * i + 2 → m' ≡ (sees_first i found m.0, m.1)

  abbrev pub saw_second : Then J R T
  saw_second st m found m' = (i : ℕ) → st.word ≡ 3 * i + 3 → m' ≡ (sees_second i found m.0, m.1)

  -- Where the word was still the one expected, 4 n + 1, the seat has the slot's turn, and the job that lies there: with the number n, the tag that the seat had loaded, and its topic.
  abbrev pub claimed : (J → Ticket T) → Then J R T
  claimed job st m found m' = (i n : ℕ) (tag : Tag) (topic : T) → st.word ≡ 3 * i + 1 → st.first ≡ 4 * n + 1
      → (look_at i m.0).first ≡ Some tag.0 → (look_at i m.0).second ≡ Some tag.1 → m.0.topic ≡ Some topic
      → (found ≡ st.first → (m'.0 ≡ takes_job n tag m.0) × (n % st.slots ≡ i)
      × ((x : J) × (m'.1 ≡ (i, Some (Job x)) ∷ m.1) × (job x ≡ record { number = n; tag = tag; topic = topic })))
      × (found ≢ st.first → m' ≡ (loses i found m.0, m.1))

  -- the piece's slot goes home
  abbrev pub finished : Then J R T
  finished st m stored m' = m' ≡ (finishes m.0, rest m.1)

  abbrev pub glanced : Then J R T
  glanced st m found m' = m' ≡ (glances st.word found m.0, m.1)

  -- the lead gets the turn of a slot that was empty
  abbrev pub opened : Then J R T
  opened st m found m' = (i : ℕ) → st.word ≡ 3 * i + 1 → m' ≡ (opens m.0, (i, None) ∷ m.1)

  abbrev pub stored_first : Then J R T
  stored_first st m stored m' = m' ≡ (stores_first stored m.0, m.1)

  abbrev pub stored_second : Then J R T
  stored_second st m stored m' = m' ≡ (stores_second stored m.0, m.1)

  -- the job is published with the tag that was stored, and its slot goes home
  abbrev pub published : Then J R T
  published st m stored m' = (tag : Tag) → m.0.lead.first ≡ Some tag.0 → m.0.lead.second ≡ Some tag.1 → m' ≡ (publishes tag m.0, rest m.1)

  -- Where the word was that of the next number, done, the lead has the slot's turn and the piece that lies there: with that number, its tag, and the topic.
  abbrev pub collected : (R → Ticket T) → Then J R T
  collected piece st m found m' = (i : ℕ) (topic : T) → st.word ≡ 3 * i + 1 → m.0.topic ≡ Some topic
      → (found ≡ 4 * m.0.lead.merged + 3 → (m'.0 ≡ merges st.word m.0)
      × ((y : R) × (tag : Tag) × (m'.1 ≡ (i, Some (Piece y)) ∷ m.1) × (get_elem? m.0.lead.tags m.0.lead.merged ≡ some tag)
      × (piece y ≡ record { number = m.0.lead.merged; tag = tag; topic = topic })))
      × (found ≢ 4 * m.0.lead.merged + 3 → m' ≡ (glances st.word found m.0, m.1))

  abbrev pub closed : Then J R T
  closed st m stored m' = m' ≡ (closes m.0, m.1)
