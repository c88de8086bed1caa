-- The steps that are moves of the core.
use Rattle.std.proofs.Common.{◌≡◌, ℕ, zero, suc, ◌+◌, ◌-◌, ◌*◌, ◌%◌, ◌^◌, ◌<◌, ◌≤◌, ◌≢◌, Bool, true, false, cond, not, ◌&&◌, eqb, ltb, List, [], ◌∷◌, ◌++◌, length, drop, map, get_or, set, sym, refl, ap, ◌∙◌, subst, arith, mod-lt, eq-eqb, ne_eqb, lt-ltb, le-ltb, length-append, get_or-set_other, get_or-set_same}
use Rattle.std.specs.List.{range_with_len}
use Rattle.std.proofs.lemmas.List.FromFn.{map-range_with_len_more, length-map-range_with_len, get_or-map-range_with_len}
use mathlib.Core.Option.{some, some-injective, some-ne-none}
use mathlib.Core.Logic.{dite}
use native.Mathlib.Decide.{ℕ_discrete}
use lib.ListN.{get_elem?}
use lib.Seq.{set-get_or}
use Rattle.std.specs.Prelude.{Option, Some, None}
use Rattle.atomic_table.specs.Table.{State}
use Rattle.atomic_table.proofs.Lists.{set_else}
use Rattle.weave_core.specs.declared.moves.Phase.{Phase}
use Rattle.weave_core.specs.declared.moves.Phase.TheVariants.{Absent, Ready, Taken, Done}
use Rattle.weave_core.specs.declared.moves.Move.{Move}
use Rattle.weave_core.specs.declared.moves.Move.TheVariants.{Publish, Claim, Finish, Merge, Close}
use Rattle.weave_core.specs.Moves.{WeaveState, published, phase_of, is_ready, is_taken_by, is_done, is_allowed, after, with_phases}
use Rattle.slice_ring.specs.declared.views.Content.{Content}
use Rattle.slice_ring.specs.declared.views.Lead.{Lead}
use Rattle.slice_ring.specs.declared.views.Role.TheVariants.{Leads, Works}
use Rattle.slice_ring.specs.declared.views.View.{View}
use Rattle.slice_ring.specs.Ticket.{Tag, Ticket}
use Rattle.slice_ring.specs.Rule.{SlotPhase, free, ready, taken, done, Cell, word_of, tag_of, Holds, IsHeldBy, InPhase, LeadHolds, RingHolds}
use Rattle.slice_ring.specs.Steps.{publishes, takes_job, finishes, merges, closes}
use Rattle.slice_ring.specs.Core.{holds_number, lead_of, place_of, phase_by, core_of, HasStepped, MakesMove}
use Rattle.slice_ring.proofs.Stays.{holder, set_at}
use Rattle.slice_ring.proofs.Workers.{no_less, there, not_first, some_same}
use Rattle.slice_ring.proofs.Workers as workers
use Rattle.slice_ring.proofs.Leads.{one_number, serves, is_leader}
use Rattle.slice_ring.proofs.Readings.{by_tests, not_true, holds_this, held_tag, lead_is, place_is, ready_by, taken_by, done_by, one_holder}

-- functions that agree on a range give the same list of it
range_same : (f g : ℕ → Phase) (a k : ℕ) → ((n : ℕ) → a ≤ n → n < a + k → f n ≡ g n) → map f (range_with_len a k) ≡ map g (range_with_len a k)
range_same f g a zero same = refl
range_same f g a (suc k) same = λ z. same a (omega arith) (omega arith) z ∷ range_same f g (a + 1) k (λ n from below. same n (omega arith) (omega arith)) z

-- the same where they differ at one number
range_set : (f g : ℕ → Phase) (x : Phase) (a k j : ℕ) → a ≤ j → j < a + k → g j ≡ x → ((n : ℕ) → n ≢ j → a ≤ n → n < a + k → f n ≡ g n) → set (map f (range_with_len a k)) (j - a) x ≡ map g (range_with_len a k)
range_set f g x a zero j from below here same = absurd (omega arith)
range_set f g x a (suc k) j from below here same = dite (ℕ_discrete j a)
    (λ at. let zero_is : j - a ≡ zero = omega arith in ap (λ (i : ℕ). set (f a ∷ map f (range_with_len (a + 1) k)) i x) zero_is
    ∙ (λ z. sym here z ∷ range_same f g (a + 1) k (λ n from' below'. same n (λ e. omega arith) (omega arith) (omega arith)) z) ∙ ap (λ (n : ℕ). g n ∷ map g (range_with_len (a + 1) k)) at)
    (λ later. let later' : j ≢ a = later in let suc_is : j - a ≡ suc (j - (a + 1)) = omega arith in ap (λ (i : ℕ). set (f a ∷ map f (range_with_len (a + 1) k)) i x) suc_is
    ∙ (λ z. same a (λ e. later' (sym e)) (omega arith) (omega arith) z ∷ range_set f g x (a + 1) k j (omega arith) (omega arith) here (λ n not from' below'. same n not (omega arith) (omega arith)) z))

module _ {T : Type 0} where
  -- a view that holds the number as the one before it did leaves its place
  place_same : (n : ℕ) (views : List (View T)) (place : ℕ) (v w : View T) → get_elem? views place ≡ some v → holds_number n w.work.held ≡ holds_number n v.work.held → place_of n (set views place w) ≡ place_of n views
  place_same n [] place v w at same = refl
  place_same n (u ∷ us) zero v w at same = ap (λ (b : Bool). cond b 0 (suc (place_of n us))) (same ∙ ap (λ (x : View T). holds_number n x.work.held) (sym (some-injective u v at)))
  place_same n (u ∷ us) (suc place) v w at same = ap (λ (p : ℕ). cond (holds_number n u.work.held) 0 (suc p)) (place_same n us place v w at same)

  phase_same : (n : ℕ) (views views' : List (View T)) (word word' : ℕ) → place_of n views' ≡ place_of n views → word' ≡ word → phase_by views n word ≡ phase_by views' n word'
  phase_same n views views' word word' p e = λ z. by_tests (sym p z) (eqb (sym e z) (4 * n + 1)) (eqb (sym e z) (4 * n + 2)) (eqb (sym e z) (4 * n + 3))

  -- the core, by the lead's view, the words and all views
  abbrev phases_at : ℕ → ℕ → ℕ → List ℕ → List (View T) → List Phase
  phases_at slots m k words views = map (λ n. phase_by views n (word_of words (n % slots))) (range_with_len m k)

  abbrev core_at : ℕ → Lead → List ℕ → List (View T) → WeaveState
  core_at slots lead words views = record { limit = slots; merged = lead.merged; phases = phases_at slots lead.merged (length lead.tags - lead.merged) words views; closed = eqb (get_or words 0 0) 1 }

open_closed : (b c : Bool) → b ≡ false → c ≡ true → (not b && c) ≡ true
open_closed false c e f = f
open_closed true c e f = absurd (not_true (sym e))

both : (a b c : Bool) → a ≡ false → b ≡ true → c ≡ true → (not a && b && c) ≡ true
both false true c e f g = g
both false false c e f g = absurd (not_true f)
both true b c e f g = absurd (not_true (sym e))

module _ {J R T : Type 0} (job : J → Ticket T) (piece : R → Ticket T) (slots : ℕ) (topic : T) where
  abbrev V : Type 0
  V = View T

  abbrev St : Type 0
  St = State (Option (Content J R)) V

  abbrev Rule : St → Type 0
  Rule = RingHolds job piece slots topic

  core_is : (s : St) (r : Rule s) → core_of slots s ≡ core_at slots r.leader.lead s.words s.views
  core_is s r = ap (λ (l : Lead). core_at slots l s.words s.views) (lead_is s.views r.leader r.leader_is)

  -- the ring is open in the core where the lead's view is
  open_is : (s : St) (r : Rule s) → r.leader.lead.closed ≡ false → eqb (get_or s.words 0 0) 1 ≡ false
  open_is s r e = ap (λ (z : ℕ). eqb z 1) (r.lead_holds.closing ∙ ap (λ (b : Bool). cond b 1 0) e)

  -- it is open while a slice is outstanding
  is_open : (s : St) (r : Rule s) → r.leader.lead.merged < length r.leader.lead.tags → r.leader.lead.closed ≡ false
  is_open s r out = go r.leader.lead.closed refl
    where
      go : (b : Bool) → r.leader.lead.closed ≡ b → b ≡ false
      go false e = refl
      go true e = absurd (no_less r.leader.lead.merged (length r.leader.lead.tags) (r.lead_holds.settled e) out)

  -- numbers from the merged ones on, of which both may be outstanding, have slots of their own
  apart : (s : St) (r : Rule s) (n q : ℕ) → r.leader.lead.merged ≤ n → n < r.leader.lead.merged + slots → r.leader.lead.merged ≤ q → q < r.leader.lead.merged + slots → q ≢ n → q % slots ≢ n % slots
  apart s r n q a b c d not e = not (one_number r.leader.lead.merged q n slots c d a b e)

  -- an outstanding slice has its phase in the core
  phase_is : (s : St) (r : Rule s) (n : ℕ) (p : Phase) → r.leader.lead.merged ≤ n → n < length r.leader.lead.tags → phase_by s.views n (word_of s.words (n % slots)) ≡ p → phase_of (core_of slots s) n ≡ p
  phase_is s r n p from out is = let m : ℕ = r.leader.lead.merged in let c : ℕ = length r.leader.lead.tags in let a : m ≤ n = from in let b : n < c = out in
      ap (λ (w : WeaveState). phase_of w n) (core_is s r) ∙ ap (λ (t : Bool). cond t Absent (get_or (phases_at slots m (c - m) s.words s.views) (n - m) Absent)) (le-ltb n m a)
      ∙ get_or-map-range_with_len (λ k. phase_by s.views k (word_of s.words (k % slots))) m (c - m) (n - m) n Absent (omega arith) (omega arith) ∙ is

  -- the word of another slot
  other_word : (words : List ℕ) (i j x : ℕ) → j ≢ i → word_of (set words (3 * i + 1) x) j ≡ word_of words j
  other_word words i j x not = get_or-set_other words (3 * i + 1) (3 * j + 1) x 0 (λ e. not (omega arith))

  closing_word : (words : List ℕ) (i x : ℕ) → get_or (set words (3 * i + 1) x) 0 0 ≡ get_or words 0 0
  closing_word words i x = get_or-set_other words (3 * i + 1) 0 x 0 (λ e. omega arith)

  own_word : (s : St) (r : Rule s) (i x : ℕ) → i < slots → word_of (set s.words (3 * i + 1) x) i ≡ x
  own_word s r i x near = let wide : length s.words ≡ 3 * slots + 1 = r.wide in get_or-set_same s.words (3 * i + 1) x 0 (omega arith)

  -- the leader after a step of a seat that has this view afterwards
  leads_after : (s : St) (r : Rule s) (s' : St) (r' : Rule s') (place : ℕ) (v w : V) → get_elem? s.views place ≡ some v → v.role ≡ Leads → s'.views ≡ set s.views place w → (r.leader ≡ v) × (r'.leader ≡ w)
  leads_after s r s' r' place v w at leads views = let one = is_leader job piece slots topic s r place v at leads in (
    one.1,
    some-injective r'.leader w (sym r'.leader_is ∙ ap (λ vs. get_elem? vs 0) views ∙ subst (λ (z : ℕ). get_elem? (set s.views place w) z ≡ some w) one.0 (set_at s.views place v w at)),
  )

  works_after : (s : St) (r : Rule s) (s' : St) (r' : Rule s') (place : ℕ) (v w : V) → get_elem? s.views place ≡ some v → v.role ≡ Works → s'.views ≡ set s.views place w → r'.leader ≡ r.leader
  works_after s r s' r' place v w at works views = some-injective r'.leader r.leader (sym r'.leader_is ∙ ap (λ vs. get_elem? vs 0) views ∙ workers.leader_stays job piece slots topic s r place v w at works)

  pub publishes_move : (s s' : St) → Rule s → Rule s' → (place : ℕ) (v : V) (tag : Tag) → get_elem? s.views place ≡ some v → v.role ≡ Leads
      → HasStepped (3 * (length v.lead.tags % slots) + 1) (4 * length v.lead.tags + 1) place (publishes tag v) s s' → MakesMove slots s Publish s'
  publishes_move s s' r r' place v tag at leads moved =
      let w : V = publishes tag v in let l = leads_after s r s' r' place v w at leads moved.1 in
      let ok = subst (λ (u : V). LeadHolds job piece slots topic u.lead s.words) l.0 r.lead_holds in let ok' = subst (λ (u : V). LeadHolds job piece slots topic u.lead s'.words) l.1 r'.lead_holds in
      let m : ℕ = v.lead.merged in let p : ℕ = length v.lead.tags in let i : ℕ = p % slots in let p' : ℕ = length (v.lead.tags ++ tag ∷ []) in
      let more : p' ≡ p + 1 = length-append v.lead.tags (tag ∷ []) in let behind : m ≤ p = ok.behind in let within : p' ≤ m + slots = ok'.within in let few : p' ≤ 2 ^ 62 = ok'.few in
      let near : i < slots = mod-lt p r.some_slot in
      let f : ℕ → Phase = λ n. phase_by s.views n (word_of s.words (n % slots)) in
      let words' : List ℕ = set s.words (3 * i + 1) (4 * p + 1) in let views' : List V = set s.views place w in
      let g : ℕ → Phase = λ n. phase_by views' n (word_of words' (n % slots)) in
      let same : (n : ℕ) → m ≤ n → n < m + (p - m) → f n ≡ g n = λ n from below. phase_same n s.views views' (word_of s.words (n % slots)) (word_of words' (n % slots)) (place_same n s.views place v w at refl)
      (other_word s.words i (n % slots) (4 * p + 1) (λ e. no_less n p (one_number m n p slots from (omega arith) behind (omega arith) e) (omega arith))) in
      let here : g p ≡ Ready = ready_by views' p (word_of words' (p % slots)) (own_word s r i (4 * p + 1) near) in
      let count : length (phases_at slots m (p - m) s.words s.views) ≡ p - m = length-map-range_with_len f m (p - m) in
      let phases : phases_at slots m (p' - m) words' views' ≡ phases_at slots m (p - m) s.words s.views ++ Ready ∷ [] =
      ap (λ (k : ℕ). map g (range_with_len m k)) (let e : p' - m ≡ p - m + 1 = omega arith in e) ∙ map-range_with_len_more g m (p - m) p (omega arith) ∙ (λ z. sym (range_same f g m (p - m) same) z ++ here z ∷ []) in
      let open' : v.lead.closed ≡ false = ap (λ (u : V). u.lead.closed) (sym l.1) ∙ is_open s' r' (subst (λ (u : V). u.lead.merged < length u.lead.tags) (sym l.1) (let d : m < p' = omega arith in d)) in
      let closed : eqb (get_or s.words 0 0) 1 ≡ false = open_is s r (ap (λ (u : V). u.lead.closed) l.0 ∙ open') in
      let core = core_is s r ∙ ap (λ (u : V). core_at slots u.lead s.words s.views) l.0 in
      let core' = core_is s' r' ∙ (λ z. core_at slots (l.1 z).lead (moved.0 z) (moved.1 z)) in (
        ap (λ c. is_allowed c Publish) core ∙ both (eqb (get_or s.words 0 0) 1) _ _ closed (lt-ltb _ _ (let d : length (phases_at slots m (p - m) s.words s.views) < slots = omega (arith, count) in d))
            (lt-ltb _ _ (let d : m + length (phases_at slots m (p - m) s.words s.views) < 2 ^ 62 = omega (arith, count) in d)),
        core' ∙ (λ z. record { limit = slots; merged = m; phases = phases z; closed = eqb (closing_word s.words i (4 * p + 1) z) 1 }) ∙ sym (ap (λ c. after c Publish) core),
      )

  -- a step of a worker that brings the slice n to another phase
  brings : (s s' : St) (r : Rule s) (r' : Rule s') (place n x : ℕ) (v w : V) (new : Phase) → get_elem? s.views place ≡ some v → v.role ≡ Works → r.leader.lead.merged ≤ n → n < length r.leader.lead.tags
      → HasStepped (3 * (n % slots) + 1) x place w s s' → phase_by (set s.views place w) n x ≡ new → ((q : ℕ) → q ≢ n → holds_number q w.work.held ≡ holds_number q v.work.held)
      → core_of slots s' ≡ with_phases (core_of slots s) (set (core_of slots s).phases (n - (core_of slots s).merged) new)
  brings s s' r r' place n x v w new at works from out moved here others =
      let lead : Lead = r.leader.lead in let m : ℕ = lead.merged in let p : ℕ = length lead.tags in let within : p ≤ m + slots = r.lead_holds.within in let a : m ≤ n = from in let b : n < p = out in
      let i : ℕ = n % slots in let near : i < slots = mod-lt n r.some_slot in let words' : List ℕ = set s.words (3 * i + 1) x in let views' : List V = set s.views place w in
      let f : ℕ → Phase = λ q. phase_by s.views q (word_of s.words (q % slots)) in let g : ℕ → Phase = λ q. phase_by views' q (word_of words' (q % slots)) in
      let same : (q : ℕ) → q ≢ n → m ≤ q → q < m + (p - m) → f q ≡ g q = λ q not c d. phase_same q s.views views' (word_of s.words (q % slots)) (word_of words' (q % slots)) (place_same q s.views place v w at (others q not))
      (other_word s.words i (q % slots) x (apart s r n q a (omega arith) c (omega arith) not)) in
      let new' : g n ≡ new = ap (phase_by views' n) (own_word s r i x near) ∙ here in
      let phases : phases_at slots m (p - m) words' views' ≡ set (phases_at slots m (p - m) s.words s.views) (n - m) new = sym (range_set f g new m (p - m) n a (omega arith) new' same) in
      core_is s' r' ∙ (λ z. core_at slots (works_after s r s' r' place v w at works moved.1 z).lead (moved.0 z) (moved.1 z))
      ∙ (λ z. record { limit = slots; merged = m; phases = phases z; closed = eqb (closing_word s.words i x z) 1 })
      ∙ sym (ap (λ c. with_phases c (set c.phases (n - c.merged) new)) (core_is s r))

  -- the ring is open, and the core has the slice in this phase
  open_core : (s : St) (r : Rule s) (n : ℕ) → r.leader.lead.merged ≤ n → n < length r.leader.lead.tags → (core_of slots s).closed ≡ false
  open_core s r n from out = let m : ℕ = r.leader.lead.merged in let p : ℕ = length r.leader.lead.tags in let a : m ≤ n = from in let b : n < p = out in open_is s r (is_open s r (let d : m < p = omega arith in d))

  pub claims_move : (s s' : St) → Rule s → Rule s' → (place n i : ℕ) (v : V) (tag : Tag) → get_elem? s.views place ≡ some v → v.role ≡ Works → v.work.held ≡ None → i < slots → get_or s.words (3 * i + 1) 0 ≡ 4 * n + 1
      → HasStepped (3 * i + 1) (4 * n + 2) place (takes_job n tag v) s s' → MakesMove slots s (Claim n place) s'
  claims_move s s' r r' place n i v tag at works nothing near word moved =
      let w : V = takes_job n tag v in let lead : Lead = r.leader.lead in let slot = workers.ready_slot job piece slots topic s r i n near word in let ok = r.each_slot i near in
      let lies : n % slots ≡ i = ap (λ (z : ℕ). z % slots) (sym slot.0) ∙ ok.lies in
      let from : lead.merged ≤ n = subst (λ (z : ℕ). lead.merged ≤ z) slot.0 ok.from in let out : n < length lead.tags = there lead.tags n (tag_of s.words i) slot.2.0 in
      let moved' : HasStepped (3 * (n % slots) + 1) (4 * n + 2) place w s s' = subst (λ (z : ℕ). HasStepped (3 * z + 1) (4 * n + 2) place w s s') (sym lies) moved in
      let views' : List V = set s.views place w in let mine : get_elem? views' place ≡ some w = set_at s.views place v w at in
      let taken' : phase_by views' n (4 * n + 2) ≡ Taken place = taken_by views' n (4 * n + 2) refl ∙ ap Taken (place_is n views' place w mine (holds_this n tag w refl)
      (λ k u f e. let t = held_tag n u e in one_holder job piece slots topic s' r' n k place t.0 tag (u, ap (λ vs. get_elem? vs k) moved.1 ∙ f, t.1) (w, ap (λ vs. get_elem? vs place) moved.1 ∙ mine, refl))) in (
        open_closed (core_of slots s).closed (is_ready (phase_of (core_of slots s) n)) (open_core s r n from out) (ap is_ready (phase_is s r n Ready from out (ready_by s.views n (word_of s.words (n % slots)) (ap (word_of s.words) lies ∙ word)))),
        brings s s' r r' place n (4 * n + 2) v w (Taken place) at works from out moved' taken' (λ q not. ne_eqb n q (λ e. not (sym e)) ∙ sym (ap (holds_number q) nothing)),
      )

  pub finishes_move : (s s' : St) → Rule s → Rule s' → (place n : ℕ) (v : V) (tag : Tag) → get_elem? s.views place ≡ some v → Holds n tag v
      → HasStepped (3 * (n % slots) + 1) (4 * n + 3) place (finishes v) s s' → MakesMove slots s (Finish n place) s'
  finishes_move s s' r r' place n v tag at holds moved =
      let w : V = finishes v in let lead : Lead = r.leader.lead in let mine = (r.each_seat place v at).holds n tag holds in let i : ℕ = n % slots in let ok = r.each_slot i (mod-lt n r.some_slot) in
      let phase : InPhase job piece slots topic lead s.homes s.views i n (word_of s.words i) (tag_of s.words i) (taken place) =
      subst (λ (c : Cell). InPhase job piece slots topic lead s.homes s.views i c.0 (word_of s.words i) (tag_of s.words i) c.1) mine.1 ok.phase in
      let from : lead.merged ≤ n = subst (λ (c : Cell). lead.merged ≤ c.0) mine.1 ok.from in let out : n < length lead.tags = there lead.tags n tag mine.2 in
      let taken' : phase_by s.views n (word_of s.words i) ≡ Taken place = taken_by s.views n (word_of s.words i) phase.1 ∙ ap Taken (place_is n s.views place v at (holds_this n tag v holds)
      (λ k u f e. let t = held_tag n u e in one_holder job piece slots topic s r n k place t.0 tag (u, f, t.1) (v, at, holds))) in (
        open_closed (core_of slots s).closed (is_taken_by place (phase_of (core_of slots s) n)) (open_core s r n from out) (ap (is_taken_by place) (phase_is s r n (Taken place) from out taken') ∙ eq-eqb place place refl),
        brings s s' r r' place n (4 * n + 3) v w Done at mine.0 from out moved (done_by (set s.views place w) n (4 * n + 3) refl) (λ q not. sym (ap (holds_number q) holds ∙ ne_eqb n q (λ e. not (sym e)))),
      )

  pub merges_move : (s s' : St) → Rule s → Rule s' → (place : ℕ) (v : V) → get_elem? s.views place ≡ some v → v.role ≡ Leads → get_or s.words (3 * (v.lead.merged % slots) + 1) 0 ≡ 4 * v.lead.merged + 3
      → HasStepped (3 * (v.lead.merged % slots) + 1) (4 * v.lead.merged + 3) place (merges (3 * (v.lead.merged % slots) + 1) v) s s' → MakesMove slots s Merge s'
  merges_move s s' r r' place v at leads word moved =
      let w : V = merges (3 * (v.lead.merged % slots) + 1) v in let l = leads_after s r s' r' place v w at leads moved.1 in
      let ok' = subst (λ (u : V). LeadHolds job piece slots topic u.lead s'.words) l.1 r'.lead_holds in
      let m : ℕ = v.lead.merged in let p : ℕ = length v.lead.tags in let i : ℕ = m % slots in let out : m + 1 ≤ p = ok'.behind in
      let views' : List V = set s.views place w in let words' : List ℕ = set s.words (3 * i + 1) (4 * m + 3) in
      let kept : words' ≡ s.words = ap (set s.words (3 * i + 1)) (sym word) ∙ set-get_or s.words (3 * i + 1) 0 in
      let f : ℕ → Phase = λ n. phase_by s.views n (word_of s.words (n % slots)) in let g : ℕ → Phase = λ n. phase_by views' n (word_of words' (n % slots)) in
      let same : (n : ℕ) → f n ≡ g n = λ n. phase_same n s.views views' (word_of s.words (n % slots)) (word_of words' (n % slots)) (place_same n s.views place v w at refl) (ap (λ ws. word_of ws (n % slots)) kept) in
      let phases : phases_at slots (m + 1) (p - (m + 1)) words' views' ≡ drop 1 (phases_at slots m (p - m) s.words s.views) =
      sym (range_same f g (m + 1) (p - (m + 1)) (λ n _ _. same n)) ∙ sym (ap (λ (k : ℕ). drop 1 (map f (range_with_len m k))) (let e : p - m ≡ suc (p - (m + 1)) = omega arith in e)) in
      let core = core_is s r ∙ ap (λ (u : V). core_at slots u.lead s.words s.views) l.0 in
      let core' = core_is s' r' ∙ (λ z. core_at slots (l.1 z).lead (moved.0 z) (moved.1 z)) in
      let first : r.leader.lead.merged ≡ m = ap (λ (u : V). u.lead.merged) l.0 in let last : m < length r.leader.lead.tags = subst (λ (u : V). m < length u.lead.tags) (sym l.0) (let d : m < p = omega arith in d) in
      let from : r.leader.lead.merged ≤ m = subst (λ (z : ℕ). z ≤ m) (sym first) (let d : m ≤ m = omega arith in d) in
      let lowest : phase_of (core_of slots s) (core_of slots s).merged ≡ Done = ap (phase_of (core_of slots s)) (ap (λ c. c.merged) core) ∙ phase_is s r m Done from last (done_by s.views m (word_of s.words i) word) in (
        open_closed (core_of slots s).closed (is_done (phase_of (core_of slots s) (core_of slots s).merged)) (open_core s r m from last) (ap is_done lowest),
        core' ∙ (λ z. record { limit = slots; merged = m + 1; phases = phases z; closed = eqb (get_or (kept z) 0 0) 1 }) ∙ sym (ap (λ c. after c Merge) core),
      )

  pub closes_move : (s s' : St) → Rule s → Rule s' → (place : ℕ) (v : V) → get_elem? s.views place ≡ some v → v.role ≡ Leads → v.lead.closed ≡ false → HasStepped 0 1 place (closes v) s s' → MakesMove slots s Close s'
  closes_move s s' r r' place v at leads open' moved =
      let w : V = closes v in let l = leads_after s r s' r' place v w at leads moved.1 in
      let ok' = subst (λ (u : V). LeadHolds job piece slots topic u.lead s'.words) l.1 r'.lead_holds in
      let m : ℕ = v.lead.merged in let p : ℕ = length v.lead.tags in let even : m ≡ p = ok'.settled refl in
      let views' : List V = set s.views place w in let words' : List ℕ = set s.words 0 1 in
      let none : (ws : List ℕ) (vs : List V) → phases_at slots m (p - m) ws vs ≡ [] = λ ws vs. ap (λ (k : ℕ). phases_at slots m k ws vs) (let e : p - m ≡ zero = omega arith in e) in
      let wide : length s.words ≡ 3 * slots + 1 = r.wide in let one : get_or words' 0 0 ≡ 1 = get_or-set_same s.words 0 1 0 (omega arith) in
      let core = core_is s r ∙ ap (λ (u : V). core_at slots u.lead s.words s.views) l.0 in
      let core' = core_is s' r' ∙ (λ z. core_at slots (l.1 z).lead (moved.0 z) (moved.1 z)) in (
        ap (λ c. is_allowed c Close) core ∙ open_closed (eqb (get_or s.words 0 0) 1) _ (open_is s r (ap (λ (u : V). u.lead.closed) l.0 ∙ open')) (ap (λ (ps : List Phase). eqb (length ps) 0) (none s.words s.views)),
        core' ∙ (λ z. record { limit = slots; merged = m; phases = (none words' views' ∙ sym (none s.words s.views)) z; closed = (ap (λ (k : ℕ). eqb k 1) one) z }) ∙ sym (ap (λ c. after c Close) core),
      )
