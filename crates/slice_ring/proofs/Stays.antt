-- What stays of the ring's rule when one slot and one seat move.
use Rattle.std.proofs.Common.{◌≡◌, ℕ, suc, ◌+◌, ◌*◌, ◌%◌, ◌<◌, ◌≤◌, ◌≢◌, inl, inr, List, [], ◌∷◌, zero, length, get_or, set, sym, refl, ap, ◌∙◌, subst, ⊎_elim, arith, length-set, get_or-set_other}
use mathlib.Core.Path.{Path}
use mathlib.Core.Option.{some, some-injective, some-ne-none}
use mathlib.Core.Option as maybe
use mathlib.Core.Logic.{dite}
use native.Mathlib.Decide.{ℕ_discrete}
use lib.ListN.{get_elem?}
use lib.Seq.{set-get_or}
use Rattle.std.specs.Prelude.{Option}
use Rattle.atomic_table.specs.Table.{State, keeps, stepped}
use Rattle.atomic_table.proofs.Lists.{at_set, set_else}
use Rattle.slice_ring.specs.declared.views.Content.{Content}
use Rattle.slice_ring.specs.declared.views.Role.TheVariants.{Leads}
use Rattle.slice_ring.specs.declared.views.Lead.{Lead}
use Rattle.slice_ring.specs.declared.views.View.{View}
use Rattle.slice_ring.specs.declared.views.Look.{Look}
use Rattle.slice_ring.specs.Rule.{SlotPhase, free, ready, taken, done, Cell, word_of, tag_of, Holds, IsHeldBy, IsUnused, LookHolds, InPhase, SlotHolds, SeatHolds, LeadHolds, RingHolds}
use Rattle.slice_ring.specs.Ticket.{Tag, Ticket}

abbrev pub pick : {P : Type 0} → Dec P → Cell → Cell → Cell
pick (yes _) a b = a
pick (no _) a b = b

pub put : (ℕ → Cell) → ℕ → Cell → ℕ → Cell
put cells i c j = pick (ℕ_discrete j i) c (cells j)

-- what holds of the new cell at i, and of each other cell, holds after
pub at_put : (cells : ℕ → Cell) (i : ℕ) (c : Cell) (F : ℕ → Cell → Type 0) (j : ℕ) → F i c → (j ≢ i → F j (cells j)) → F j (put cells i c j)
unfolding put
at_put cells i c F j here other = go (ℕ_discrete j i)
  where
    go : (d : Dec (j ≡ i)) → F j (pick d c (cells j))
    go (yes e) = subst (λ (k : ℕ). F k c) (sym e) here
    go (no n) = other n

pub put_here : (cells : ℕ → Cell) (i : ℕ) (c : Cell) → Path Cell (put cells i c i) c
put_here cells i c = at_put cells i c (λ q x. q ≡ i → Path Cell x c) i (λ _. refl) (λ n. absurd (n refl)) refl

-- who has taken a slot, if anyone: 0, or the seat's number and 1
abbrev pub holder : SlotPhase → ℕ
holder free = 0
holder ready = 0
holder (taken j) = suc j
holder done = 0

pub set_at : {A : Type 0} (l : List A) (i : ℕ) (a b : A) → get_elem? l i ≡ some a → get_elem? (set l i b) i ≡ some b
set_at [] i a b e = absurd (some-ne-none a (sym e))
set_at (x ∷ xs) zero a b e = refl
set_at (x ∷ xs) (suc i) a b e = set_at xs i a b e

abbrev pub Longer : List Tag → List Tag → Type 0
Longer tags tags' = (n : ℕ) (t : Tag) → get_elem? tags n ≡ some t → get_elem? tags' n ≡ some t

-- the lead's account goes on, and the numbers of the slots other than i stay on their side of both bounds
pub record Onward (slots : ℕ) (lead lead' : Lead) (i : ℕ) : Type 0 where
  pub merges : lead.merged ≤ lead'.merged
  pub longer : Longer lead.tags lead'.tags
  pub lengthens : length lead.tags ≤ length lead'.tags
  pub unmerged : (q : ℕ) → q % slots ≢ i → lead.merged ≤ q → lead'.merged ≤ q
  pub unpublished : (q : ℕ) → q % slots ≢ i → length lead.tags ≤ q → length lead'.tags ≤ q
  pub opens : (j : ℕ) → j ≢ i → j < lead'.opened → j < lead.opened
  pub opened : lead.opened ≤ lead'.opened

pub unused_stays : (m m' word : ℕ) → m ≤ m' → IsUnused m word → IsUnused m' word
unused_stays m m' word le (inl e) = inl e
unused_stays m m' word le (inr t) = let k : ℕ = t.0 in let l : k < m = t.1 in inr (k, (let g : k < m' = omega arith in g), t.2)

-- a word k of the slot i, or of none
abbrev pub Apart : ℕ → ℕ → Type 0
Apart i k = (j : ℕ) → j ≢ i → (3 * j + 1 ≢ k) × (3 * j + 2 ≢ k) × (3 * j + 3 ≢ k)

pub words_same : (words : List ℕ) (k x i : ℕ) → Apart i k → (o : ℕ) → o ≢ i → (word_of (set words k x) o ≡ word_of words o) × (tag_of (set words k x) o ≡ tag_of words o)
words_same words k x i apart o not = let a = apart o not in
    (get_or-set_other words k (3 * o + 1) x 0 a.0, λ z. (get_or-set_other words k (3 * o + 2) x 0 a.1 z, get_or-set_other words k (3 * o + 3) x 0 a.2 z))

-- a step on the word of the slot i changes no tag word and not the closing word
pub own_word : (i : ℕ) → Apart i (3 * i + 1)
own_word i j not = ((λ e. not (omega arith)), (λ e. omega arith), λ e. omega arith)

pub tag_same : (words : List ℕ) (i x j : ℕ) → tag_of (set words (3 * i + 1) x) j ≡ tag_of words j
tag_same words i x j z = (get_or-set_other words (3 * i + 1) (3 * j + 2) x 0 (λ e. omega arith) z, get_or-set_other words (3 * i + 1) (3 * j + 3) x 0 (λ e. omega arith) z)

module _ {J R T : Type 0} (job : J → Ticket T) (piece : R → Ticket T) (slots : ℕ) (topic : T) where
  abbrev V : Type 0
  V = View T

  abbrev pub St : Type 0
  St = State (Option (Content J R)) V

  abbrev pub Hs : Type 0
  Hs = List (maybe.Option (Option (Content J R)))

  phase_stays : (lead lead' : Lead) (i j : ℕ) (on : Onward slots lead lead' i) (homes homes' : Hs) (views views' : List V) (n word : ℕ) (tag : Tag) → j ≢ i → n % slots ≡ j
      → get_elem? homes' j ≡ get_elem? homes j → ((o : ℕ) → IsHeldBy views n tag o → IsHeldBy views' n tag o)
      → (ph : SlotPhase) → InPhase job piece slots topic lead homes views j n word tag ph → InPhase job piece slots topic lead' homes' views' j n word tag ph
  phase_stays lead lead' i j on homes homes' views views' n word tag other lies same held free k = (
    on.unpublished n (λ e. other (sym lies ∙ e)) k.0,
    unused_stays lead.merged lead'.merged word on.merges k.1,
    (λ l. same ∙ k.2 (on.opens j other l)),
    λ l. let old : lead.opened ≤ lead'.opened = on.opened in let l' : lead'.opened ≤ j = l in let got = k.3 (let g : lead.opened ≤ j = omega arith in g) in (got.0, same ∙ got.1),
  )
  phase_stays lead lead' i j on homes homes' views views' n word tag other lies same held ready k = (on.longer n tag k.0, k.1, (k.2.0, same ∙ k.2.1, k.2.2))
  phase_stays lead lead' i j on homes homes' views views' n word tag other lies same held (taken o) k = (on.longer n tag k.0, k.1, same ∙ k.2, held o k.3)
  phase_stays lead lead' i j on homes homes' views views' n word tag other lies same held done k = (on.longer n tag k.0, k.1, (k.2.0, same ∙ k.2.1, k.2.2))

  -- a slot that a step does not touch
  slot_stays : (lead lead' : Lead) (i j : ℕ) (on : Onward slots lead lead' i) (words words' : List ℕ) (homes homes' : Hs) (views views' : List V) (c : Cell) → j ≢ i
      → word_of words' j ≡ word_of words j → tag_of words' j ≡ tag_of words j → get_elem? homes' j ≡ get_elem? homes j
      → ((n o : ℕ) (tag : Tag) → n % slots ≢ i → IsHeldBy views n tag o → IsHeldBy views' n tag o)
      → SlotHolds job piece slots topic lead words homes views j c → SlotHolds job piece slots topic lead' words' homes' views' j c
  slot_stays lead lead' i j on words words' homes homes' views views' c other word tag same held k =
      let q : ℕ = c.0 in let m : ℕ = lead.merged in let m' : ℕ = lead'.merged in let le : m ≤ m' = on.merges in let b : q < m + slots = k.below in
      record {
        lies = k.lies;
        from = on.unmerged c.0 (λ e. other (sym k.lies ∙ e)) k.from;
        below = (let g : q < m' + slots = omega arith in g);
        phase = subst (λ (z : ℕ × Tag). InPhase job piece slots topic lead' homes' views' j c.0 z.0 z.1 c.1) (λ a. (sym word a, sym tag a))
            (phase_stays lead lead' i j on homes homes' views views' c.0 (word_of words j) (tag_of words j) other k.lies same (λ o. held c.0 o (tag_of words j) (λ e. other (sym k.lies ∙ e))) c.1 k.phase);
      }

  look_stays : (lead lead' : Lead) (word word' : ℕ) (tag tag' : Tag) (look : Look) → length lead.tags ≤ length lead'.tags → word' ≡ word → tag' ≡ tag → LookHolds lead word tag look → LookHolds lead' word' tag' look
  look_stays lead lead' word word' tag tag' look le e e' k = subst (λ (z : ℕ × Tag). LookHolds lead' z.0 z.1 look) (λ a. (sym e a, sym e' a)) record {
    published = λ n is. let p : ℕ = length lead.tags in let p' : ℕ = length lead'.tags in let g : n < p = k.published n is in (let h : n < p' = omega arith in h);
    first = k.first;
    second = k.second;
  }

  look_passes : (lead lead' : Lead) (word word' : ℕ) (tag tag' : Tag) (look : Look) → length lead.tags ≤ length lead'.tags → ((n : ℕ) → n < length lead.tags → word' ≢ 4 * n + 1) → LookHolds lead word tag look → LookHolds lead' word' tag' look
  look_passes lead lead' word word' tag tag' look le fresh k = record {
    published = λ n is. let p : ℕ = length lead.tags in let p' : ℕ = length lead'.tags in let g : n < p = k.published n is in (let h : n < p' = omega arith in h);
    first = λ n is e. absurd (fresh n (k.published n is) e);
    second = λ n is e. absurd (fresh n (k.published n is) e);
  }

  abbrev pub Looks : Lead → List ℕ → V → Type 0
  Looks lead words v = (o : ℕ) (look : Look) → get_elem? v.work.kept o ≡ some look → LookHolds lead (word_of words o) (tag_of words o) look

  pub looks_stay : (lead lead' : Lead) (i : ℕ) (words words' : List ℕ) (v : V) → length lead.tags ≤ length lead'.tags
      → ((o : ℕ) → o ≢ i → (word_of words' o ≡ word_of words o) × (tag_of words' o ≡ tag_of words o)) → ((n : ℕ) → n < length lead.tags → word_of words' i ≢ 4 * n + 1) → Looks lead words v → Looks lead' words' v
  looks_stay lead lead' i words words' v le same fresh k o look e = dite (ℕ_discrete o i)
      (λ is. look_passes lead lead' (word_of words o) (word_of words' o) (tag_of words o) (tag_of words' o) look le (subst (λ (z : ℕ). (n : ℕ) → n < length lead.tags → word_of words' z ≢ 4 * n + 1) (sym is) fresh) (k o look e))
      (λ not. let w = same o not in look_stays lead lead' (word_of words o) (word_of words' o) (tag_of words o) (tag_of words' o) look le w.0 w.1 (k o look e))

  -- another seat, while the slot i goes on to c'
  seat_stays : (lead lead' : Lead) (i : ℕ) (words words' : List ℕ) (cells : ℕ → Cell) (c' : Cell) (j : ℕ) (v : V) → length lead.tags ≤ length lead'.tags → Longer lead.tags lead'.tags
      → ((o : ℕ) → o ≢ i → (word_of words' o ≡ word_of words o) × (tag_of words' o ≡ tag_of words o)) → ((n : ℕ) → n < length lead.tags → word_of words' i ≢ 4 * n + 1)
      → holder (cells i).1 ≢ suc j → SeatHolds job piece slots topic lead words cells j v → SeatHolds job piece slots topic lead' words' (put cells i c') j v
  seat_stays lead lead' i words words' cells c' j v le longer same fresh loose k = record {
    told = k.told;
    leads = k.leads;
    holds = λ n tag h. let old = k.holds n tag h in (
      old.0,
      at_put cells i c' (λ q c. q ≡ n % slots → Path Cell c (n, taken j)) (n % slots) (λ is. absurd (loose (ap (λ (z : Cell). holder z.1) (ap cells is ∙ old.1)))) (λ _ _. old.1) refl,
      longer n tag old.2,
    );
    each_look = looks_stay lead lead' i words words' v le same fresh k.each_look;
  }

  pub held_stays : (views : List V) (me n o : ℕ) (tag : Tag) (v w : V) → get_elem? views me ≡ some v → (Holds n tag v → Holds n tag w) → IsHeldBy views n tag o → IsHeldBy (set views me w) n tag o
  held_stays views me n o tag v w at keep h = dite (ℕ_discrete o me)
      (λ is. (w, subst (λ (z : ℕ). get_elem? (set views me w) z ≡ some w) (sym is) (set_at views me v w at), keep (subst (Holds n tag) (some-injective h.0 v (sym h.1 ∙ ap (get_elem? views) is ∙ at)) h.2)))
      (λ not. (h.0, set_else views me o w not ∙ h.1, h.2))

  -- a step of the seat me on the slot i, which goes on to c'
  pub moved : (s : St) (r : RingHolds job piece slots topic s) (k x i me : ℕ) (c' : Cell) (homes' : Hs) (v w leader' : V) → length homes' ≡ slots → get_elem? s.views me ≡ some v
      → get_elem? (set s.views me w) 0 ≡ some leader' → leader'.role ≡ Leads → LeadHolds job piece slots topic leader'.lead (set s.words k x) → Onward slots r.leader.lead leader'.lead i
      → Apart i k → ((j : ℕ) → j ≢ i → get_elem? homes' j ≡ get_elem? s.homes j)
      → SlotHolds job piece slots topic leader'.lead (set s.words k x) homes' (set s.views me w) i c' → ((n : ℕ) → n < length r.leader.lead.tags → word_of (set s.words k x) i ≢ 4 * n + 1)
      → ((j : ℕ) → j ≢ me → holder (r.cells i).1 ≢ suc j) → ((n : ℕ) (tag : Tag) → n % slots ≢ i → Holds n tag v → Holds n tag w)
      → SeatHolds job piece slots topic leader'.lead (set s.words k x) (put r.cells i c') me w → RingHolds job piece slots topic record { words = set s.words k x; homes = homes'; views = set s.views me w }
  moved s r k x i me c' homes' v w leader' long at is leads lead_holds on apart home slot fresh loose keep mine =
      let words' : List ℕ = set s.words k x in
      let same = words_same s.words k x i apart in
      record {
        leader = leader';
        cells = put r.cells i c';
        some_slot = r.some_slot;
        wide = length-set s.words k x ∙ r.wide;
        long = long;
        leader_is = is;
        leads = leads;
        lead_holds = lead_holds;
        each_slot = λ j l. at_put r.cells i c' (SlotHolds job piece slots topic leader'.lead words' homes' (set s.views me w)) j slot (λ other. let w' = same j other in
            slot_stays r.leader.lead leader'.lead i j on s.words words' s.homes homes' s.views (set s.views me w) (r.cells j) other w'.0 w'.1 (home j other)
            (λ n o tag not. held_stays s.views me n o tag v w at (keep n tag not)) (r.each_slot j l));
        each_seat = λ j u e. ⊎_elim (λ (t : (j ≡ me) × (w ≡ u)). subst (λ (y : ℕ × V). SeatHolds job piece slots topic leader'.lead words' (put r.cells i c') y.0 y.1) (λ a. (sym t.0 a, t.1 a)) mine)
            (λ (t : (j ≢ me) × (get_elem? s.views j ≡ some u)). seat_stays r.leader.lead leader'.lead i s.words words' r.cells c' j u on.lengthens on.longer same fresh (loose j t.0) (r.each_seat j u t.1))
            (at_set s.views me j w u e);
      }

  -- a step that changes no word and no slot
  pub unmoved : (s : St) (r : RingHolds job piece slots topic s) (i me : ℕ) (cs : List (ℕ × Option (Content J R))) (v w leader' : V) → get_elem? s.views me ≡ some v → get_elem? (set s.views me w) 0 ≡ some leader' → leader'.role ≡ Leads → leader'.lead ≡ r.leader.lead
      → ((n : ℕ) (tag : Tag) → Holds n tag v → Holds n tag w) → SeatHolds job piece slots topic r.leader.lead s.words r.cells me w → RingHolds job piece slots topic (stepped s i (get_or s.words i 0) me cs w keeps)
  unmoved s r i me cs v w leader' at is leads same keep mine = subst (λ (ws : List ℕ). RingHolds job piece slots topic record { words = ws; homes = s.homes; views = set s.views me w }) (sym (set-get_or s.words i 0))
      record {
        leader = leader';
        cells = r.cells;
        some_slot = r.some_slot;
        wide = r.wide;
        long = r.long;
        leader_is = is;
        leads = leads;
        lead_holds = subst (λ (l : Lead). LeadHolds job piece slots topic l s.words) (sym same) r.lead_holds;
        each_slot = subst (λ (l : Lead). (j : ℕ) → j < slots → SlotHolds job piece slots topic l s.words s.homes (set s.views me w) j (r.cells j)) (sym same) (λ j l. let k = r.each_slot j l in
            record { lies = k.lies; from = k.from; below = k.below; phase = holders (r.cells j).1 j (r.cells j).0 k.phase });
        each_seat = subst (λ (l : Lead). (j : ℕ) (u : V) → get_elem? (set s.views me w) j ≡ some u → SeatHolds job piece slots topic l s.words r.cells j u) (sym same) (λ j u e.
            ⊎_elim (λ (t : (j ≡ me) × (w ≡ u)). subst (λ (y : ℕ × V). SeatHolds job piece slots topic r.leader.lead s.words r.cells y.0 y.1) (λ a. (sym t.0 a, t.1 a)) mine)
            (λ (t : (j ≢ me) × (get_elem? s.views j ≡ some u)). r.each_seat j u t.1) (at_set s.views me j w u e));
      }
    where
      holders : (ph : SlotPhase) (j n : ℕ) → InPhase job piece slots topic r.leader.lead s.homes s.views j n (word_of s.words j) (tag_of s.words j) ph
          → InPhase job piece slots topic r.leader.lead s.homes (set s.views me w) j n (word_of s.words j) (tag_of s.words j) ph
      holders free j n k = k
      holders ready j n k = k
      holders (taken o) j n k = (k.0, k.1, k.2, held_stays s.views me n o (tag_of s.words j) v w at (keep n (tag_of s.words j)) k.3)
      holders done j n k = k
