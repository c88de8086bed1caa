-- The lead's steps keep the ring's rule.
use Rattle.std.proofs.Common.{◌≡◌, ℕ, suc, ◌+◌, ◌*◌, ◌%◌, ◌^◌, ◌<◌, ◌≤◌, ◌≢◌, inl, inr, Bool, true, false, cond, List, [], ◌∷◌, ◌++◌, length, get_or, set, sym, refl, ap, ◌∙◌, subst, ⊎_elim, le_refl, mod-lt, lt_of_not-le, arith, length-append, length-set, get_or-set_other, get_or-set_same}
use mathlib.Core.Path.{Path}
use mathlib.Core.Option.{some, none, some-injective, some-ne-none}
use mathlib.Core.Option as maybe
use mathlib.Core.Logic.{dite}
use native.Mathlib.Nat.{add-mod_right}
use native.Mathlib.Decide.{ℕ_discrete, dec_le}
use lib.ListN.{get_elem?}
use lib.Seq.{set-get_or}
use Rattle.std.specs.Prelude.{Option, Some, None, IfSome}
use Rattle.atomic_table.specs.Table.{State, Me, step, stepped, keeps, takes, gives, Allows, rest, Splits, Joins}
use Rattle.atomic_table.proofs.Lists.{set_here, set_else, set_again, at_longer, at_last, at_snoc, one_turn}
use Rattle.slice_ring.specs.declared.views.Content.{Content}
use Rattle.slice_ring.specs.declared.views.Content.TheVariants.{Job, Piece}
use Rattle.slice_ring.specs.declared.views.Role.TheVariants.{Leads, Works}
use Rattle.slice_ring.specs.declared.views.Lead.{Lead}
use Rattle.slice_ring.specs.declared.views.View.{View}
use Rattle.slice_ring.specs.Rule.{SlotPhase, free, ready, taken, done, Cell, word_of, tag_of, IsUnused, InPhase, SlotHolds, SeatHolds, LeadHolds, RingHolds}
use Rattle.slice_ring.specs.Ticket.{Tag, Ticket}
use Rattle.slice_ring.specs.Steps.{stores_first, stores_second, publishes, stored_first, stored_second, published, merges, glances, collected, opens, opened, closes, closed, works_for, takes_back, spent}
use Rattle.slice_ring.proofs.Stays.{holder, set_at, Onward, Apart, looks_stay, words_same, own_word, tag_same, moved, unmoved}
use Rattle.slice_ring.proofs.Workers.{Goes, rank, no_less, none_some, some_same, there, leader_stays}

pub not_both : (b : Bool) → b ≡ false → b ≡ true → ⊥
not_both b e f = no_less 0 1 (ap (λ (c : Bool). cond c 1 0) (sym e ∙ f)) (omega arith)

-- two numbers of one slot, both from m on and below m + n
pub one_number : (m q p n : ℕ) → m ≤ q → q < m + n → m ≤ p → p < m + n → q % n ≡ p % n → q ≡ p
one_number m q p n a b c d e = dite (dec_le q p) (λ le. one_turn q p n le (omega arith) e) (λ not. let l = lt_of_not-le not in sym (one_turn p q n (omega arith) (omega arith) (sym e)))

pub first_word : (i : ℕ) → Apart i (3 * i + 2)
first_word i j not = ((λ e. omega arith), (λ e. not (omega arith)), λ e. omega arith)

pub second_word : (i : ℕ) → Apart i (3 * i + 3)
second_word i j not = ((λ e. omega arith), (λ e. omega arith), λ e. not (omega arith))

pub not_ready : (m word n : ℕ) → IsUnused m word → word ≢ 4 * n + 1
not_ready m word n (inl z) e = omega arith
not_ready m word n (inr t) e = let k : ℕ = t.0 in let l : word ≡ 4 * k + 3 = t.2 in omega arith

pub onward_like : (slots : ℕ) (l l' : Lead) (i : ℕ) → l'.merged ≡ l.merged → l'.tags ≡ l.tags → l'.opened ≡ l.opened → Onward slots l l' i
onward_like slots l l' i m t o = record {
  merges = subst (λ (z : ℕ). l.merged ≤ z) (sym m) (le_refl l.merged);
  longer = subst (λ (z : List Tag). (n : ℕ) (a : Tag) → get_elem? l.tags n ≡ some a → get_elem? z n ≡ some a) (sym t) (λ n a e. e);
  lengthens = subst (λ (z : List Tag). length l.tags ≤ length z) (sym t) (le_refl (length l.tags));
  unmerged = λ q _ b. subst (λ (z : ℕ). z ≤ q) (sym m) b;
  unpublished = λ q _ b. subst (λ (z : List Tag). length z ≤ q) (sym t) b;
  opens = λ j _ b. subst (λ (z : ℕ). j < z) o b;
  opened = subst (λ (z : ℕ). l.opened ≤ z) (sym o) (le_refl l.opened);
}

module _ {J R T : Type 0} (job : J → Ticket T) (piece : R → Ticket T) (slots : ℕ) (topic : T) where
  abbrev V : Type 0
  V = View T

  abbrev S : Type 0
  S = Option (Content J R)

  abbrev St : Type 0
  St = State S V

  abbrev M : Type 0
  M = Me S V

  abbrev Hs : Type 0
  Hs = List (maybe.Option S)

  abbrev Rule : St → Type 0
  Rule = RingHolds job piece slots topic

  pub is_leader : (s : St) (r : Rule s) (id : ℕ) (v : V) → get_elem? s.views id ≡ some v → v.role ≡ Leads → (id ≡ 0) × (r.leader ≡ v)
  is_leader s r id v at leads = let first = (r.each_seat id v at).leads leads in (first, some-injective r.leader v (sym r.leader_is ∙ ap (get_elem? s.views) (sym first) ∙ at))

  -- a slot whose number isn't published is free
  pub is_free : (lead : Lead) (homes : Hs) (views : List V) (i q word : ℕ) (tag : Tag) → length lead.tags ≤ q → (ph : SlotPhase) → InPhase job piece slots topic lead homes views i q word tag ph
      → (ph ≡ free) × InPhase job piece slots topic lead homes views i q word tag free
  is_free lead homes views i q word tag le free k = (refl, k)
  is_free lead homes views i q word tag le ready k = let p : ℕ = length lead.tags in let l : q < p = there lead.tags q tag k.0 in absurd (omega arith)
  is_free lead homes views i q word tag le (taken j) k = let p : ℕ = length lead.tags in let l : q < p = there lead.tags q tag k.0 in absurd (omega arith)
  is_free lead homes views i q word tag le done k = let p : ℕ = length lead.tags in let l : q < p = there lead.tags q tag k.0 in absurd (omega arith)

  -- the slot of a number that may be outstanding serves that number
  pub serves : (s : St) (r : Rule s) (n : ℕ) → r.leader.lead.merged ≤ n → n < r.leader.lead.merged + slots → ((r.cells (n % slots)).0 ≡ n) × (n % slots < slots)
  serves s r n a b = let near : n % slots < slots = mod-lt n r.some_slot in let ok = r.each_slot (n % slots) near in
      (one_number r.leader.lead.merged (r.cells (n % slots)).0 n slots ok.from ok.below a b ok.lies, near)

  -- a step of the lead on the slot i
  pub lead_moves : (s : St) (r : Rule s) (k x i id : ℕ) (c' : Cell) (homes' : Hs) (v w : V) → length homes' ≡ slots → get_elem? s.views id ≡ some v → v.role ≡ Leads → w.role ≡ Leads → w.topic ≡ v.topic → w.work ≡ v.work
      → LeadHolds job piece slots topic w.lead (set s.words k x) → Onward slots v.lead w.lead i → Apart i k → ((j : ℕ) → j ≢ i → get_elem? homes' j ≡ get_elem? s.homes j)
      → SlotHolds job piece slots topic w.lead (set s.words k x) homes' (set s.views id w) i c' → ((n : ℕ) → n < length v.lead.tags → word_of (set s.words k x) i ≢ 4 * n + 1)
      → holder (r.cells i).1 ≡ 0 → Rule record { words = set s.words k x; homes = homes'; views = set s.views id w }
  lead_moves s r k x i id c' homes' v w long at leads leads' told work lead_holds on apart home slot fresh loose =
      let one = is_leader s r id v at leads in let old = r.each_seat id v at in let words' : List ℕ = set s.words k x in
      let on' : Onward slots r.leader.lead w.lead i = subst (λ (u : V). Onward slots u.lead w.lead i) (sym one.1) on in
      let fresh' : (n : ℕ) → n < length r.leader.lead.tags → word_of words' i ≢ 4 * n + 1 = subst (λ (u : V). (n : ℕ) → n < length u.lead.tags → word_of words' i ≢ 4 * n + 1) (sym one.1) fresh in
      moved job piece slots topic s r k x i id c' homes' v w w long at (subst (λ (z : ℕ). get_elem? (set s.views id w) z ≡ some w) one.0 (set_at s.views id v w at)) leads' lead_holds on' apart home slot fresh'
      (λ j _ e. no_less 0 (suc j) (sym loose ∙ e) (omega arith)) (λ n tag _ h. ap (λ o. o.held) work ∙ h)
      record {
        told = ⊎_elim (λ e. inl (told ∙ e)) (λ e. absurd (no_less 0 2 (ap rank (sym leads ∙ e)) (omega arith))) old.told;
        leads = λ _. one.0;
        holds = λ n tag h. absurd (no_less 0 1 (ap rank (sym leads ∙ (old.holds n tag (sym (ap (λ o. o.held) work) ∙ h)).0)) (omega arith));
        each_look = λ o look e. looks_stay job piece slots topic r.leader.lead w.lead i s.words words' v on'.lengthens (words_same s.words k x i apart) fresh' old.each_look o look (sym (ap (λ u. get_elem? u.kept o) work) ∙ e);
      }

  -- the next job's slot, which is free
  Next : (s : St) → Rule s → V → Type 0
  Next s r v = let p : ℕ = length v.lead.tags in let i : ℕ = p % slots in
      (i < slots) × ((r.cells i).0 ≡ p) × (holder (r.cells i).1 ≡ 0) × InPhase job piece slots topic v.lead s.homes s.views i p (word_of s.words i) (tag_of s.words i) free × LeadHolds job piece slots topic v.lead s.words

  next : (s : St) (r : Rule s) (id : ℕ) (v : V) → get_elem? s.views id ≡ some v → v.role ≡ Leads → length v.lead.tags < v.lead.merged + slots → Next s r v
  unfolding Next
  next s r id v at leads room = let one = (is_leader s r id v at leads).1 in let p : ℕ = length v.lead.tags in let i : ℕ = p % slots in
      let got = serves s r p (subst (λ (u : V). u.lead.merged ≤ p) (sym one) (subst (λ (u : V). u.lead.merged ≤ length u.lead.tags) one r.lead_holds.behind)) (subst (λ (u : V). p < u.lead.merged + slots) (sym one) room) in
      let ok = r.each_slot i got.1 in let c = r.cells i in
      let fr = is_free r.leader.lead s.homes s.views i c.0 (word_of s.words i) (tag_of s.words i) (subst (λ (u : V). length u.lead.tags ≤ c.0) (sym one) (let e : c.0 ≡ p = got.0 in omega arith)) c.1 ok.phase in (
        got.1,
        got.0,
        ap holder fr.0,
        subst (λ (z : V × ℕ). InPhase job piece slots topic z.0.lead s.homes s.views i z.1 (word_of s.words i) (tag_of s.words i) free) (λ a. (one a, got.0 a)) fr.1,
        subst (λ (u : V). LeadHolds job piece slots topic u.lead s.words) one r.lead_holds,
      )

  pub first_stored_allowed : (n id : ℕ) (me : M) (k a : ℕ) → k ≡ 3 * (length me.0.lead.tags % slots) + 2 → me.0.role ≡ Leads → length me.0.lead.tags < me.0.lead.merged + slots
      → Allows Rule n id me k (λ _. a) (λ _ m. stored_first (step n k a 0 none) me a m)
  unfolding Next
  first_stored_allowed n id me k a is leads room s r wide at _ =
      let v : V = me.0 in let w : V = stores_first a v in let p : ℕ = length v.lead.tags in let i : ℕ = p % slots in let nx = next s r id v at leads room in let ok = nx.4 in let fr = nx.3 in
      let long : length s.words ≡ 3 * slots + 1 = r.wide in let near : i < slots = nx.0 in let words' : List ℕ = set s.words (3 * i + 2) a in
      let word : word_of words' i ≡ word_of s.words i = get_or-set_other s.words (3 * i + 2) (3 * i + 1) a 0 (λ e. omega arith) in
      subst (λ (z : ℕ). Goes job piece slots topic s z id me (λ m. stored_first (step n z a 0 none) me a m) a) (sym is) (
        w,
        keeps,
        tt,
        lead_moves s r (3 * i + 2) a i id (p, free) s.homes v w r.long at leads leads refl refl
            record {
              behind = ok.behind;
              within = ok.within;
              few = ok.few;
              first = sym (get_or-set_same s.words (3 * i + 2) a 0 (omega arith));
              second = subst (λ (b : ℕ). IfSome v.lead.second (λ c. c ≡ b)) (sym (get_or-set_other s.words (3 * i + 2) (3 * i + 3) a 0 (λ e. omega arith))) ok.second;
              closing = get_or-set_other s.words (3 * i + 2) 0 a 0 (λ e. omega arith) ∙ ok.closing;
              settled = ok.settled;
            }
            (onward_like slots v.lead w.lead i refl refl refl) (first_word i) (λ _ _. refl)
            record { lies = refl; from = ok.behind; below = room; phase = subst (λ (z : ℕ). InPhase job piece slots topic w.lead s.homes (set s.views id w) i p z (tag_of words' i) free) (sym word) fr }
            (λ q _ e. not_ready v.lead.merged (word_of s.words i) q fr.1 (sym word ∙ e)) nx.2,
        refl,
      )

  pub second_stored_allowed : (n id : ℕ) (me : M) (k a : ℕ) → k ≡ 3 * (length me.0.lead.tags % slots) + 3 → me.0.role ≡ Leads → length me.0.lead.tags < me.0.lead.merged + slots
      → Allows Rule n id me k (λ _. a) (λ _ m. stored_second (step n k a 0 none) me a m)
  unfolding Next
  second_stored_allowed n id me k a is leads room s r wide at _ =
      let v : V = me.0 in let w : V = stores_second a v in let p : ℕ = length v.lead.tags in let i : ℕ = p % slots in let nx = next s r id v at leads room in let ok = nx.4 in let fr = nx.3 in
      let long : length s.words ≡ 3 * slots + 1 = r.wide in let near : i < slots = nx.0 in let words' : List ℕ = set s.words (3 * i + 3) a in
      let word : word_of words' i ≡ word_of s.words i = get_or-set_other s.words (3 * i + 3) (3 * i + 1) a 0 (λ e. omega arith) in
      subst (λ (z : ℕ). Goes job piece slots topic s z id me (λ m. stored_second (step n z a 0 none) me a m) a) (sym is) (
        w,
        keeps,
        tt,
        lead_moves s r (3 * i + 3) a i id (p, free) s.homes v w r.long at leads leads refl refl
            record {
              behind = ok.behind;
              within = ok.within;
              few = ok.few;
              first = subst (λ (b : ℕ). IfSome v.lead.first (λ c. c ≡ b)) (sym (get_or-set_other s.words (3 * i + 3) (3 * i + 2) a 0 (λ e. omega arith))) ok.first;
              second = sym (get_or-set_same s.words (3 * i + 3) a 0 (omega arith));
              closing = get_or-set_other s.words (3 * i + 3) 0 a 0 (λ e. omega arith) ∙ ok.closing;
              settled = ok.settled;
            }
            (onward_like slots v.lead w.lead i refl refl refl) (second_word i) (λ _ _. refl)
            record { lies = refl; from = ok.behind; below = room; phase = subst (λ (z : ℕ). InPhase job piece slots topic w.lead s.homes (set s.views id w) i p z (tag_of words' i) free) (sym word) fr }
            (λ q _ e. not_ready v.lead.merged (word_of s.words i) q fr.1 (sym word ∙ e)) nx.2,
        refl,
      )

  pub publish_allowed : (n id : ℕ) (me : M) (k x : ℕ) (y : J) (tag : Tag) → k ≡ 3 * (length me.0.lead.tags % slots) + 1 → x ≡ 4 * length me.0.lead.tags + 1 → me.0.role ≡ Leads → length me.0.lead.tags < me.0.lead.merged + slots
      → length me.0.lead.tags < 2 ^ 62 → me.0.lead.closed ≡ false → me.0.lead.first ≡ Some tag.0 → me.0.lead.second ≡ Some tag.1 → job y ≡ record { number = length me.0.lead.tags; tag = tag; topic = topic }
      → me.1 ≡ (length me.0.lead.tags % slots, Some (Job y)) ∷ rest me.1 → Allows Rule n id me k (λ _. x) (λ _ m. published (step n k x 0 none) me x m)
  unfolding Next
  publish_allowed n id me k x y tag is more leads room few unclosed first second ticket turn s r wide at _ =
      let v : V = me.0 in let w : V = publishes tag v in let p : ℕ = length v.lead.tags in let i : ℕ = p % slots in let nx = next s r id v at leads room in let ok = nx.4 in let fr = nx.3 in
      let long : length s.words ≡ 3 * slots + 1 = r.wide in let near : i < slots = nx.0 in let new : ℕ = 4 * p + 1 in let words' : List ℕ = set s.words (3 * i + 1) new in let homes : length s.homes ≡ slots = r.long in
      let m : ℕ = v.lead.merged in let behind : m ≤ p = ok.behind in let room' : p < m + slots = room in let few' : p < 2 ^ 62 = few in let longer : length (v.lead.tags ++ tag ∷ []) ≡ p + 1 = length-append v.lead.tags (tag ∷ []) in
      let word : word_of words' i ≡ new = get_or-set_same s.words (3 * i + 1) new 0 (omega arith) in
      let one : tag.0 ≡ (tag_of s.words i).0 = subst (λ (o : Option ℕ). IfSome o (λ a. a ≡ (tag_of s.words i).0)) first ok.first in
      let two : tag.1 ≡ (tag_of s.words i).1 = subst (λ (o : Option ℕ). IfSome o (λ a. a ≡ (tag_of s.words i).1)) second ok.second in
      let same : tag ≡ tag_of words' i = (λ z. (one z, two z)) ∙ sym (tag_same s.words i new i) in
      let homes' : Hs = set s.homes i (some (Some (Job y))) in
      let rule : Rule record { words = words'; homes = homes'; views = set s.views id w } = lead_moves s r (3 * i + 1) new i id (p, ready) homes' v w (length-set s.homes i (some (Some (Job y))) ∙ r.long) at leads leads refl refl
      record {
        behind = (let g : m ≤ length (v.lead.tags ++ tag ∷ []) = omega arith in g);
        within = (let g : length (v.lead.tags ++ tag ∷ []) ≤ m + slots = omega arith in g);
        few = (let g : length (v.lead.tags ++ tag ∷ []) ≤ 2 ^ 62 = omega arith in g);
        first = tt;
        second = tt;
        closing = get_or-set_other s.words (3 * i + 1) 0 new 0 (λ e. omega arith) ∙ ok.closing;
        settled = λ e. absurd (not_both v.lead.closed unclosed e);
      }
      record {
        merges = le_refl m;
        longer = λ q t e. at_longer v.lead.tags (tag ∷ []) q t e;
        lengthens = (let g : p ≤ length (v.lead.tags ++ tag ∷ []) = omega arith in g);
        unmerged = λ q _ l. l;
        unpublished = λ q other l. let ne : q ≢ p = λ e. other (ap (λ (z : ℕ). z % slots) e) in (let g : length (v.lead.tags ++ tag ∷ []) ≤ q = omega arith in g);
        opens = λ j _ l. l;
        opened = le_refl v.lead.opened;
      }
      (own_word i) (λ j other. set_else s.homes i j (some (Some (Job y))) other)
      record {
        lies = refl;
        from = behind;
        below = room;
        phase = (at_last v.lead.tags tag p refl ∙ ap some same, word, (y, set_here s.homes i (some (Some (Job y))) (omega arith), ticket ∙ (λ z. record { number = p; tag = same z; topic = topic })));
      }
      (λ q l e. let l' : q < p = l in let g : 4 * p + 1 ≡ 4 * q + 1 = sym word ∙ e in omega arith) nx.2 in
      subst (λ (z : ℕ × ℕ). Goes job piece slots topic s z.0 id me (λ m. published (step n z.0 z.1 0 none) me z.1 m) z.1) (λ z. (sym is z, sym more z)) (
        w,
        gives,
        tt,
        subst (λ (c : List (ℕ × S)). Rule (stepped s (3 * i + 1) new id c w gives)) (sym turn) rule,
        λ t a b. let t' : tag ≡ t = λ z. (some_same tag.0 t.0 (sym first ∙ a) z, some_same tag.1 t.1 (sym second ∙ b) z) in ap (λ (u : Tag). (publishes u v, rest me.1)) t',
      )

  told_topic : (s : St) (r : Rule s) (id : ℕ) (v : V) (top : T) → get_elem? s.views id ≡ some v → v.role ≡ Leads → v.topic ≡ Some top → topic ≡ top
  told_topic s r id v top at leads told = ⊎_elim (λ e. some_same topic top (sym e ∙ told)) (λ e. absurd (no_less 0 2 (ap rank (sym leads ∙ e)) (omega arith))) (r.each_seat id v at).told

  -- the lead learns something that the rule does not read
  lead_learns : (s : St) (r : Rule s) (k id : ℕ) (cs : List (ℕ × S)) (v w : V) → get_elem? s.views id ≡ some v → v.role ≡ Leads → w.role ≡ Leads → w.topic ≡ v.topic → w.lead ≡ v.lead → w.work ≡ v.work
      → Rule (stepped s k (get_or s.words k 0) id cs w keeps)
  lead_learns s r k id cs v w at leads leads' told lead work = let one = is_leader s r id v at leads in let old = r.each_seat id v at in
      unmoved job piece slots topic s r k id cs v w w at (subst (λ (z : ℕ). get_elem? (set s.views id w) z ≡ some w) one.0 (set_at s.views id v w at)) leads' (lead ∙ ap (λ (u : V). u.lead) (sym one.1)) (λ n tag h. ap (λ o. o.held) work ∙ h)
      record {
        told = ⊎_elim (λ e. inl (told ∙ e)) (λ e. absurd (no_less 0 2 (ap rank (sym leads ∙ e)) (omega arith))) old.told;
        leads = λ _. one.0;
        holds = λ n tag h. absurd (no_less 0 1 (ap rank (sym leads ∙ (old.holds n tag (sym (ap (λ o. o.held) work) ∙ h)).0)) (omega arith));
        each_look = λ o look e. old.each_look o look (sym (ap (λ u. get_elem? u.kept o) work) ∙ e);
      }

  -- a load of the word of the next slot to merge: where the slot is done, the lead gets its turn
  pub collect_allowed : (n id : ℕ) (me : M) (k : ℕ) → k ≡ 3 * (me.0.lead.merged % slots) + 1 → me.0.role ≡ Leads → me.0.lead.merged < length me.0.lead.tags → me.0.lead.opened ≡ slots
      → Allows Rule n id me k (λ x. x) (collected piece (step n k 0 0 none) me)
  collect_allowed n id me k is leads some_out all s r wide at _ =
      let v : V = me.0 in let m : ℕ = v.lead.merged in let p : ℕ = length v.lead.tags in let i : ℕ = m % slots in let one = is_leader s r id v at leads in let x : ℕ = get_or s.words (3 * i + 1) 0 in
      let pos : 0 < slots = r.some_slot in let got = serves s r m (subst (λ (u : V). u.lead.merged ≤ m) (sym one.1) (le_refl m)) (subst (λ (u : V). m < u.lead.merged + slots) (sym one.1) (let g : m < m + slots = omega arith in g)) in
      let near : i < slots = got.1 in let ok = r.each_slot i near in let old = r.each_seat id v at in let out : m < p = some_out in
      let phase : InPhase job piece slots topic v.lead s.homes s.views i m x (tag_of s.words i) (r.cells i).1 =
      subst (λ (z : V × ℕ). InPhase job piece slots topic z.0.lead s.homes s.views i z.1 x (tag_of s.words i) (r.cells i).1) (λ z. (one.1 z, got.0 z)) ok.phase in
      let lok = subst (λ (u : V). LeadHolds job piece slots topic u.lead s.words) one.1 r.lead_holds in
      subst (λ (z : ℕ). Goes job piece slots topic s z id me (collected piece (step n z 0 0 none) me (get_or s.words z 0)) (get_or s.words z 0)) (sym is) (dite (ℕ_discrete x (4 * m + 3))
      (λ hit. let dn = is_done v.lead s.homes s.views i m x (tag_of s.words i) hit out (r.cells i).1 phase in let y : R = dn.1.2.0 in let w : V = merges (3 * i + 1) v in
      let long : length s.words ≡ 3 * slots + 1 = r.wide in let homes : length s.homes ≡ slots = r.long in let within : p ≤ m + slots = lok.within in
      let words' : List ℕ = set s.words (3 * i + 1) x in let word : word_of words' i ≡ x = get_or-set_same s.words (3 * i + 1) x 0 (omega arith) in let same = tag_same s.words i x (p % slots) in (
        w,
        takes i (Some (Piece y)),
        dn.1.2.1,
        lead_moves s r (3 * i + 1) x i id (m + slots, free) (set s.homes i none) v w (length-set s.homes i none ∙ r.long) at leads leads refl refl
            record {
              behind = (let g : m + 1 ≤ p = omega arith in g);
              within = (let g : p ≤ m + 1 + slots = omega arith in g);
              few = lok.few;
              first = subst (λ (t : Tag). IfSome v.lead.first (λ a. a ≡ t.0)) (sym same) lok.first;
              second = subst (λ (t : Tag). IfSome v.lead.second (λ a. a ≡ t.1)) (sym same) lok.second;
              closing = get_or-set_other s.words (3 * i + 1) 0 x 0 (λ e. omega arith) ∙ lok.closing;
              settled = λ e. let same : m ≡ p = lok.settled e in absurd (omega arith);
            }
            record {
              merges = (let g : m ≤ m + 1 = omega arith in g);
              longer = λ q t e. e;
              lengthens = le_refl p;
              unmerged = λ q other l. let ne : q ≢ m = λ e. other (ap (λ (z : ℕ). z % slots) e) in (let g : m + 1 ≤ q = omega arith in g);
              unpublished = λ q _ l. l;
              opens = λ j _ l. l;
              opened = le_refl v.lead.opened;
            }
            (own_word i) (λ j other. set_else s.homes i j none other)
            record {
              lies = add-mod_right m slots;
              from = (let g : m + 1 ≤ m + slots = omega arith in g);
              below = (let g : m + slots < m + 1 + slots = omega arith in g);
              phase = (within, inr (m, (let g : m < m + 1 = omega arith in g), word ∙ hit), (λ _. set_here s.homes i none (omega arith)), λ l. let o : v.lead.opened ≡ slots = all in absurd (omega arith));
            }
            (λ q _ e. let g : 4 * m + 3 ≡ 4 * q + 1 = sym hit ∙ sym word ∙ e in omega arith) (ap holder dn.0),
        λ j top e told. let same_slot : i ≡ j = omega arith in let top' = told_topic s r id v top at leads told in (
          (λ _. (refl, (y, tag_of s.words i, (λ z. (same_slot z, Some (Piece y)) ∷ me.1), dn.1.0, dn.1.2.2 ∙ (λ z. record { number = m; tag = tag_of s.words i; topic = top' z })))),
          λ miss. absurd (miss hit),
        ),
      ))
      (λ miss. let w : V = glances (3 * i + 1) x v in (
        w,
        keeps,
        tt,
        lead_learns s r (3 * i + 1) id me.1 v w at leads leads refl refl refl,
        λ j top e told. ((λ hit. absurd (miss hit)), λ _. refl),
      )))
    where
      is_done : (lead : Lead) (homes : Hs) (views : List V) (i q word : ℕ) (tag : Tag) → word ≡ 4 * q + 3 → q < length lead.tags → (ph : SlotPhase) → InPhase job piece slots topic lead homes views i q word tag ph
          → (ph ≡ done) × InPhase job piece slots topic lead homes views i q word tag done
      is_done lead homes views i q word tag e out free k = let p : ℕ = length lead.tags in let l : p ≤ q = k.0 in let l' : q < p = out in absurd (omega arith)
      is_done lead homes views i q word tag e out ready k = let l : word ≡ 4 * q + 1 = k.1 in absurd (omega arith)
      is_done lead homes views i q word tag e out (taken j) k = let l : word ≡ 4 * q + 2 = k.1 in absurd (omega arith)
      is_done lead homes views i q word tag e out done k = (refl, k)

  -- in `create`: the lead gets the turn of a slot that it has not looked at yet
  pub open_allowed : (n id : ℕ) (me : M) (k : ℕ) → k ≡ 3 * me.0.lead.opened + 1 → me.0.role ≡ Leads → me.0.lead.opened < slots → length me.0.lead.tags ≡ 0
      → Allows Rule n id me k (λ x. x) (opened (step n k 0 0 none) me)
  open_allowed n id me k is leads more blank s r wide at _ =
      let v : V = me.0 in let i : ℕ = v.lead.opened in let w : V = opens v in let one = is_leader s r id v at leads in let near : i < slots = more in let ok = r.each_slot i near in let q : ℕ = (r.cells i).0 in
      let x : ℕ = get_or s.words (3 * i + 1) 0 in let long : length s.words ≡ 3 * slots + 1 = r.wide in let homes : length s.homes ≡ slots = r.long in let lok = subst (λ (u : V). LeadHolds job piece slots topic u.lead s.words) one.1 r.lead_holds in
      let ok' = subst (λ (u : V). SlotHolds job piece slots topic u.lead s.words s.homes s.views i (r.cells i)) one.1 ok in
      let fr = is_free v.lead s.homes s.views i q x (tag_of s.words i) (let p : ℕ = length v.lead.tags in let e : p ≡ 0 = blank in (let g : p ≤ q = omega arith in g)) (r.cells i).1 ok'.phase in
      let words' : List ℕ = set s.words (3 * i + 1) x in let word : word_of words' i ≡ x = get_or-set_same s.words (3 * i + 1) x 0 (omega arith) in let same = tag_same s.words i x (length v.lead.tags % slots) in let empty = fr.1.3 (le_refl i) in
      subst (λ (z : ℕ). Goes job piece slots topic s z id me (opened (step n z 0 0 none) me (get_or s.words z 0)) (get_or s.words z 0)) (sym is) (
        w,
        takes i None,
        empty.1,
        lead_moves s r (3 * i + 1) x i id (q, free) (set s.homes i none) v w (length-set s.homes i none ∙ r.long) at leads leads refl refl
            record {
              behind = lok.behind;
              within = lok.within;
              few = lok.few;
              first = subst (λ (t : Tag). IfSome v.lead.first (λ a. a ≡ t.0)) (sym same) lok.first;
              second = subst (λ (t : Tag). IfSome v.lead.second (λ a. a ≡ t.1)) (sym same) lok.second;
              closing = get_or-set_other s.words (3 * i + 1) 0 x 0 (λ e. omega arith) ∙ lok.closing;
              settled = lok.settled;
            }
            record {
              merges = le_refl v.lead.merged;
              longer = λ q t e. e;
              lengthens = le_refl (length v.lead.tags);
              unmerged = λ q _ l. l;
              unpublished = λ q _ l. l;
              opens = λ j other l. (let g : j < i = omega arith in g);
              opened = (let g : i ≤ i + 1 = omega arith in g);
            }
            (own_word i) (λ j other. set_else s.homes i j none other)
            record { lies = ok'.lies; from = ok'.from; below = ok'.below; phase = (fr.1.0, inl (word ∙ empty.0), (λ _. set_here s.homes i none (omega arith)), λ l. absurd (omega arith)) }
            (λ p _ e. let g : x ≡ 0 = empty.0 in let h : x ≡ 4 * p + 1 = sym word ∙ e in omega arith) (ap holder fr.0),
        λ j e. let same_slot : i ≡ j = omega arith in (λ z. (w, (same_slot z, None) ∷ me.1)),
      )

  -- the lead closes a ring of which nothing is outstanding
  pub close_allowed : (n id : ℕ) (me : M) → me.0.role ≡ Leads → me.0.lead.merged ≡ length me.0.lead.tags → Allows Rule n id me 0 (λ _. 1) (λ _ m. closed (step n 0 1 0 none) me 1 m)
  close_allowed n id me leads settled s r wide at _ =
      let v : V = me.0 in let w : V = closes v in let one = is_leader s r id v at leads in let ok = subst (λ (u : V). SlotHolds job piece slots topic u.lead s.words s.homes s.views 0 (r.cells 0)) one.1 (r.each_slot 0 r.some_slot) in let q : ℕ = (r.cells 0).0 in
      let m : ℕ = v.lead.merged in let p : ℕ = length v.lead.tags in let even : m ≡ p = settled in let from : m ≤ q = ok.from in
      let fr = is_free v.lead s.homes s.views 0 q (word_of s.words 0) (tag_of s.words 0) (let g : p ≤ q = omega arith in g) (r.cells 0).1 ok.phase in
      let lok = subst (λ (u : V). LeadHolds job piece slots topic u.lead s.words) one.1 r.lead_holds in let words' : List ℕ = set s.words 0 1 in let long : length s.words ≡ 3 * slots + 1 = r.wide in
      let word : word_of words' 0 ≡ word_of s.words 0 = get_or-set_other s.words 0 1 1 0 (λ e. omega arith) in
      let same : tag_of words' (p % slots) ≡ tag_of s.words (p % slots) = λ z. (get_or-set_other s.words 0 (3 * (p % slots) + 2) 1 0 (λ e. omega arith) z, get_or-set_other s.words 0 (3 * (p % slots) + 3) 1 0 (λ e. omega arith) z) in (
        w,
        keeps,
        tt,
        lead_moves s r 0 1 0 id (q, free) s.homes v w r.long at leads leads refl refl
            record {
              behind = lok.behind;
              within = lok.within;
              few = lok.few;
              first = subst (λ (t : Tag). IfSome v.lead.first (λ a. a ≡ t.0)) (sym same) lok.first;
              second = subst (λ (t : Tag). IfSome v.lead.second (λ a. a ≡ t.1)) (sym same) lok.second;
              closing = get_or-set_same s.words 0 1 0 (omega arith);
              settled = λ _. settled;
            }
            (onward_like slots v.lead w.lead 0 refl refl refl) (λ j _. ((λ e. omega arith), (λ e. omega arith), λ e. omega arith)) (λ _ _. refl)
            record { lies = ok.lies; from = ok.from; below = ok.below; phase = subst (λ (z : ℕ). InPhase job piece slots topic w.lead s.homes (set s.views id w) 0 q z (tag_of words' 0) free) (sym word) fr.1 }
            (λ n' _ e. not_ready m (word_of s.words 0) n' fr.1.1 (sym word ∙ e)) (ap holder fr.0),
        refl,
      )

  -- the lead makes a worker's seat
  pub split_allowed : (id : ℕ) (v : V) → v.role ≡ Leads → Splits Rule id v v (works_for v)
  split_allowed id v leads s r at = let w : V = works_for v in let old = r.each_seat id v at in
      subst (λ (vs : List V). Rule record { words = s.words; homes = s.homes; views = vs ++ w ∷ [] }) (sym (set_again s.views id v at)) record {
        leader = r.leader;
        cells = r.cells;
        some_slot = r.some_slot;
        wide = r.wide;
        long = r.long;
        leader_is = at_longer s.views (w ∷ []) 0 r.leader r.leader_is;
        leads = r.leads;
        lead_holds = r.lead_holds;
        each_slot = λ j l. let k = r.each_slot j l in record { lies = k.lies; from = k.from; below = k.below; phase = holders (r.cells j).1 j (r.cells j).0 k.phase };
        each_seat = λ j u e. ⊎_elim (λ f. r.each_seat j u f) (λ (f : w ≡ u). subst (SeatHolds job piece slots topic r.leader.lead s.words r.cells j) f record {
          told = ⊎_elim (λ t. inl t) (λ t. absurd (no_less 0 2 (ap rank (sym leads ∙ t)) (omega arith))) old.told;
          leads = λ t. absurd (no_less 0 1 (ap rank (sym t)) (omega arith));
          holds = λ n tag h. absurd (no_less 0 1 (ap rank (sym leads ∙ (old.holds n tag h).0)) (omega arith));
          each_look = old.each_look;
        }) (at_snoc s.views w u j e);
      }
    where
      holders : (ph : SlotPhase) (j n : ℕ) → InPhase job piece slots topic r.leader.lead s.homes s.views j n (word_of s.words j) (tag_of s.words j) ph
          → InPhase job piece slots topic r.leader.lead s.homes (s.views ++ works_for v ∷ []) j n (word_of s.words j) (tag_of s.words j) ph
      holders free j n k = k
      holders ready j n k = k
      holders (taken o) j n k = (k.0, k.1, k.2, (k.3.0, at_longer s.views (works_for v ∷ []) o k.3.0 k.3.1, k.3.2))
      holders done j n k = k

  -- a worker that holds nothing is retired
  pub join_allowed : (id other : ℕ) (v w : V) → v.role ≡ Leads → w.role ≡ Works → w.work.held ≡ None → Joins Rule id v other w (takes_back v) spent
  join_allowed id other v w leads works nothing s r at apart there' =
      let back : V = takes_back v in let views' : List V = set s.views id back in
      let same : Path (List ℕ) (set s.words 0 (get_or s.words 0 0)) s.words = set-get_or s.words 0 0 in
      let s' : St = record { words = s.words; homes = s.homes; views = views' } in
      let r' : Rule s' = subst (λ (ws : List ℕ). Rule record { words = ws; homes = s.homes; views = views' }) same (lead_learns s r 0 id [] v back at leads leads refl refl refl) in
      subst (λ (ws : List ℕ). Rule record { words = ws; homes = s.homes; views = set views' other spent }) same
      (unmoved job piece slots topic s' r' 0 other [] w spent r'.leader there' (leader_stays job piece slots topic s' r' other w spent there' works) r'.leads refl (λ n tag h. absurd (none_some (n, tag) (sym nothing ∙ h))) record {
        told = inr refl;
        leads = λ t. absurd (no_less 0 2 (ap rank (sym t)) (omega arith));
        holds = λ n tag h. absurd (none_some (n, tag) h);
        each_look = λ o look e. absurd (some-ne-none look (sym e));
      })
