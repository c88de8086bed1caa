-- The steps of a worker's claim keep the ring's rule.
use Rattle.std.proofs.Common.{◌≡◌, ℕ, zero, suc, ◌+◌, ◌*◌, ◌%◌, ◌<◌, ◌≤◌, ◌≢◌, eqb, List, [], ◌∷◌, length, get_or, set, sym, refl, ap, ◌∙◌, subst, ⊎_elim, le_refl, mod-lt, arith, length-set, get_or-set_other, get_or-set_same}
use mathlib.Core.Option.{some, none, some-injective, some-ne-none}
use lib.ListN.{get_elem?}
use prog.Atomic.{either}
use Rattle.std.specs.Prelude.{Option, Some, None, IfSome}
use Rattle.atomic_table.specs.Table.{State, Me, step, stepped, Act, keeps, takes, gives, Valid, Allows, carried_after, rest}
use Rattle.atomic_table.proofs.Lists.{at_set, set_here, set_else, exchanged}
use Rattle.slice_ring.specs.declared.views.Content.{Content}
use Rattle.slice_ring.specs.declared.views.Content.TheVariants.{Job, Piece}
use Rattle.slice_ring.specs.declared.views.Role.{Role}
use Rattle.slice_ring.specs.declared.views.Role.TheVariants.{Leads, Works, Spent}
use Rattle.slice_ring.specs.declared.views.Lead.{Lead}
use Rattle.slice_ring.specs.declared.views.Look.{Look}
use Rattle.slice_ring.specs.declared.views.View.{View}
use Rattle.slice_ring.specs.Rule.{SlotPhase, free, ready, taken, done, Cell, word_of, tag_of, LookHolds, InPhase, LeadHolds, RingHolds}
use Rattle.slice_ring.specs.Ticket.{Tag, Ticket}
use Rattle.slice_ring.specs.Steps.{look_at, relooked, sees_word, sees_first, sees_second, loses, takes_job, finishes, glances, saw_word, saw_first, saw_second, claimed, finished, glanced}
use Rattle.slice_ring.proofs.Stays.{put, put_here, holder, set_at, Onward, looks_stay, words_same, own_word, tag_same, moved, unmoved}

abbrev pub rank : Role → ℕ
rank Leads = 0
rank Works = 1
rank Spent = 2

pub no_less : (a b : ℕ) → a ≡ b → a < b → ⊥
no_less a b e l = omega arith

abbrev size : {A : Type 0} → Option A → ℕ
size None = 0
size (Some x) = 1

abbrev the : {A : Type 0} → A → Option A → A
the y None = y
the y (Some x) = x

pub none_some : {A : Type 0} (x : A) → None ≡ Some x → ⊥
none_some x e = no_less 0 1 (ap size e) (omega arith)

pub some_same : {A : Type 0} (x y : A) → Some x ≡ Some y → x ≡ y
some_same x y e = ap (the x) e

pub there : {A : Type 0} (l : List A) (i : ℕ) (a : A) → get_elem? l i ≡ some a → i < length l
there [] i a e = absurd (some-ne-none a (sym e))
there (x ∷ xs) zero a e = omega arith
there (x ∷ xs) (suc i) a e = let l = there xs i a e in omega arith

pub kept_at : {A : Type 0} (l : List A) (i : ℕ) (d : A) → i < length l → get_elem? l i ≡ some (get_or l i d)
kept_at [] i d h = absurd (omega arith)
kept_at (x ∷ xs) zero d h = refl
kept_at (x ∷ xs) (suc i) d h = kept_at xs i d (omega arith)

pub onward_same : (slots : ℕ) (lead : Lead) (i : ℕ) → Onward slots lead lead i
onward_same slots lead i = record {
  merges = le_refl lead.merged;
  longer = λ n t e. e;
  lengthens = le_refl (length lead.tags);
  unmerged = λ q _ l. l;
  unpublished = λ q _ l. l;
  opens = λ j _ l. l;
  opened = le_refl lead.opened;
}

module _ {J R T : Type 0} (job : J → Ticket T) (piece : R → Ticket T) (slots : ℕ) (topic : T) where
  abbrev V : Type 0
  V = View T

  abbrev S : Type 0
  S = Option (Content J R)

  abbrev St : Type 0
  St = State S V

  abbrev M : Type 0
  M = Me S V

  abbrev Rule : St → Type 0
  Rule = RingHolds job piece slots topic

  -- what a step owes, once the state is known
  abbrev pub Goes : St → ℕ → ℕ → M → (M → Type 0) → ℕ → Type 0
  Goes s k id me then x = (w : V) × (a : Act S) × Valid s.homes me.1 a × Rule (stepped s k x id me.1 w a) × then (w, carried_after me.1 a)

  -- a worker isn't the first seat
  pub not_first : (s : St) (r : Rule s) (id : ℕ) (v : V) → get_elem? s.views id ≡ some v → v.role ≡ Works → 0 ≢ id
  not_first s r id v at works e = let same : r.leader ≡ v = some-injective r.leader v (sym r.leader_is ∙ ap (get_elem? s.views) e ∙ at) in
      no_less 0 1 (ap rank (sym r.leads ∙ ap (λ (u : V). u.role) same ∙ works)) (omega arith)

  pub leader_stays : (s : St) (r : Rule s) (id : ℕ) (v w : V) → get_elem? s.views id ≡ some v → v.role ≡ Works → get_elem? (set s.views id w) 0 ≡ some r.leader
  leader_stays s r id v w at works = set_else s.views id 0 w (not_first s r id v at works) ∙ r.leader_is

  -- a slot whose word is 4 n + 1 is ready with the number n
  pub is_ready : (lead : Lead) (homes : _) (views : List V) (i q n word : ℕ) (tag : Tag) → word ≡ 4 * n + 1 → (ph : SlotPhase) → InPhase job piece slots topic lead homes views i q word tag ph
      → (q ≡ n) × (ph ≡ ready) × InPhase job piece slots topic lead homes views i n word tag ready
  is_ready lead homes views i q n word tag e free k = ⊎_elim (λ z. absurd (omega arith)) (λ z. let l : word ≡ 4 * z.0 + 3 = z.2 in let j : ℕ = z.0 in absurd (omega arith)) k.1
  is_ready lead homes views i q n word tag e ready k = let l : word ≡ 4 * q + 1 = k.1 in let same : q ≡ n = omega arith in
      (same, refl, subst (λ (z : ℕ). InPhase job piece slots topic lead homes views i z word tag ready) same k)
  is_ready lead homes views i q n word tag e (taken j) k = let l : word ≡ 4 * q + 2 = k.1 in absurd (omega arith)
  is_ready lead homes views i q n word tag e done k = let l : word ≡ 4 * q + 3 = k.1 in absurd (omega arith)

  -- a worker sees something of the slot i, or loses it
  relooks : (s : St) (r : Rule s) (k id : ℕ) (me : M) (then : M → Type 0) (i : ℕ) (look : Look) → get_elem? s.views id ≡ some me.0 → me.0.role ≡ Works
      → LookHolds r.leader.lead (word_of s.words i) (tag_of s.words i) look → then (relooked i look me.0, me.1) → Goes s k id me then (get_or s.words k 0)
  relooks s r k id me then i look at works ok told = let w : V = relooked i look me.0 in let old = r.each_seat id me.0 at in (
    w,
    keeps,
    tt,
    unmoved job piece slots topic s r k id me.1 me.0 w r.leader at (leader_stays s r id me.0 w at works) r.leads refl (λ n tag h. h) record {
      told = old.told;
      leads = old.leads;
      holds = old.holds;
      each_look = λ o l e. ⊎_elim (λ (t : (o ≡ i) × (look ≡ l)). subst (λ (y : ℕ × Look). LookHolds r.leader.lead (word_of s.words y.0) (tag_of s.words y.0) y.1) (λ a. (sym t.0 a, t.1 a)) ok)
          (λ (t : (o ≢ i) × (get_elem? me.0.work.kept o ≡ some l)). old.each_look o l t.1) (at_set me.0.work.kept i o look l e);
    },
    told,
  )

  pub word_allowed : (n id : ℕ) (me : M) (k i : ℕ) → k ≡ 3 * i + 1 → i < slots → me.0.role ≡ Works → Allows Rule n id me k (λ x. x) (saw_word (step n k 0 0 none) me)
  word_allowed n id me k i is near works s r wide at _ = let x : ℕ = get_or s.words k 0 in let here : x ≡ word_of s.words i = ap (λ (z : ℕ). get_or s.words z 0) is in let c = r.cells i in
      relooks s r k id me (saw_word (step n k 0 0 none) me x) i (record { word = x; look = me.0.looks + 1; first = None; second = None; lost = None }) at works
      record {
        published = λ q e. let ok = r.each_slot i near in let got = is_ready r.leader.lead s.homes s.views i c.0 q (word_of s.words i) (tag_of s.words i) (sym here ∙ e) c.1 ok.phase in there r.leader.lead.tags q (tag_of s.words i) got.2.0;
        first = λ q e _. tt;
        second = λ q e _. tt;
      }
      (λ j e. let same : i ≡ j = omega arith in ap (λ (z : ℕ). (sees_word z x me.0, me.1)) same)

  pub first_allowed : (n id : ℕ) (me : M) (k i : ℕ) → k ≡ 3 * i + 2 → get_elem? me.0.work.kept i ≡ some (look_at i me.0) → me.0.role ≡ Works → Allows Rule n id me k (λ x. x) (saw_first (step n k 0 0 none) me)
  first_allowed n id me k i is kept works s r wide at _ = let x : ℕ = get_or s.words k 0 in let old = (r.each_seat id me.0 at).each_look i (look_at i me.0) kept in let l = look_at i me.0 in
      relooks s r k id me (saw_first (step n k 0 0 none) me x) i (record l { first = Some x }) at works
      record { published = old.published; first = λ q e _. ap (λ (z : ℕ). get_or s.words z 0) is; second = old.second }
      (λ j e. let same : i ≡ j = omega arith in ap (λ (z : ℕ). (sees_first z x me.0, me.1)) same)

  pub second_allowed : (n id : ℕ) (me : M) (k i : ℕ) → k ≡ 3 * i + 3 → get_elem? me.0.work.kept i ≡ some (look_at i me.0) → me.0.role ≡ Works → Allows Rule n id me k (λ x. x) (saw_second (step n k 0 0 none) me)
  second_allowed n id me k i is kept works s r wide at _ = let x : ℕ = get_or s.words k 0 in let old = (r.each_seat id me.0 at).each_look i (look_at i me.0) kept in let l = look_at i me.0 in
      relooks s r k id me (saw_second (step n k 0 0 none) me x) i (record l { second = Some x }) at works
      record { published = old.published; first = old.first; second = λ q e _. ap (λ (z : ℕ). get_or s.words z 0) is }
      (λ j e. let same : i ≡ j = omega arith in ap (λ (z : ℕ). (sees_second z x me.0, me.1)) same)

  pub ready_slot : (s : St) (r : Rule s) (i n : ℕ) → i < slots → word_of s.words i ≡ 4 * n + 1
      → ((r.cells i).0 ≡ n) × ((r.cells i).1 ≡ ready) × InPhase job piece slots topic r.leader.lead s.homes s.views i n (word_of s.words i) (tag_of s.words i) ready
  ready_slot s r i n near e = let c = r.cells i in is_ready r.leader.lead s.homes s.views i c.0 n (word_of s.words i) (tag_of s.words i) e c.1 (r.each_slot i near).phase

  pub lead_stays : (lead : Lead) (words : List ℕ) (i x : ℕ) → LeadHolds job piece slots topic lead words → LeadHolds job piece slots topic lead (set words (3 * i + 1) x)
  lead_stays lead words i x k = let same = tag_same words i x (length lead.tags % slots) in record {
    behind = k.behind;
    within = k.within;
    few = k.few;
    first = subst (λ (t : Tag). IfSome lead.first (λ a. a ≡ t.0)) (sym same) k.first;
    second = subst (λ (t : Tag). IfSome lead.second (λ a. a ≡ t.1)) (sym same) k.second;
    closing = get_or-set_other words (3 * i + 1) 0 x 0 (λ e. omega arith) ∙ k.closing;
    settled = k.settled;
  }

  -- the exchange of a slot that was ready
  exchanges : (s : St) (r : Rule s) (id i n : ℕ) (tag : Tag) (me : M) → i < slots → get_elem? s.views id ≡ some me.0 → me.0.role ≡ Works → me.0.work.held ≡ None → word_of s.words i ≡ 4 * n + 1 → tag ≡ tag_of s.words i
      → (x : J) × (get_elem? s.homes i ≡ some (some (Some (Job x)))) × (job x ≡ record { number = n; tag = tag; topic = topic })
      × Rule (stepped s (3 * i + 1) (4 * n + 2) id me.1 (takes_job n tag me.0) (takes i (Some (Job x))))
  exchanges s r id i n tag me near at works nothing e is =
      let got = ready_slot s r i n near e in let rd = got.2 in let v : V = me.0 in let w : V = takes_job n tag v in let ok = r.each_slot i near in let old = r.each_seat id v at in
      let new : ℕ = 4 * n + 2 in let words' : List ℕ = set s.words (3 * i + 1) new in let lead = r.leader.lead in let wide : length s.words ≡ 3 * slots + 1 = r.wide in
      let word : word_of words' i ≡ new = get_or-set_same s.words (3 * i + 1) new 0 (omega arith) in
      let lies : n % slots ≡ i = ap (λ (z : ℕ). z % slots) (sym got.0) ∙ ok.lies in
      let same = tag_same s.words i new in
      let listed : get_elem? lead.tags n ≡ some tag = rd.0 ∙ ap some (sym is) in
      let fresh : (q : ℕ) → q < length lead.tags → word_of words' i ≢ 4 * q + 1 = λ q _ f. let g : new ≡ 4 * q + 1 = sym word ∙ f in omega arith in (
        rd.2.0,
        rd.2.1,
        rd.2.2 ∙ (λ z. record { number = n; tag = sym is z; topic = topic }),
        moved job piece slots topic s r (3 * i + 1) new i id (n, taken id) (set s.homes i none) v w r.leader (length-set s.homes i none ∙ r.long) at (leader_stays s r id v w at works) r.leads (lead_stays lead s.words i new r.lead_holds) (onward_same slots lead i)
            (own_word i) (λ j other. set_else s.homes i j none other)
            record {
              lies = lies;
              from = subst (λ (z : ℕ). lead.merged ≤ z) got.0 ok.from;
              below = subst (λ (z : ℕ). z < lead.merged + slots) got.0 ok.below;
              phase = (listed ∙ ap some (is ∙ sym (same i)), word, set_here s.homes i none (let long : length s.homes ≡ slots = r.long in omega arith), (w, set_at s.views id v w at, λ z. Some (n, (is ∙ sym (same i)) z)));
            }
            fresh (λ j other f. let l : 0 ≡ suc j = ap holder (sym got.1) ∙ f in omega arith) (λ q t other h. absurd (none_some (q, t) (sym nothing ∙ h)))
            record {
              told = old.told;
              leads = old.leads;
              holds = λ q t h. let p = some_same (n, tag) (q, t) h in (
                works,
                subst (λ (y : ℕ). put r.cells i (n, taken id) (y % slots) ≡ (y, taken id)) (ap (λ (y : ℕ × Tag). y.0) p) (ap (put r.cells i (n, taken id)) lies ∙ put_here r.cells i (n, taken id)),
                subst (λ (y : ℕ × Tag). get_elem? lead.tags y.0 ≡ some y.1) p listed,
              );
              each_look = looks_stay job piece slots topic lead lead i s.words words' v (le_refl (length lead.tags)) (words_same s.words (3 * i + 1) new i (own_word i)) fresh old.each_look;
            },
      )

  pub claims_allowed : (n id : ℕ) (me : M) (k i q old new : ℕ) (tag : Tag) → k ≡ 3 * i + 1 → i < slots → old ≡ 4 * q + 1 → new ≡ 4 * q + 2 → me.0.role ≡ Works → me.0.work.held ≡ None
      → get_elem? me.0.work.kept i ≡ some (look_at i me.0) → (look_at i me.0).word ≡ old → (look_at i me.0).first ≡ Some tag.0 → (look_at i me.0).second ≡ Some tag.1
      → Allows Rule n id me k (λ y. either (eqb y old) new y) (claimed job (step n k old new none) me)
  claims_allowed n id me k i q old new tag is near was more works nothing kept looked first second s r wide at _ =
      let l = look_at i me.0 in let seat = r.each_seat id me.0 at in let ok = seat.each_look i l kept in let told = claimed job (step n k old new none) me in let word : l.word ≡ 4 * q + 1 = looked ∙ was in
      subst (λ (z : ℕ). Goes s z id me (claimed job (step n z old new none) me (get_or s.words z 0)) (either (eqb (get_or s.words z 0) old) new (get_or s.words z 0))) (sym is)
      (let y : ℕ = get_or s.words (3 * i + 1) 0 in exchanged y old new (Goes s (3 * i + 1) id me (claimed job (step n (3 * i + 1) old new none) me y))
      (λ hit. let here : word_of s.words i ≡ 4 * q + 1 = hit ∙ was in
      let one : tag.0 ≡ (tag_of s.words i).0 = subst (λ (o : Option ℕ). IfSome o (λ a. a ≡ (tag_of s.words i).0)) first (ok.first q word here) in
      let two : tag.1 ≡ (tag_of s.words i).1 = subst (λ (o : Option ℕ). IfSome o (λ a. a ≡ (tag_of s.words i).1)) second (ok.second q word here) in
      let got = exchanges s r id i q tag me near at works nothing here (λ z. (one z, two z)) in (
        takes_job q tag me.0,
        takes i (Some (Job got.0)),
        got.1,
        subst (λ (z : ℕ). Rule (stepped s (3 * i + 1) z id me.1 (takes_job q tag me.0) (takes i (Some (Job got.0))))) (sym more) got.3,
        λ j m t top e f a b c. let same : i ≡ j = omega arith in let count : q ≡ m = omega arith in
            let t' : tag ≡ t = λ z. (some_same tag.0 t.0 (sym first ∙ subst (λ (o : ℕ). (look_at o me.0).first ≡ Some t.0) (sym same) a) z, some_same tag.1 t.1 (sym second ∙ subst (λ (o : ℕ). (look_at o me.0).second ≡ Some t.1) (sym same) b) z) in
            let top' : topic ≡ top = ⊎_elim (λ u. some_same topic top (sym u ∙ c)) (λ u. absurd (no_less 1 2 (ap rank (sym works ∙ u)) (omega arith))) seat.told in
            ((λ _. ((λ z. takes_job (count z) (t' z) me.0), subst (λ (z : ℕ × ℕ). m % z.0 ≡ z.1) (λ z. ((sym r.long ∙ wide) z, same z)) (ap (λ (z : ℕ). z % slots) (sym count) ∙ ap (λ (z : ℕ). z % slots) (sym (ready_slot s r i q near here).0) ∙ (r.each_slot i near).lies), (got.0, (λ z. (same z, Some (Job got.0)) ∷ me.1), got.2 ∙ (λ z. record { number = count z; tag = t' z; topic = top' z })))), λ miss. absurd (miss hit)),
      ))
      (λ miss. relooks s r (3 * i + 1) id me (claimed job (step n (3 * i + 1) old new none) me y) i (record l { lost = Some (record { place = 3 * i + 1; word = y; look = me.0.looks + 1 }) }) at works
      record { published = ok.published; first = ok.first; second = ok.second }
      (λ j m t top e f a b c. let same : i ≡ j = omega arith in ((λ hit. absurd (miss hit)), λ _ z. (loses (same z) y me.0, me.1)))))

  -- a worker puts its piece's slot home
  pub finishes_allowed : (n id : ℕ) (me : M) (k x q : ℕ) (tag : Tag) (y : R) → k ≡ 3 * (q % slots) + 1 → x ≡ 4 * q + 3 → me.0.role ≡ Works → me.0.work.held ≡ Some (q, tag) → piece y ≡ record { number = q; tag = tag; topic = topic }
      → me.1 ≡ (q % slots, Some (Piece y)) ∷ rest me.1 → Allows Rule n id me k (λ _. x) (λ _ m. finished (step n k x 0 none) me x m)
  finishes_allowed n id me k x q tag y is more works holds ticket turn s r wide at _ =
      let v : V = me.0 in let w : V = finishes v in let i : ℕ = q % slots in let near : i < slots = mod-lt q r.some_slot in let ok = r.each_slot i near in let old = r.each_seat id v at in let mine = old.holds q tag holds in
      let lead = r.leader.lead in let new : ℕ = 4 * q + 3 in let words' : List ℕ = set s.words (3 * i + 1) new in let long : length s.words ≡ 3 * slots + 1 = r.wide in let homes : length s.homes ≡ slots = r.long in
      let word : word_of words' i ≡ new = get_or-set_same s.words (3 * i + 1) new 0 (omega arith) in let same = tag_same s.words i new i in
      let phase : InPhase job piece slots topic lead s.homes s.views i q (word_of s.words i) (tag_of s.words i) (taken id) =
      subst (λ (c : Cell). InPhase job piece slots topic lead s.homes s.views i c.0 (word_of s.words i) (tag_of s.words i) c.1) mine.1 ok.phase in
      let fresh : (p : ℕ) → p < length lead.tags → word_of words' i ≢ 4 * p + 1 = λ p _ f. let g : new ≡ 4 * p + 1 = sym word ∙ f in omega arith in
      let tag' : tag ≡ tag_of words' i = some-injective tag (tag_of s.words i) (sym mine.2 ∙ phase.0) ∙ sym same in
      let rule : Rule record { words = words'; homes = set s.homes i (some (Some (Piece y))); views = set s.views id w } =
      moved job piece slots topic s r (3 * i + 1) new i id (q, done) (set s.homes i (some (Some (Piece y)))) v w r.leader (length-set s.homes i (some (Some (Piece y))) ∙ r.long) at (leader_stays s r id v w at works) r.leads
      (lead_stays lead s.words i new r.lead_holds) (onward_same slots lead i) (own_word i) (λ j other. set_else s.homes i j (some (Some (Piece y))) other)
      record {
        lies = refl;
        from = subst (λ (c : Cell). lead.merged ≤ c.0) mine.1 ok.from;
        below = subst (λ (c : Cell). c.0 < lead.merged + slots) mine.1 ok.below;
        phase = (mine.2 ∙ ap some tag', word, (y, set_here s.homes i (some (Some (Piece y))) (omega arith), ticket ∙ (λ z. record { number = q; tag = tag' z; topic = topic })));
      }
      fresh (λ j other e. let same_seat : suc id ≡ suc j = ap (λ (c : Cell). holder c.1) (sym mine.1) ∙ e in other (omega arith))
      (λ p t other h. absurd (other (ap (λ (z : ℕ). z % slots) (sym (ap (λ (y : ℕ × Tag). y.0) (some_same (q, tag) (p, t) (sym holds ∙ h)))))))
      record {
        told = old.told;
        leads = old.leads;
        holds = λ p t h. absurd (none_some (p, t) h);
        each_look = looks_stay job piece slots topic lead lead i s.words words' v (le_refl (length lead.tags)) (words_same s.words (3 * i + 1) new i (own_word i)) fresh old.each_look;
      } in
      subst (λ (z : ℕ × ℕ). Goes s z.0 id me (λ m. finished (step n z.0 z.1 0 none) me z.1 m) z.1) (λ z. (sym is z, sym more z)) (
        w,
        gives,
        tt,
        subst (λ (c : List (ℕ × S)). Rule (stepped s (3 * i + 1) new id c w gives)) (sym turn) rule,
        refl,
      )

  -- a load of a word, whichever it is
  pub glances_allowed : (n id : ℕ) (me : M) (k : ℕ) → me.0.role ≡ Works → Allows Rule n id me k (λ x. x) (glanced (step n k 0 0 none) me)
  glances_allowed n id me k works s r wide at _ = let x : ℕ = get_or s.words k 0 in let w : V = glances k x me.0 in let old = r.each_seat id me.0 at in
      (w, keeps, tt, unmoved job piece slots topic s r k id me.1 me.0 w r.leader at (leader_stays s r id me.0 w at works) r.leads refl (λ n tag h. h) record { told = old.told; leads = old.leads; holds = old.holds; each_look = old.each_look }, refl)
