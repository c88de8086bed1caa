-- The ring read as the core.
use Rattle.std.proofs.Common.{◌≡◌, ℕ, zero, suc, ◌+◌, ◌-◌, ◌*◌, ◌%◌, ◌^◌, ◌<◌, ◌≤◌, ◌≢◌, Bool, true, false, cond, eqb, ltb, List, [], ◌∷◌, length, map, get_or, sym, refl, ap, ◌∙◌, subst, arith, eq-eqb, ne_eqb, le-ltb}
use Rattle.std.specs.List.{range_with_len}
use Rattle.std.proofs.lemmas.List.FromFn.{length-map-range_with_len, get_or-map-range_with_len}
use mathlib.Core.Option.{some, some-injective, some-ne-none}
use mathlib.Core.Logic.{dite}
use native.Mathlib.Decide.{ℕ_discrete}
use lib.ListN.{get_elem?}
use Rattle.std.specs.Prelude.{Option, Some, None}
use Rattle.atomic_table.specs.Table.{State}
use Rattle.weave_core.specs.declared.moves.Phase.{Phase}
use Rattle.weave_core.specs.declared.moves.Phase.TheVariants.{Absent, Ready, Taken, Done}
use Rattle.weave_core.specs.Moves.{WeaveState, published, phase_of}
use Rattle.slice_ring.specs.declared.views.Content.{Content}
use Rattle.slice_ring.specs.declared.views.Lead.{Lead}
use Rattle.slice_ring.specs.declared.views.View.{View}
use Rattle.slice_ring.specs.Ticket.{Tag, Ticket}
use Rattle.slice_ring.specs.Rule.{SlotPhase, free, ready, taken, done, Cell, word_of, tag_of, Holds, IsHeldBy, InPhase, RingHolds}
use Rattle.slice_ring.specs.Core.{holds_number, lead_of, place_of, phase_by, core_of, IsSound, IsHeldByNone, StandsIn, IsSlice}
use Rattle.slice_ring.proofs.Stays.{holder}
use Rattle.slice_ring.proofs.Workers.{no_less}
use Rattle.slice_ring.proofs.Leads.{serves}

pub not_true : false ≡ true → ⊥
not_true e = no_less 0 1 (ap (λ (b : Bool). cond b 1 0) e) (omega arith)

-- a phase by three tests of a word
abbrev pub by_tests : ℕ → Bool → Bool → Bool → Phase
by_tests who a b c = cond a Ready (cond b (Taken who) (cond c Done Absent))

module _ {T : Type 0} where
  pub holds_this : (n : ℕ) (tag : Tag) (v : View T) → Holds n tag v → holds_number n v.work.held ≡ true
  holds_this n tag v h = ap (holds_number n) h ∙ eq-eqb n n refl

  pub held_tag : (n : ℕ) (v : View T) → holds_number n v.work.held ≡ true → (t : Tag) × Holds n t v
  held_tag n v e = go v.work.held refl
    where
      go : (h : Option (ℕ × Tag)) → v.work.held ≡ h → (t : Tag) × Holds n t v
      go None f = absurd (not_true (sym (ap (holds_number n) f) ∙ e))
      go (Some h) f = dite (ℕ_discrete h.0 n) (λ same. (h.1, f ∙ (λ z. Some (same z, h.1)))) (λ apart. absurd (not_true (sym (ne_eqb h.0 n apart) ∙ sym (ap (holds_number n) f) ∙ e)))

  pub lead_is : (views : List (View T)) (v : View T) → get_elem? views 0 ≡ some v → lead_of views ≡ v.lead
  lead_is [] v e = absurd (some-ne-none v (sym e))
  lead_is (u ∷ us) v e = ap (λ (w : View T). w.lead) (some-injective u v e)

  -- where the view at j holds n, and those before it do not
  pub place_is : (n : ℕ) (views : List (View T)) (j : ℕ) (v : View T) → get_elem? views j ≡ some v → holds_number n v.work.held ≡ true
      → ((k : ℕ) (u : View T) → get_elem? views k ≡ some u → holds_number n u.work.held ≡ true → k ≡ j) → place_of n views ≡ j
  place_is n [] j v at holds only = absurd (some-ne-none v (sym at))
  place_is n (u ∷ us) zero v at holds only = ap (λ (b : Bool). cond b 0 (suc (place_of n us))) (ap (λ (w : View T). holds_number n w.work.held) (some-injective u v at) ∙ holds)
  place_is n (u ∷ us) (suc j) v at holds only = here (place_is n us j v at holds (λ k w f g. let l : suc k ≡ suc j = only (suc k) w f g in omega arith)) (holds_number n u.work.held) refl
    where
      here : place_of n us ≡ j → (b : Bool) → holds_number n u.work.held ≡ b → place_of n (u ∷ us) ≡ suc j
      here later true e = absurd (no_less 0 (suc j) (only 0 u refl e) (omega arith))
      here later false e = ap (λ (b : Bool). cond b 0 (suc (place_of n us))) e ∙ ap suc later

  pub ready_by : (views : List (View T)) (n word : ℕ) → word ≡ 4 * n + 1 → phase_by views n word ≡ Ready
  ready_by views n word e = ap (λ (a : Bool). by_tests (place_of n views) a (eqb word (4 * n + 2)) (eqb word (4 * n + 3))) (eq-eqb word (4 * n + 1) e)

  pub taken_by : (views : List (View T)) (n word : ℕ) → word ≡ 4 * n + 2 → phase_by views n word ≡ Taken (place_of n views)
  taken_by views n word e = ap (λ (a : Bool). by_tests (place_of n views) a (eqb word (4 * n + 2)) (eqb word (4 * n + 3))) (ne_eqb word (4 * n + 1) (λ f. omega arith))
      ∙ ap (λ (b : Bool). by_tests (place_of n views) false b (eqb word (4 * n + 3))) (eq-eqb word (4 * n + 2) e)

  pub done_by : (views : List (View T)) (n word : ℕ) → word ≡ 4 * n + 3 → phase_by views n word ≡ Done
  done_by views n word e = ap (λ (a : Bool). by_tests (place_of n views) a (eqb word (4 * n + 2)) (eqb word (4 * n + 3))) (ne_eqb word (4 * n + 1) (λ f. omega arith))
      ∙ ap (λ (b : Bool). by_tests (place_of n views) false b (eqb word (4 * n + 3))) (ne_eqb word (4 * n + 2) (λ f. omega arith))
      ∙ ap (by_tests (place_of n views) false false) (eq-eqb word (4 * n + 3) e)

module _ {J R T : Type 0} (job : J → Ticket T) (piece : R → Ticket T) (slots : ℕ) (topic : T) where
  abbrev St : Type 0
  St = State (Option (Content J R)) (View T)

  abbrev Rule : St → Type 0
  Rule = RingHolds job piece slots topic

  -- only the seat that the slot names holds the number
  pub only_holder : (s : St) (r : Rule s) (n j : ℕ) (tag : Tag) → IsHeldBy s.views n tag j → r.cells (n % slots) ≡ (n, taken j)
  only_holder s r n j tag h = ((r.each_seat j h.0 h.1).holds n tag h.2).1

  -- two seats that hold one number are one
  pub one_holder : (s : St) (r : Rule s) (n j k : ℕ) (t u : Tag) → IsHeldBy s.views n t j → IsHeldBy s.views n u k → j ≡ k
  one_holder s r n j k t u a b = let e : suc j ≡ suc k = ap (λ (c : Cell). holder c.1) (sym (only_holder s r n j t a) ∙ only_holder s r n k u b) in omega arith

  not_held : (s : St) (r : Rule s) (n : ℕ) → holder (r.cells (n % slots)).1 ≡ 0 → IsHeldByNone job piece slots topic s n
  not_held s r n loose = λ j tag h. no_less 0 (suc j) (sym loose ∙ ap (λ (c : Cell). holder c.1) (only_holder s r n j tag h)) (omega arith)

  stands : (s : St) (r : Rule s) (n : ℕ) → n < length r.leader.lead.tags → (ph : SlotPhase) → (r.cells (n % slots)).1 ≡ ph
      → InPhase job piece slots topic r.leader.lead s.homes s.views (n % slots) n (word_of s.words (n % slots)) (tag_of s.words (n % slots)) ph
      → (get_elem? r.leader.lead.tags n ≡ some (tag_of s.words (n % slots))) × StandsIn job piece slots topic s n (tag_of s.words (n % slots)) (phase_by s.views n (word_of s.words (n % slots)))
  stands s r n out free is k = let p : ℕ = length r.leader.lead.tags in let a : p ≤ n = k.0 in let b : n < p = out in absurd (omega arith)
  stands s r n out ready is k = let i : ℕ = n % slots in (k.0, subst (StandsIn job piece slots topic s n (tag_of s.words i)) (sym (ready_by s.views n (word_of s.words i) k.1)) (k.1, k.2, not_held s r n (ap holder is)))
  stands s r n out (taken j) is k = let i : ℕ = n % slots in let tag : Tag = tag_of s.words i in
      let only : (o : ℕ) (t : Tag) → IsHeldBy s.views n t o → o ≡ j = λ o t h. let e : suc j ≡ suc o = sym (ap holder is) ∙ ap (λ (c : Cell). holder c.1) (only_holder s r n o t h) in omega arith in
      let place : place_of n s.views ≡ j = place_is n s.views j k.3.0 k.3.1 (holds_this n tag k.3.0 k.3.2) (λ o u at e. let t = held_tag n u e in only o t.0 (u, at, t.1)) in (
        k.0,
        subst (StandsIn job piece slots topic s n tag) (sym (taken_by s.views n (word_of s.words i) k.1 ∙ ap Taken place)) (k.1, k.3, only),
      )
  stands s r n out done is k = let i : ℕ = n % slots in (k.0, subst (StandsIn job piece slots topic s n (tag_of s.words i)) (sym (done_by s.views n (word_of s.words i) k.1)) (k.1, k.2, not_held s r n (ap holder is)))

  -- how many slices the core has, and up to which number they are published
  pub counts : (s : St) (r : Rule s) → (length (core_of slots s).phases ≡ length r.leader.lead.tags - r.leader.lead.merged) × (published (core_of slots s) ≡ length r.leader.lead.tags)
  counts s r = let lead = lead_is s.views r.leader r.leader_is in let m : ℕ = r.leader.lead.merged in let p : ℕ = length r.leader.lead.tags in let le : m ≤ p = r.lead_holds.behind in
      let f : ℕ → Phase = λ n. phase_by s.views n (word_of s.words (n % slots)) in
      subst (λ (l : Lead). (length (map f (range_with_len l.merged (length l.tags - l.merged))) ≡ p - m) × (l.merged + length (map f (range_with_len l.merged (length l.tags - l.merged))) ≡ p)) (sym lead)
      (let e : length (map f (range_with_len m (p - m))) ≡ p - m = length-map-range_with_len f m (p - m) in (e, omega arith))

  pub sound : (s : St) → Rule s → IsSound (core_of slots s) × (published (core_of slots s) ≡ length (lead_of s.views).tags)
  sound s r = let lead = lead_is s.views r.leader r.leader_is in let c = counts s r in let ok = r.lead_holds in
      let m : ℕ = r.leader.lead.merged in let p : ℕ = length r.leader.lead.tags in let a : m ≤ p = ok.behind in let b : p ≤ m + slots = ok.within in let core : WeaveState = core_of slots s in (
        (
          subst (λ (z : ℕ). z ≤ slots) (sym c.0) (omega arith),
          subst (λ (z : ℕ). z ≤ 2 ^ 62) (sym c.1) ok.few,
          λ e. empty core.phases (c.0 ∙ (let same : m ≡ p = ok.settled (closed_is r.leader.lead.closed refl e) in omega arith)),
        ),
        c.1 ∙ ap (λ (l : Lead). length l.tags) (sym lead),
      )
    where
      empty : (ps : List Phase) → length ps ≡ 0 → ps ≡ []
      empty [] e = refl
      empty (x ∷ ps) e = absurd (no_less 0 (length (x ∷ ps)) (sym e) (omega arith))

      closed_is : (b : Bool) → r.leader.lead.closed ≡ b → eqb (get_or s.words 0 0) 1 ≡ true → r.leader.lead.closed ≡ true
      closed_is true e f = e
      closed_is false e f = absurd (not_true (sym (ap (λ (z : ℕ). eqb z 1) (r.lead_holds.closing ∙ ap (λ (b : Bool). cond b 1 0) e)) ∙ f))

  pub slices : (s : St) → Rule s → (n : ℕ) → (core_of slots s).merged ≤ n → n < published (core_of slots s) → IsSlice job piece slots topic s n (phase_of (core_of slots s) n)
  slices s r n from out =
      let lead = lead_is s.views r.leader r.leader_is in let c = counts s r in let m : ℕ = r.leader.lead.merged in let p : ℕ = length r.leader.lead.tags in
      let a : m ≤ n = subst (λ (l : Lead). l.merged ≤ n) lead from in let b : n < p = subst (λ (z : ℕ). n < z) c.1 out in let w : p ≤ m + slots = r.lead_holds.within in
      let serve = serves job piece slots topic s r n a (omega arith) in let ok = r.each_slot (n % slots) serve.1 in
      let f : ℕ → Phase = λ k. phase_by s.views k (word_of s.words (k % slots)) in
      let got = stands s r n b (r.cells (n % slots)).1 refl (subst (λ (z : ℕ). InPhase job piece slots topic r.leader.lead s.homes s.views (n % slots) z (word_of s.words (n % slots)) (tag_of s.words (n % slots)) (r.cells (n % slots)).1) serve.0 ok.phase) in
      let phase : phase_of (core_of slots s) n ≡ f n = subst (λ (l : Lead). cond (ltb n l.merged) Absent (get_or (map f (range_with_len l.merged (length l.tags - l.merged))) (n - l.merged) Absent) ≡ f n) (sym lead)
      (ap (λ (t : Bool). cond t Absent (get_or (map f (range_with_len m (p - m))) (n - m) Absent)) (le-ltb n m a) ∙ get_or-map-range_with_len f m (p - m) (n - m) n Absent (omega arith) (omega arith)) in (
        ap (λ (l : Lead). get_elem? l.tags n) lead ∙ got.0,
        subst (StandsIn job piece slots topic s n (tag_of s.words (n % slots))) (sym phase) got.1,
      )
