-- A new table meets the rule.
use Rattle.std.proofs.Common.{◌≡◌, ℕ, zero, suc, ◌+◌, ◌*◌, ◌<◌, ◌≤◌, inl, List, [], ◌∷◌, length, get_or, map, replicate, sym, refl, ap, subst, arith}
use mathlib.Core.Option.{some, some-injective, some-ne-none}
use lib.ListN.{get_elem?}
use Rattle.std.proofs.Math.Nat.{mod-eq_of_lt}
use Rattle.std.specs.Prelude.{None}
use Rattle.atomic_table.specs.Table.{opening}
use Rattle.slice_ring.specs.declared.views.View.{View}
use Rattle.slice_ring.specs.Rule.{free, LookHolds, SeatHolds, word_of, tag_of, RingHolds}
use Rattle.slice_ring.specs.Ticket.{Ticket}
use Rattle.slice_ring.specs.Steps.{begins}
use Rattle.slice_ring.proofs.Workers.{none_some, no_less}

all_same : (n j z : ℕ) → get_or (replicate n z) j z ≡ z
all_same zero j z = refl
all_same (suc n) zero z = refl
all_same (suc n) (suc j) z = all_same n j z

zeros : (n j : ℕ) → get_or (replicate n zero) j zero ≡ zero
zeros n j = all_same n j zero

long : {A : Type 0} (n : ℕ) (a : A) → length (replicate n a) ≡ n
long zero a = refl
long (suc n) a = ap suc (long n a)

homes_long : {A : Type 0} (n : ℕ) (a : A) → length (map some (replicate n a)) ≡ n
homes_long zero a = refl
homes_long (suc n) a = ap suc (homes_long n a)

at_home : {A : Type 0} (n i : ℕ) (a : A) → i < n → get_elem? (map some (replicate n a)) i ≡ some (some a)
at_home zero i a l = absurd (omega arith)
at_home (suc n) zero a l = refl
at_home (suc n) (suc i) a l = at_home n i a (omega arith)

alike : {A : Type 0} (n i : ℕ) (a b : A) → get_elem? (replicate n a) i ≡ some b → a ≡ b
alike zero i a b e = absurd (some-ne-none b (sym e))
alike (suc n) zero a b e = some-injective a b e
alike (suc n) (suc i) a b e = alike n i a b e

module _ {J R T : Type 0} (job : J → Ticket T) (piece : R → Ticket T) (slots : ℕ) (topic : T) where
  first_view : (j : ℕ) (v : View T) → get_elem? (begins slots topic ∷ []) j ≡ some v → (j ≡ 0) × (begins slots topic ≡ v)
  first_view zero v e = (refl, some-injective (begins slots topic) v e)
  first_view (suc j) v e = absurd (some-ne-none v (sym e))

  pub starts : (words : List ℕ) → 0 < slots → words ≡ replicate (3 * slots + 1) 0 → RingHolds job piece slots topic (opening words (replicate slots None) (begins slots topic))
  starts words pos is = subst (λ (ws : List ℕ). RingHolds job piece slots topic (opening ws (replicate slots None) (begins slots topic))) (sym is) record {
    leader = begins slots topic;
    cells = λ i. (i, free);
    some_slot = pos;
    wide = long (3 * slots + 1) 0;
    long = homes_long slots None;
    leader_is = refl;
    leads = refl;
    lead_holds = record { behind = omega arith; within = omega arith; few = omega arith; first = tt; second = tt; closing = zeros (3 * slots + 1) 0; settled = λ _. refl };
    each_slot = λ i l. record {
      lies = mod-eq_of_lt l;
      from = omega arith;
      below = (let g : i < 0 + slots = omega arith in g);
      phase = (let g : 0 ≤ i = omega arith in g, inl (zeros (3 * slots + 1) (3 * i + 1)), (λ below. absurd (omega arith)), λ _. (zeros (3 * slots + 1) (3 * i + 1), at_home slots i None l));
    };
    each_seat = λ j v e. let is_first = first_view j v e in subst (SeatHolds job piece slots topic (begins slots topic).lead (replicate (3 * slots + 1) 0) (λ i. (i, free)) j) is_first.1 record {
      told = inl refl;
      leads = λ _. is_first.0;
      holds = λ n tag h. absurd (none_some (n, tag) h);
      each_look = λ i look f. subst (LookHolds (begins slots topic).lead (word_of (replicate (3 * slots + 1) 0) i) (tag_of (replicate (3 * slots + 1) 0) i)) (alike slots i _ look f) record { published = λ n z. absurd (no_less 0 (4 * n + 1) z (omega arith)); first = λ _ _ _. tt; second = λ _ _ _. tt };
    };
  }
