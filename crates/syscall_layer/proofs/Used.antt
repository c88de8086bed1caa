-- The ranges that readv uses, found one by one.
use Rattle.std.proofs.Common.{◌≡◌, ℕ, ◌+◌, ◌-◌, ◌*◌, ◌<◌, ◌≤◌, ◌==◌, Bool, true, false, cond, List, [], ◌∷◌, ◌++◌, length, length-append, take, refl, sym, ap, ◌∙◌, arith}
use Rattle.std.specs.Prelude.{min, filter, not}
use Rattle.std.proofs.lemmas.List.{append-nil, length-take, take_all, take-append-le}
use Rattle.std.proofs.lemmas.List.Sums.{sum_by-cons, sum_by-append}
use Rattle.std.proofs.lemmas.Bool.Decides.{nat_tests}
use Rattle.guest_model.specs.Machine.{Machine}
use Rattle.guest_model.specs.Range.{Range, total_size}
use Rattle.guest_model.specs.Calls.{argument, cut_to, range_at, array_of, used_ranges}
use Rattle.syscall_layer.proofs.Arrays.{kept_more, take_ranges}

pub cut_length : (room : ℕ) (ps : List Range) → length (cut_to room ps) ≡ length ps
cut_length room [] = refl
cut_length room (p ∷ ps) = omega (arith, cut_length (room - min p.size room) ps)

pub cut_size : (room : ℕ) (ps : List Range) → total_size (cut_to room ps) ≤ room
cut_size room [] = omega arith
cut_size room (p ∷ ps) =
    omega (arith, sum_by-cons (λ (q : Range). q.size) (record p { size = min p.size room }) (cut_to (room - min p.size room) ps), cut_size (room - min p.size room) ps)

-- one range more, cut to the room that is left
cut_more : (room : ℕ) (ps : List Range) (p : Range) → cut_to room (ps ++ p ∷ []) ≡ cut_to room ps ++ record p { size = min p.size (room - total_size (cut_to room ps)) } ∷ []
cut_more room [] p = let all : room ≡ room - 0 = omega arith in ap (λ (k : ℕ). record p { size = min p.size k } ∷ []) all
cut_more room (q ∷ ps) p =
    let left : room - min q.size room - total_size (cut_to (room - min q.size room) ps) ≡ room - total_size (cut_to room (q ∷ ps)) =
    omega (arith, sum_by-cons (λ (x : Range). x.size) (record q { size = min q.size room }) (cut_to (room - min q.size room) ps)) in
    ap (λ (xs : List Range). record q { size = min q.size room } ∷ xs) (cut_more (room - min q.size room) ps p)
    ∙ ap (λ (k : ℕ). (record q { size = min q.size room } ∷ cut_to (room - min q.size room) ps) ++ record p { size = min p.size k } ∷ []) left

-- the first most of the array_of with bytes, cut to room
abbrev pub used_of : ℕ → ℕ → List Range → List Range
used_of room most ps = cut_to room (take most ps)

pub used_next : (room most : ℕ) (ps : List Range) (p : Range) (left : ℕ) → length (used_of room most ps) < most → left + total_size (used_of room most ps) ≡ room
    → used_of room most (ps ++ p ∷ []) ≡ used_of room most ps ++ record p { size = min p.size left } ∷ []
used_next room most ps p left few size =
    let short : length ps < most = omega (arith, cut_length room (take most ps), length-take most ps) in
    let all : take most ps ≡ ps = take_all most ps (omega arith) in
    let rest : room - total_size (cut_to room ps) ≡ left = omega (arith, ap (λ (qs : List Range). total_size (cut_to room qs)) all) in
    ap (cut_to room) (take_all most (ps ++ p ∷ []) (omega (arith, length-append ps (p ∷ []))))
    ∙ cut_more room ps p
    ∙ ap (λ (k : ℕ). cut_to room ps ++ record p { size = min p.size k } ∷ []) rest
    ∙ ap (λ (qs : List Range). cut_to room qs ++ record p { size = min p.size left } ∷ []) (sym all)

pub used_full : (room most : ℕ) (ps : List Range) (p : Range) → most ≤ length (used_of room most ps) → used_of room most (ps ++ p ∷ []) ≡ used_of room most ps
used_full room most ps p full =
    let long : most ≤ length ps = omega (arith, cut_length room (take most ps), length-take most ps) in
    ap (cut_to room) (take-append-le most ps (p ∷ []) long)

abbrev pub has_bytes : Range → Bool
has_bytes p = not (p.size == 0)

-- what is used of the array_of before range k, and how many bytes more can be
pub record IsUsed (m : Machine) (k : ℕ) (used : List Range) (room : ℕ) : Type 0 where
  pub is_used : used ≡ used_of 65536 8 (filter has_bytes (take k (array_of m)))
  pub is_room : room + total_size used ≡ 65536

kept_or_not : (m : Machine) (k : ℕ) (p : Range) (b : Bool) → k < argument m 2 → p ≡ range_at m (argument m 1 + 8 * k) → has_bytes p ≡ b
    → filter has_bytes (take (k + 1) (array_of m)) ≡ filter has_bytes (take k (array_of m)) ++ cond b (p ∷ []) []
kept_or_not m k p b lt is test =
    kept_more m has_bytes k lt
    ∙ (ap (λ (q : Range). filter has_bytes (take k (array_of m)) ++ cond (has_bytes q) (q ∷ []) []) (sym is) ∙ ap (λ (t : Bool). filter has_bytes (take k (array_of m)) ++ cond t (p ∷ []) []) test)

pub uses : (m : Machine) (k : ℕ) (used new : List Range) (room left n : ℕ) (p : Range) → IsUsed m k used room → k < argument m 2 → p ≡ range_at m (argument m 1 + 8 * k) → 0 < p.size → length used < 8
    → n ≡ min p.size room → new ≡ used ++ record p { size = n } ∷ [] → left + n ≡ room → IsUsed m (k + 1) new left
uses m k used new room left n p before lt is some few size adds rest =
    let kept = kept_or_not m k p true lt is (grind (arith, nat_tests)) in
    let before_k = filter has_bytes (take k (array_of m)) in
    let next = used_next 65536 8 before_k p room (omega (arith, few, ap (λ (ps : List Range). length ps) before.is_used)) (omega (arith, before.is_room, ap (λ (ps : List Range). total_size ps) before.is_used)) in
    record {
      is_used =
          adds
          ∙ ap (λ (i : ℕ). used ++ record p { size = i } ∷ []) size
          ∙ ap (λ (ps : List Range). ps ++ record p { size = min p.size room } ∷ []) before.is_used
          ∙ sym next
          ∙ sym (ap (used_of 65536 8) kept);
      is_room = omega (arith, rest, before.is_room, ap (λ (ps : List Range). total_size ps) adds, sum_by-append (λ (q : Range). q.size) used (record p { size = n } ∷ []), sum_by-cons (λ (q : Range). q.size) (record p { size = n }) []);
    }

pub skips : (m : Machine) (k : ℕ) (used : List Range) (room : ℕ) (p : Range) → IsUsed m k used room → k < argument m 2 → p ≡ range_at m (argument m 1 + 8 * k) → p.size ≤ 0 → IsUsed m (k + 1) used room
skips m k used room p before lt is none =
    let kept = kept_or_not m k p false lt is (grind (arith, nat_tests)) ∙ append-nil (filter has_bytes (take k (array_of m))) in
    record { is_used = before.is_used ∙ sym (ap (used_of 65536 8) kept); is_room = before.is_room }

pub leaves : (m : Machine) (k : ℕ) (used : List Range) (room : ℕ) (p : Range) → IsUsed m k used room → k < argument m 2 → p ≡ range_at m (argument m 1 + 8 * k) → 0 < p.size → 8 ≤ length used → IsUsed m (k + 1) used room
leaves m k used room p before lt is some full =
    let kept = kept_or_not m k p true lt is (grind (arith, nat_tests)) in
    let same = used_full 65536 8 (filter has_bytes (take k (array_of m))) p (omega (arith, full, ap (λ (ps : List Range). length ps) before.is_used)) in
    record { is_used = before.is_used ∙ sym (ap (used_of 65536 8) kept ∙ same); is_room = before.is_room }

-- all ranges were looked at
pub all_used : (m : Machine) (k : ℕ) (used : List Range) (room : ℕ) → IsUsed m k used room → argument m 2 ≤ k → used ≡ used_ranges (array_of m)
unfolding used_ranges
all_used m k used room now end = now.is_used ∙ ap (λ (ps : List Range). used_of 65536 8 (filter has_bytes ps)) (take_ranges m k end)
