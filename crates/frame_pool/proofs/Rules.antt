-- Frames that are handed out and given back.
use Rattle.std.proofs.Common.{◌≡◌, ℕ, ◌+◌, ◌-◌, ◌*◌, ◌/◌, ◌%◌, ◌<◌, ◌≤◌, ◌==◌, ◌++◌, ◌∷◌, [], Bool, true, false, cond, refl, List, length, get_or, ap, sym, ◌∙◌, arith, length-append, get_or-set_same, get_or-set_other, take, drop, replicate, inl, inr}
use Rattle.std.proofs.Math.ListN.{set}
use Rattle.std.proofs.lemmas.Bool.{cases_eq, cases_order, cases_lt, cond-true, cond-false, eq-eqb, ne_eqb}
use Rattle.std.proofs.lemmas.List.{get_or_append_left, get_or-append_right, get_or-replicate, get_or_push, get_or_past, get_or-take, get_or-drop, length-take-le, length-drop, length-replicate}
use Rattle.std.proofs.lemmas.List.Sums.{sum_by-set, sum_by_push, count_by-le-length}
use Rattle.std.proofs.lemmas.Bool.Decides.{nat_tests}
use Rattle.frame_pool.specs.Bytes.{is_among, FillsPage, PutsBytes}
use Rattle.frame_pool.specs.PoolState.{given_count}

pub given_count-le : (given : List Bool) → given_count given ≤ length given
unfolding given_count
given_count-le given = count_by-le-length (λ b. b) given

-- one more frame is handed out
pub given_count-set : (given : List Bool) (i : ℕ) → i < length given → get_or given i false ≡ false → given_count (set given i true) ≡ given_count given + 1
unfolding given_count
given_count-set given i lt e =
    let here = sum_by-set (λ (b : Bool). cond b 1 0) given i true false lt in
    let zero_here : cond {A = ℕ} (get_or given i false) 1 0 ≡ 0 = ap (λ (b : Bool). cond b 1 0) e in
    omega (arith, here, zero_here)

-- one is given back
pub given_count-clear : (given : List Bool) (i : ℕ) → i < length given → get_or given i false ≡ true → given_count (set given i false) + 1 ≡ given_count given
unfolding given_count
given_count-clear given i lt e =
    let here = sum_by-set (λ (b : Bool). cond b 1 0) given i false false lt in
    let one_here : cond {A = ℕ} (get_or given i false) 1 0 ≡ 1 = ap (λ (b : Bool). cond b 1 0) e in
    omega (arith, here, one_here)

pub given_count-push : (given : List Bool) → given_count (given ++ true ∷ []) ≡ given_count given + 1
unfolding given_count
given_count-push given = sum_by_push (λ (b : Bool). cond b 1 0) given true

pub given_count-none : given_count [] ≡ 0
unfolding given_count
given_count-none = refl

-- the marks once one is set
pub given-set : (given : List Bool) (i : ℕ) (b : Bool) → i < length given → (g : ℕ) → get_or (set given i b) g false ≡ cond (g == i) b (get_or given g false)
given-set given i b lt g =
    elim (cases_eq g i) [
      | inl e ↦ ap (λ k. get_or (set given i b) k false) e ∙ get_or-set_same given i b false lt ∙ sym (cond-true (g == i) b (get_or given g false) (eq-eqb g i e))
      | inr ne ↦ get_or-set_other given i g b false ne ∙ sym (cond-false (g == i) b (get_or given g false) (ne_eqb g i ne))
    ]

pub given-push : (given : List Bool) (i : ℕ) → i ≡ length given → (g : ℕ) → get_or (given ++ true ∷ []) g false ≡ cond (g == i) true (get_or given g false)
given-push given i is g =
    elim (cases_order g i) [
      | inl e ↦ get_or_push given true false g (sym (e ∙ is)) ∙ sym (cond-true (g == i) true (get_or given g false) (eq-eqb g i e))
      | inr h ↦ elim h [
        | inl lt ↦ get_or_append_left given (true ∷ []) false g (omega arith) ∙ sym (cond-false (g == i) true (get_or given g false) (ne_eqb g i (λ e. absurd (omega arith))))
        | inr gt ↦ get_or_past (given ++ true ∷ []) g false (omega (arith, length-append given (true ∷ []))) ∙ sym (get_or_past given g false (omega arith)) ∙ sym (cond-false (g == i) true (get_or given g false) (ne_eqb g i (λ e. absurd (omega arith))))
      ]
    ]

-- a frame of zeros behind the others
pub bytes-push : (bytes : List ℕ) (i : ℕ) → length bytes ≡ 4096 * i → (k : ℕ) → get_or (bytes ++ replicate 4096 0) k 0 ≡ cond (k / 4096 == i) 0 (get_or bytes k 0)
bytes-push bytes i len k =
    elim (cases_order (k / 4096) i) [
      | inl e ↦
          get_or-append_right bytes (replicate 4096 0) (4096 * i) k 0 len (omega arith)
          ∙ get_or-replicate 4096 (k - 4096 * i) 0 0 (omega arith)
          ∙ sym (cond-true (k / 4096 == i) 0 (get_or bytes k 0) (eq-eqb (k / 4096) i e))
      | inr h ↦ elim h [
        | inl lt ↦ get_or_append_left bytes (replicate 4096 0) 0 k (omega arith) ∙ sym (cond-false (k / 4096 == i) 0 (get_or bytes k 0) (ne_eqb (k / 4096) i (λ e. absurd (omega arith))))
        | inr gt ↦
            get_or_past (bytes ++ replicate 4096 0) k 0 (omega (arith, length-append bytes (replicate 4096 0), length-replicate {A = ℕ} 4096 0)) ∙ sym (get_or_past bytes k 0 (omega arith))
            ∙ sym (cond-false (k / 4096 == i) 0 (get_or bytes k 0) (ne_eqb (k / 4096) i (λ e. absurd (omega arith))))
      ]
    ]

-- a frame of other bytes behind the others
pub bytes-add : (bytes source : List ℕ) (i : ℕ) → length bytes ≡ 4096 * i → length source ≡ 4096 → (k : ℕ) → get_or (bytes ++ source) k 0 ≡ cond (k / 4096 == i) (get_or source (k % 4096) 0) (get_or bytes k 0)
bytes-add bytes source i len full k =
    elim (cases_order (k / 4096) i) [
      | inl e ↦
          let cell : k - 4096 * i ≡ k % 4096 = omega arith in
          get_or-append_right bytes source (4096 * i) k 0 len (omega arith)
          ∙ ap (λ j. get_or source j 0) cell
          ∙ sym (cond-true (k / 4096 == i) (get_or source (k % 4096) 0) (get_or bytes k 0) (eq-eqb (k / 4096) i e))
      | inr h ↦ elim h [
        | inl lt ↦ get_or_append_left bytes source 0 k (omega arith) ∙ sym (cond-false (k / 4096 == i) (get_or source (k % 4096) 0) (get_or bytes k 0) (ne_eqb (k / 4096) i (λ e. absurd (omega arith))))
        | inr gt ↦
            get_or_past (bytes ++ source) k 0 (omega (arith, length-append bytes source)) ∙ sym (get_or_past bytes k 0 (omega arith))
            ∙ sym (cond-false (k / 4096 == i) (get_or source (k % 4096) 0) (get_or bytes k 0) (ne_eqb (k / 4096) i (λ e. absurd (omega arith))))
      ]
    ]

whole_frame : (f i : ℕ) → i < 4096 → is_among (4096 * f) 4096 (4096 * f + i) ≡ true
whole_frame f i lt = grind (arith, nat_tests)

other_frame : (f g i : ℕ) → i < 4096 → (g ≡ f → ⊥) → is_among (4096 * f) 4096 (4096 * g + i) ≡ false
other_frame f g i lt ne = elim (cases_order g f) [
  | inl e ↦ absurd (ne e)
  | inr h ↦ elim h [ inl less ↦ grind (arith, nat_tests) | inr more ↦ grind (arith, nat_tests) ]
]

-- bytes that are put over a whole frame fill it
pub fills : (old new source : List ℕ) (f : ℕ) → length source ≡ 4096 → PutsBytes old new (4096 * f) source → FillsPage old new f source
fills old new source f len puts k =
    let split : 4096 * (k / 4096) + k % 4096 ≡ k = omega arith in
    puts k ∙ ap (λ n. cond (is_among (4096 * f) n k) (get_or source (k - 4096 * f) 0) (get_or old k 0)) len
    ∙ elim (cases_eq (k / 4096) f) [
      | inl e ↦
          let among : is_among (4096 * f) 4096 k ≡ true = ap (is_among (4096 * f) 4096) (sym split ∙ ap (λ g. 4096 * g + k % 4096) e) ∙ whole_frame f (k % 4096) (omega arith) in
          let cell : k - 4096 * f ≡ k % 4096 = omega arith in
          cond-true _ _ _ among ∙ ap (λ i. get_or source i 0) cell ∙ sym (cond-true (k / 4096 == f) (get_or source (k % 4096) 0) (get_or old k 0) (eq-eqb (k / 4096) f e))
      | inr ne ↦
          let among : is_among (4096 * f) 4096 k ≡ false = ap (is_among (4096 * f) 4096) (sym split) ∙ other_frame f (k / 4096) (k % 4096) (omega arith) ne in
          cond-false _ _ _ among ∙ sym (cond-false (k / 4096 == f) (get_or source (k % 4096) 0) (get_or old k 0) (ne_eqb (k / 4096) f ne))
    ]

pub part_at : (xs : List ℕ) (from n i : ℕ) → i < n → get_or (take (from + n - from) (drop from xs)) i 0 ≡ get_or xs (from + i) 0
part_at xs from n i lt =
    let len : from + n - from ≡ n = omega arith in
    ap (λ k. get_or (take k (drop from xs)) i 0) len ∙ get_or-take n (drop from xs) i 0 lt ∙ get_or-drop from xs i 0

pub length_part : (xs : List ℕ) (from n : ℕ) → from + n ≤ length xs → length (take (from + n - from) (drop from xs)) ≡ n
length_part xs from n le =
    let len : from + n - from ≡ n = omega arith in
    ap (λ k. length (take k (drop from xs))) len ∙ length-take-le n (drop from xs) (omega (arith, length-drop from xs))

-- a frame that is handed out has its bytes
pub given_in : (given : List Bool) (f : ℕ) → get_or given f false ≡ true → f < length given
given_in given f h = elim (cases_lt f (length given)) [
  | inl lt ↦ lt
  | inr ge ↦ absurd (let none : get_or given f false ≡ false = get_or_past given f false ge in cc)
]

pub frame_in : (given : List Bool) (bytes : List ℕ) (f : ℕ) → length bytes ≡ 4096 * length given → get_or given f false ≡ true → 4096 * f + 4096 ≤ length bytes
frame_in given bytes f len h = let lt = given_in given f h in omega arith

pub given_below : (given : List Bool) (f n : ℕ) → length given ≤ n → get_or given f false ≡ true → f < n
given_below given f n le h = let lt = given_in given f h in omega arith

pub ruleset pool_rules = (given_count-le, given_count-set, given_count-clear, given_count-push, given_count-none, given-set, given-push, bytes-push, part_at, length_part, frame_in, given_below)

pub spare_few : (given : List Bool) (f n : ℕ) → get_or given f false ≡ true → n + given_count given ≡ length given → n < length given
spare_few given f n h adds =
    let less = given_count-clear given f (given_in given f h) h in
    omega arith
